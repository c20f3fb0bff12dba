-- On every good frame of the right length and within the crate's bounds, with a function below 128 that the driver serves as one of the crate's
-- eight or not at all, and but for the values that the crate does not test, the crate's chain of calls gives the reply of the driver, strict, and
-- leaves the driver's tables, whether the request is served, refused or ignored.
-- Assumes nothing.
use mathlib.Core.Logic.{◌⊎◌, inl, by_cases}
use mathlib.Core.Path.{◌≡◌, refl, sym, ap, ◌∙◌, subst}
use mathlib.Core.List.{List, []}
use Prim.Native.Nat.{ℕ, ◌≤◌}
use native.Mathlib.Omega.{arith}
use lib.ListN.{length}
use Rattle.modbus.specs.Step.{stop, ◌and?◌}
use Rattle.modbus.specs.Bytes.{Bytes}
use Rattle.modbus.specs.Ported.{Ported, reads, one, many, code_of}
use Rattle.modbus.specs.Request.{Fn, code, offered}
use Rattle.modbus.specs.Setup.{Setup, proto}
use Rattle.modbus.specs.Unit.{Broadcast, broadcast?, Ours}
use Rattle.modbus.specs.Decode.{Message, unit_of, number_of, Silent, IsRead, is_read?, Lengthy}
use Rattle.modbus.specs.Drive.{Fault, quiet, coded, spelled, weigh, judge, settle, drive}
use Rattle.modbus.proofs.StepLaws.{bound_stop, needed_stop, pick_yes}
use Rattle.modbus.proofs.FrameLaws.{complete}
use Rattle.modbus.proofs.FindLaws.{found_fn, found_fault}
use Rattle.modbus.proofs.DriveLaws.{by_judge}
use Rattle.tables.specs.Lent.{Lent}
use Rattle.driver.specs.Driven.{Call, setup_of, called}
use Rattle.demands.specs.Order.{Sent}
use Rattle.chain.specs.Chain.{chained_to, as_fn, Shared, Bounded, fullest, chained_on, AsDriven, Untested}
use Rattle.demands.proofs.Judge.{judged, judge_sent}
use Rattle.chain.proofs.Shared.{as_code}
use Rattle.chain.proofs.Response.{nothing_line, gives}
use Rattle.chain.proofs.Laid.{laid}
use Rattle.chain.proofs.Faults.{chain_foreign, chain_ignored}
use Rattle.chain.proofs.Verdicts.{strictly, Why, no_function, bad_value, bad_address, refused}
use Rattle.chain.proofs.Served.{served}
use Rattle.chain.proofs.Excepted.{least_two, excepted_alike}

why_sent : {s : Setup} {f : List ℕ} {m : Message} (x : ℕ) → Why s f m x → Sent s f m
why_sent x (no_function h r low none) = h
why_sent x (bad_value fn k n w) = k.sent
why_sent x (bad_address fn k n w i) = k.sent

-- a frame holds one message
same_message : (s : Setup) (f : List ℕ) (m n : Message) → Sent s f m → Sent s f n → m ≡ n
same_message s f m n h k =
    let a = complete (proto s) m.tag m.body (spelled s f) h.framed in
    let b = complete (proto s) n.tag n.body (spelled s f) k.framed in
    cc

-- a fault with a code is no silent one
no_silence : {C : Type 0} {m : Message} {x : ℕ} {o : Silent} → coded m x ≡ quiet o → C
no_silence e = let z : ◌≡◌ {A = ℕ} 0 1 = cc in absurd (omega arith)

module _ (lent : Call) (out : List ℕ) (y : Bytes lent.frame) (strict : lent.numbers.hex ≡ 0) where
  abbrev s : Setup
  s = setup_of lent

  abbrev l : Lent
  l = lent.tables

  module _ (room : fullest (proto s) ≤ length out) (m : Message) (h : Sent s lent.frame m) (low : number_of m ≤ 127)
      (shared : Shared (number_of m)) (within : Bounded (proto s) m.body)
      (fits : (fn : Ported) → number_of m ≡ code_of fn → Lengthy (as_fn fn) m.body × (¬ Untested fn m.body)) where
    two : 2 ≤ length m.body
    two = omega (arith, h.framed.low, least_two (proto s))

    silent_alike : (o : Silent) → judge s lent.frame ≡ stop (quiet o)
        → chained_on lent out ≡ chained_to 0 [] l.coil_bytes l.holding_bytes
        → AsDriven lent out
    unfolding called drive settle
    silent_alike o e w = rw e (gives w (nothing_line (proto s)))

    ignored : (fn : Ported) → number_of m ≡ code_of fn → Broadcast s (unit_of m) → IsRead (as_fn fn)
        → chained_on lent out ≡ chained_to 0 [] l.coil_bytes l.holding_bytes
    unfolding Broadcast
    ignored (reads t) c b i =
        let held = laid (proto s) m.tag m.body lent.frame (strictly s lent.frame strict h.framed) within in
        chain_ignored held.0 (record { room = room; listed = pick_yes _ _ _ b; ours = inl b }) l t refl c two
    ignored (one k) c b i = absurd i
    ignored (many k) c b i = absurd i

    foreign_ignored : ¬ (Broadcast s (unit_of m) ⊎ Ours s (unit_of m))
        → chained_on lent out ≡ chained_to 0 [] l.coil_bytes l.holding_bytes
    unfolding Broadcast Ours
    foreign_ignored n =
        chain_foreign (laid (proto s) m.tag m.body lent.frame (strictly s lent.frame strict h.framed) within).0 s.unit s.broadcasts out (omega (arith, two)) n l

    by_fault : (x : Fault) → judge s lent.frame ≡ stop x → AsDriven lent out
    unfolding weigh
    by_fault (coded n x) e =
        let why = refused s lent.frame n x y e in
        let z = same_message s lent.frame m n h (why_sent x why) in
        excepted_alike lent out y strict room n x (subst (λ k. Shared (number_of k)) z shared)
        (subst (λ k. Bounded (proto s) k.body) z within)
        (subst (λ k. (fn : Ported) → number_of k ≡ code_of fn → ¬ Untested fn k.body) z (λ fn c. (fits fn c).1)) e
    by_fault (quiet o) e =
        needed_stop _ _ _ (sym (judge_sent s lent.frame m h) ∙ e) (λ n _. silent_alike o e (foreign_ignored n)) λ reached e'.
        bound_stop _ _ e' (λ e₁.
        needed_stop _ _ _ e₁ (λ n _. absurd (n low)) λ _ e₂.
        bound_stop _ _ e₂ (λ q. no_silence (found_fault code _ _ (offered (proto s)) q)) λ f found e₃.
        let (fn, z) = shared f (found_fn code _ _ _ f found) in
        let c = found_fn code _ _ _ f found ∙ ap code z ∙ as_code fn in
        needed_stop _ _ _ e₃
        (λ n _.
        by_cases (broadcast? s (unit_of m) and? is_read? f) (λ (b, i). silent_alike o e (ignored fn c b (subst IsRead z i)))
        (λ k. absurd (n k))) λ heeded e₄.
        needed_stop _ _ _ e₄ (λ n _. absurd (n (subst (λ (g : Fn). Lengthy g m.body) (sym z) (fits fn c).0))) λ _ e₅.
        needed_stop _ _ _ e₅ (λ _ q. no_silence q) λ _ e₆.
        needed_stop _ _ _ e₆ (λ _ q. no_silence q) λ _ e₇.
        let x : ◌≡◌ {A = ℕ} 0 1 = cc in absurd (omega arith))
        (λ a w q. let x : ◌≡◌ {A = ℕ} 0 1 = cc in absurd (omega arith))

    pub alike : AsDriven lent out
    alike =
        by_judge s lent.frame by_fault
        (λ n a e.
        let (f, j) = judged s lent.frame y n a e in
        let z = same_message s lent.frame m n h j.known.sent in
        served lent out y strict room n a (subst (λ k. Shared (number_of k)) z shared)
        (subst (λ k. Bounded (proto s) k.body) z within) e)
