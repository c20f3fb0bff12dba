-- What a verdict of the driver tells of the frame, and what the driver then replies.
-- Assumes nothing.
use mathlib.Core.Bool.{Bool, true, false}
use mathlib.Core.Logic.{◌⊎◌, ◌≢◌}
use mathlib.Core.Path.{◌≡◌, refl, ap, ◌∙◌, subst}
use mathlib.Core.List.{List, [], ◌∷◌}
use Prim.Native.Nat.{ℕ, ◌≤◌}
use native.Mathlib.Omega.{arith}
use Rattle.modbus.specs.Step.{Step, stop, go, choose}
use Rattle.modbus.specs.Bytes.{Bytes}
use Rattle.modbus.specs.Request.{Fn, code, offered, exception, Ask, answer, seen, found, apply}
use Rattle.modbus.specs.Frame.{wrap, Framed}
use Rattle.modbus.specs.Setup.{Setup, proto}
use Rattle.modbus.specs.Unit.{listed?, Broadcast, broadcast?, Ours}
use Rattle.modbus.specs.Decode.{Message, unit_of, number_of, Silent, Lengthy, Valued, asked}
use Rattle.modbus.specs.Drive.{Inside, Fault, quiet, coded, spelled, weigh, judge, Result, settle, drive}
use Rattle.modbus.proofs.StepLaws.{bound_stop, needed_stop, pick_yes, pick_no, holds, holds_not}
use Rattle.modbus.proofs.FrameLaws.{sound, bytes_spelled}
use Rattle.modbus.proofs.FindLaws.{find_fn, found_fn, found_none, found_fault}
use Rattle.modbus.proofs.DriveLaws.{went_quietly, stopped_quietly}
use Rattle.demands.specs.Order.{Sent, Known}
use Rattle.demands.proofs.Spelled.{strict_same}
use Rattle.tables.specs.Lent.{Lent, tables_of}
use Rattle.driver.specs.Driven.{Call, setup_of}
use Rattle.chain.specs.Chain.{spoken}

-- strict, the frame is as it stands: the crate's calls know no other reading
pub strictly : (s : Setup) (f : List ℕ) → s.hex ≡ 0 → {tag body : List ℕ} → Framed (proto s) tag body (spelled s f) → Framed (proto s) tag body f
strictly s f e {tag} {body} h = subst (Framed (proto s) tag body) (strict_same s f e) h

-- ---- a frame that is refused with a code

pub data Why (s : Setup) (f : List ℕ) (m : Message) : ℕ → Type 0 where
  no_function : Sent s f m → Broadcast s (unit_of m) ⊎ Ours s (unit_of m) → number_of m ≤ 127
      → ((fn : Fn) → number_of m ≢ code fn) → Why s f m 1
  bad_value : (fn : Fn) → Known s f m fn → Lengthy fn m.body → ¬ Valued fn m.body → Why s f m 3
  bad_address : (fn : Fn) → Known s f m fn → Lengthy fn m.body → Valued fn m.body
      → ¬ Inside s (asked fn m.body) → Why s f m 2

-- a silent fault has no code
no_code : {C : Type 0} {o : Silent} {m : Message} {x : ℕ} → quiet o ≡ coded m x → C
no_code e = let z : ◌≡◌ {A = ℕ} 0 1 = cc in absurd (omega arith)

because : {s : Setup} {f : List ℕ} {n m : Message} {c x : ℕ} → coded n c ≡ coded m x → Why s f n c → Why s f m x
because {s} {f} {n} {m} {c} {x} e w =
    let z : ◌≡◌ {A = Message × ℕ} (n, c) (m, x) = cc in subst (λ v. Why s f v.0 v.1) z w

pub refused : (s : Setup) (f : List ℕ) (m : Message) (x : ℕ) → Bytes f → judge s f ≡ stop (coded m x) → Why s f m x
unfolding judge weigh
refused s f m x y e =
    needed_stop _ _ _ e (λ _ q. no_code q) λ valid e₁.
    needed_stop _ _ _ e₁ (λ _ q. no_code q) λ roomy e₂.
    bound_stop _ _ e₂ (λ q. stopped_quietly _ q λ _ _ z. no_code z) λ n unwrapped e₃.
    let sent : Sent s f n = record { valid = valid; roomy = roomy; framed = sound _ (spelled s f) n (bytes_spelled (proto s) s.hex f y) (went_quietly _ unwrapped) }
    in
    needed_stop _ _ _ e₃ (λ _ q. no_code q) λ reached e'.
    bound_stop _ _ e' (λ e₄.
    needed_stop _ _ _ e₄ (λ _ q. no_code q) λ low e₅.
    bound_stop _ _ e₅
    (λ q.
    because (found_fault code _ _ (offered (proto s)) q)
    (no_function sent reached low (found_none code _ _ (offered (proto s)) (find_fn _ _ (proto s)) q))) λ fn found e₆.
    needed_stop _ _ _ e₆ (λ _ q. no_code q) λ heeded e₇.
    let known : Known s f n fn =
    record { sent = sent; reached = reached; called = found_fn code _ _ _ fn found; heeded = heeded } in
    needed_stop _ _ _ e₇ (λ _ q. no_code q) λ lengthy e₈.
    needed_stop _ _ _ e₈ (λ k q. because q (bad_value fn known lengthy k)) λ valued e₉.
    needed_stop _ _ _ e₉ (λ k q. because q (bad_address fn known lengthy valued k)) λ inside e₁₀.
    let z : ◌≡◌ {A = ℕ} 0 1 = cc in absurd (omega arith))
    (λ a w q. let z : ◌≡◌ {A = ℕ} 0 1 = cc in absurd (omega arith))

-- ---- the driver's reply

module _ (lent : Call) where
  abbrev s : Setup
  s = setup_of lent

  abbrev l : Lent
  l = lent.tables

  module _ (m : Message) (b : Bool) (e : choose (listed? (unit_of m) s.broadcasts) true false ≡ b) where
    -- to us, or to nobody
    chosen_reply : (b : Bool) → choose (listed? (unit_of m) s.broadcasts) true false ≡ b → (x y : Result) (r : List ℕ)
        → x.reply ≡ [] → y.reply ≡ r
        → (choose (broadcast? s (unit_of m)) x y).reply ≡ spoken b r
    unfolding Broadcast broadcast?
    chosen_reply true e x y r p q = ap (λ (z : Result). z.reply) (pick_yes _ _ _ (holds _ _ refl e)) ∙ p
    chosen_reply false e x y r p q = ap (λ (z : Result). z.reply) (pick_no _ _ _ (holds_not _ _ refl e)) ∙ q

    pub served_reply : (a : Ask) → judge s lent.frame ≡ go (m, a)
        → (drive s (tables_of l) lent.frame).reply
        ≡ spoken b (wrap (proto s) m.tag (unit_of m ∷ answer a (found a (seen (apply a (tables_of l))))))
    unfolding drive settle
    served_reply a j =
        ap (λ (v : Step Fault (Message × Ask)). (settle s (tables_of l) v).reply) j ∙ chosen_reply b e _ _ _ refl refl

    pub refused_reply : (x : ℕ) → judge s lent.frame ≡ stop (coded m x)
        → (drive s (tables_of l) lent.frame).reply ≡ spoken b (wrap (proto s) m.tag (unit_of m ∷ exception (number_of m) x))
    unfolding drive settle
    refused_reply x j =
        ap (λ (v : Step Fault (Message × Ask)). (settle s (tables_of l) v).reply) j ∙ chosen_reply b e _ _ _ refl refl
