-- However the bytes were grouped: any run of calls of `offer` from an empty collector, and a call of `quiet`, each of which meets its contract as
-- the checker reads it (`Post`), serve all the bytes in a row as the driver does.
-- Assumes nothing.
use mathlib.Core.Logic.{◌⊎◌}
use mathlib.Core.Path.{◌≡◌, refl, sym, ap, ◌∙◌}
use mathlib.Core.List.{List, [], ◌∷◌, ◌++◌, append-nil, append_assoc}
use Prim.Native.Nat.{ℕ, ◌≤◌, ◌<◌}
use native.Mathlib.Omega.{arith}
use lib.ListN.{length, take, length-take}
use lib.Seq.{take_all, length-sets}
use contract.Lifetimes.{Lfts}
use borrow.Fn.Kinds.{Dens, res_t, ended_of}
use denote.Triple.Clauses.{Lasts, at_exit}
use Rattle.modbus.specs.Paper.{paper, told_with}
use Rattle.driver.specs.Driven.{Call, lending, framing, Leaves, leaving, called}
use Rattle.collector.specs.Collected.{held_in, holding, offered, joined, emptied, refusing, rtu_called, quieted, closed_paper, left_by}
use Rattle.collector.proofs.PartLaws.{take_again}
use Rattle.collector.proofs.CollectedLaws.{held_holding, held_emptied, offered_more, rtu_driven, rtu_other, quiet_nothing, quiet_served}
use Rattle.collector.proofs.FrameLaws.{called_cut, too_many}
use Rattle.collector.proofs.offer.Kinds as offer-kinds
use Rattle.collector.proofs.offer.Reads as offer-reads
use Rattle.collector.proofs.quiet.Kinds as quiet-kinds
use Rattle.collector.proofs.quiet.Reads as quiet-reads

-- calls of `offer` in a row, from one collector to another, a group of bytes each: its arguments `a`, its result `x`, what it leaves `u`
pub data Calls : List ℕ → List (List ℕ) → List ℕ → Type 0 where
  none : {s : List ℕ} → Calls s [] s
  more : (κs : Lfts 2) (a : Dens κs offer-kinds.ps) (x : (res_t offer-kinds.r κs).Denot) (u : Lasts (ended_of 2 offer-kinds.ps offer-kinds.r) κs a)
      (gs : List (List ℕ)) (t : List ℕ) → offer-reads.Post κs a x (at_exit (ended_of 2 offer-kinds.ps offer-kinds.r) κs a u)
      → Calls u.0 gs t → Calls a.0.now (a.1.0.now ∷ gs) t

-- one call: what it leaves holds the bytes before and those offered, up to 257
module _ (s b t : List ℕ) (x : ℕ × ℕ) (post : ◌≡◌ {A = (ℕ × ℕ) × List ℕ} (x, t) (told_with s (offered s b))) (long : 259 ≤ length s) where
  left : t ≡ holding s (take 257 (held_in s ++ b))
  left = ap (λ (p : (ℕ × ℕ) × List ℕ). p.1) (post ∙ ap (told_with s) (offered_more s b long))

  left_long : 259 ≤ length t
  left_long = rw left (simp length-sets long)

  left_held : held_in t ≡ take 257 (held_in s ++ b)
  left_held = ap held_in left ∙ held_holding s (take 257 (held_in s ++ b)) long (simp length-take (omega arith))

-- all of them
pub calls_hold : {s : List ℕ} {gs : List (List ℕ)} {t : List ℕ} → Calls s gs t → 259 ≤ length s → length (held_in s) ≤ 257
    → (259 ≤ length t) × (held_in t ≡ take 257 (held_in s ++ joined gs))
calls_hold {s} none h k = (h, sym (take_all 257 (held_in s ++ []) (rw (append-nil (held_in s)) k) ∙ append-nil (held_in s)))
calls_hold (more κs a x u gs t p cs) h k =
    let s = a.0.now in
    let b = a.1.0.now in
    let v = u.0 in
    let e = left_held s b v (paper x) p h in
    let (m, f) = calls_hold cs (left_long s b v (paper x) p h) (rw e (simp length-take (omega arith))) in (
      m,
      f ∙ ap (λ (r : List ℕ). take 257 (r ++ joined gs)) e ∙ take_again 257 (held_in s ++ b) (joined gs)
          ∙ ap (take 257) (append_assoc (held_in s) b (joined gs)),
    )

-- a call of `quiet`: its arguments `a`, its result `x`, what it leaves at the exit `u`, and that these meet the contract
module _ (κs : Lfts 7) (a : Dens κs quiet-kinds.ps) (x : (res_t quiet-kinds.r κs).Denot) (u : Lasts (ended_of 7 quiet-kinds.ps quiet-kinds.r) κs a)
    (post : quiet-reads.Post κs a x (at_exit (ended_of 7 quiet-kinds.ps quiet-kinds.r) κs a u)) where
  abbrev pub state : List ℕ
  state = a.1.1.1.1.1.1.0.now

  -- what is lent beside the collector
  abbrev pub lent : Call
  lent =
      lending a.0 a.1.0.now a.1.1.0.now a.1.1.1.0.now a.1.1.1.1.0.now a.1.1.1.1.1.0.now []
      a.1.1.1.1.1.1.1.0.now

  -- the collector at the exit; the result, in numbers, and the reply buffer, the coils and the holdings
  abbrev pub state_after : List ℕ
  state_after = u.1.1.1.1.1.1.0

  abbrev pub leaves : Leaves
  leaves = leaving (closed_paper x) u.1.1.1.1.1.1.1.0 u.1.1.0 u.1.1.1.1.0

  in_numbers : ◌≡◌ {A = Leaves × List ℕ} (leaves, state_after) (left_by (quieted state lent))
  in_numbers = ap left_by post

  -- with nothing held it does nothing, whatever else is lent
  pub nothing_held : held_in state ≡ [] → ◌≡◌ {A = Leaves × List ℕ} (leaves, state_after) (refusing 13 lent, state)
  nothing_held e = in_numbers ∙ ap left_by (quiet_nothing state lent e)

  -- with bytes held, it is the frame's call, and the collector is emptied
  some_held : (f : List ℕ) → held_in state ≡ f → 1 ≤ length f → ◌≡◌ {A = Leaves × List ℕ} (leaves, state_after) (rtu_called (framing lent f), emptied state)
  some_held f e h = in_numbers ∙ ap left_by (quiet_served state lent f e h)

  -- every quiet signal empties it
  pub empties : held_in state_after ≡ []
  empties = by (held_in state) refl
    where
      by : (f : List ℕ) → held_in state ≡ f → held_in state_after ≡ []
      by [] e = ap (λ (p : Leaves × List ℕ). held_in p.1) (nothing_held e) ∙ e
      by (b ∷ f) e = ap (λ (p : Leaves × List ℕ). held_in p.1) (some_held (b ∷ f) e (omega arith)) ∙ held_emptied state

  -- another transport than 0, with bytes held: BadSetup, and the collector is emptied
  pub other_transport : 1 ≤ length (held_in state) → ¬ (lent.numbers.transport ≡ 0)
      → ◌≡◌ {A = Leaves × List ℕ} (leaves, state_after) (refusing 10 lent, emptied state)
  other_transport h z =
      some_held (held_in state) refl h ∙ ap (λ (g : Leaves). (g, emptied state)) (rtu_other (framing lent (held_in state)) z)

  -- after calls of `offer` from an empty collector, f being all their bytes in a row
  module _ (s : List ℕ) (gs : List (List ℕ)) (calls : Calls s gs state) (long : 259 ≤ length s) (fresh : held_in s ≡ []) where
    abbrev pub frame : List ℕ
    frame = joined gs

    pub collected : held_in state ≡ take 257 frame
    collected = (calls_hold calls long (rw fresh (omega arith))).1 ∙ ap (λ (r : List ℕ). take 257 (r ++ frame)) fresh

    -- no byte in all the groups
    pub no_byte : frame ≡ [] → ◌≡◌ {A = Leaves × List ℕ} (leaves, state_after) (refusing 13 lent, state)
    no_byte e = nothing_held (collected ∙ ap (take 257) e)

    some_byte : 1 ≤ length frame → leaves ≡ rtu_called (framing lent (take 257 frame))
    some_byte h = ap (λ (p : Leaves × List ℕ). p.0) (some_held (take 257 frame) collected (simp length-take (omega arith)))

    -- however the bytes were grouped: outcome, code, length, reply, coils and holdings are the driver's of the whole frame
    pub however_grouped : 1 ≤ length frame → lent.numbers.transport ≡ 0 → leaves ≡ called (framing lent frame)
    however_grouped h z = some_byte h ∙ rtu_driven (framing lent (take 257 frame)) z ∙ called_cut lent frame z

    -- a 257th byte makes the frame broken, whatever it and those after it are: 10, 9 or 5, in document 01's order
    pub broken : 256 < length frame → (leaves ≡ refusing 10 lent) ⊎ ((leaves ≡ refusing 9 lent) ⊎ (leaves ≡ refusing 5 lent))
    broken h =
        rw (some_byte (omega arith)) (too_many (framing lent (take 257 frame)) (simp length-take (omega arith)))
