-- What a put that says whether there was room tells: where its last byte stands, and what it left. And the library's search for a byte, beside the
-- list of unit numbers.
-- Assumes nothing.
use mathlib.Core.Path.{◌≡◌, sym, ap, ◌∙◌}
use mathlib.Core.Bool.{Bool, true, false, not}
use mathlib.Core.List.{List}
use Prim.Native.Nat.{ℕ, ◌<◌, ◌≤◌}
use borrow.Author.Tests.{ltb-true, ltb-false, not-true, not-false}
use lib.Dec.{ltb}
use mathlib.Core.Logic.{inl, inr, by_cases}
use Rattle.std.specs.Prelude.{nat_eq, [], ◌∷◌}
use Rattle.std.proofs.lemmas.Bool.Decides.{eqb_tells}
use Rattle.std.specs.List.{list_any}
use Rattle.modbus.specs.Step.{choose}
use Rattle.modbus.specs.Unit.{listed?}
use Rattle.modbus.proofs.StepLaws.{pick_yes, pick_no}

module _ (r : Bool) (after l : List ℕ) (i n : ℕ) (e : ◌≡◌ {A = Bool × List ℕ} (r, after) (ltb i n, l)) where
  pub no_room : not r ≡ true → (n ≤ i) × (after ≡ l)
  no_room h =
      (ltb-false i n (sym (ap (λ (p : Bool × List ℕ). p.0) e) ∙ not-true r h), ap (λ (p : Bool × List ℕ). p.1) e)

  pub had_room : not r ≡ false → (i < n) × (after ≡ l)
  had_room h =
      (ltb-true i n (sym (ap (λ (p : Bool × List ℕ). p.0) e) ∙ not-false r h), ap (λ (p : Bool × List ℕ). p.1) e)

pub found : (b : ℕ) (l : List ℕ) → list_any (λ y. nat_eq y b) l ≡ choose (listed? b l) true false
found b [] = sym (pick_no _ _ _ (λ h. h))
found b (x ∷ l) =
    rw (found b l)
    (elim (eqb_tells x b) [
      | inl e ↦ rw e.0 (sym (pick_yes _ _ _ (inl (sym e.1))))
      | inr n ↦ rw n.0
          (by_cases (listed? b l)
          (λ p. pick_yes _ _ _ p ∙ sym (pick_yes _ _ _ (inr p)))
          (λ q. pick_no _ _ _ q ∙ sym (pick_no _ _ _ (λ h. elim h [ inl e ↦ n.1 (sym e) | inr p ↦ q p ]))))
    ])
