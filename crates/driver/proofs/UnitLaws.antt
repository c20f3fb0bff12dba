-- Whom the unit number means.
-- Assumes nothing.
use mathlib.Core.Logic.{inl, ⊎_elim}
use mathlib.Core.Path.{◌≡◌, sym}
use mathlib.Core.List.{List, [], ◌∷◌}
use Prim.Native.Nat.{ℕ}
use native.Mathlib.Omega.{arith}
use lib.ListN.{length, get_or}
use Rattle.modbus.specs.Unit.{Listed}

-- a list of one
pub one_listed : (l : List ℕ) (u : ℕ) → length l ≡ 1 → get_or l 0 0 ≡ u → Listed u l
one_listed [] u h e = absurd (omega arith)
one_listed (x ∷ []) u h e = inl (sym e)
one_listed (x ∷ y ∷ l) u h e = absurd (omega arith)

pub one_unlisted : (l : List ℕ) (u : ℕ) → length l ≡ 1 → ¬ (get_or l 0 0 ≡ u) → ¬ Listed u l
one_unlisted [] u h n = absurd (omega arith)
one_unlisted (x ∷ []) u h n = ⊎_elim (λ e. n (sym e)) (λ k. k)
one_unlisted (x ∷ y ∷ l) u h n = absurd (omega arith)
