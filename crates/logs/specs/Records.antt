-- A log as its records (document 02, 2026-12): "the mark 4D 42, a length of 0 to 4096 in two bytes, high first, and that many bytes".
-- Assumes nothing.
use Rattle.std.specs.Prelude.{List, [], ◌∷◌, ◌++◌, ℕ, ◌+◌, ◌-◌, ◌/◌, ◌%◌, ◌≤◌, length, Ok}
use Rattle.logs.specs.Log.{counted_in, Report}

abbrev pub recorded : List ℕ → List ℕ
recorded p = 0x4D ∷ 0x42 ∷ length p / 256 ∷ length p % 256 ∷ p

unfoldable pub logged : List (List ℕ) → List ℕ
logged [] = []
logged (p ∷ ps) = recorded p ++ logged ps

abbrev pub Short : List (List ℕ) → Type 0
Short [] = Unit {0}
Short (p ∷ ps) = (length p ≤ 4096) × Short ps

unfoldable pub over : (List ℕ → ℕ) → List (List ℕ) → ℕ
over f [] = 0
over f (p ∷ ps) = f p + over f ps

-- the four totals, each as the sum of what it counts in a record, at the end of the log
abbrev pub totals : List (List ℕ) → Report
totals ps = Ok (record {
  at = length (logged ps);
  records = over (λ p. 1) ps;
  frames = over (λ p. (counted_in p).frames) ps;
  inside = over (λ p. (counted_in p).inside) ps;
  other = over (λ p. length p - (counted_in p).inside) ps;
})
