-- A run of cells as one number.
-- Assumes nothing.
use Rattle.std.specs.Prelude.{List, [], ◌∷◌, ℕ, ◌+◌, ◌*◌}

-- the number that has these bits, the first lowest
unfoldable pub binary : List ℕ → ℕ
binary [] = 0
binary (b ∷ l) = b + 2 * binary l
