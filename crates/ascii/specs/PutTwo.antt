-- Two bytes put one after the other at a place that may lie outside.
-- Assumes nothing.
use Rattle.std.specs.Prelude.{ℕ, suc, Bool, List, [], ◌∷◌, length, nat_lt}
use Rattle.std.proofs.lemmas.List.Edits.{sets}

-- whether there was room for both, and the bytes after it
abbrev pub put_two : List ℕ → ℕ → ℕ → ℕ → Bool × List ℕ
put_two s i a b = (nat_lt (suc i) (length s), sets s i (a ∷ b ∷ []))
