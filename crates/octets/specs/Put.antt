-- Bytes read and put at a place that may lie outside.
-- Assumes nothing.
use Rattle.std.specs.Prelude.{Bool, List, ℕ, ltb, length, get_or, set}

abbrev pub byte_at : List ℕ → ℕ → ℕ
byte_at s i = get_or s i 0

-- whether there was room, and the bytes after it; `set` changes nothing where the place lies outside
abbrev pub put_byte : List ℕ → ℕ → ℕ → Bool × List ℕ
put_byte s i b = (ltb i (length s), set s i b)
