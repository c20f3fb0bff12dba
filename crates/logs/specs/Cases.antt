-- Logs and what they come to (document 02, 2026-12), as data; and fronts of a log at an offset near the last that a log may have.
-- Assumes nothing.
use Rattle.std.specs.Prelude.{List, [], ◌∷◌, ◌++◌, ℕ, length, Some, None, Ok, Err}
use Rattle.logs.specs.Log.{Peek, Report}
use Rattle.logs.specs.declared.Fault.TheVariants.{BadMark, BadRecord, TooLong}

-- the read of register 0 of unit 1, its reply, and a frame of four bytes
abbrev asked : List ℕ
asked = 0x01 ∷ 0x03 ∷ 0x00 ∷ 0x00 ∷ 0x00 ∷ 0x01 ∷ 0x84 ∷ 0x0A ∷ []

abbrev replied : List ℕ
replied = 0x01 ∷ 0x03 ∷ 0x02 ∷ 0x01 ∷ 0x02 ∷ 0x38 ∷ 0x15 ∷ []

abbrev least : List ℕ
least = 0x01 ∷ 0x07 ∷ 0x41 ∷ 0xE2 ∷ []

abbrev marked : ℕ → List ℕ → List ℕ
marked n l = 0x4D ∷ 0x42 ∷ 0x00 ∷ n ∷ l

-- a log, and the four totals at its end
abbrev comes_to : List ℕ → ℕ → ℕ → ℕ → ℕ → List ℕ × Report
comes_to l r f i o = (l, Ok (record { at = length l; records = r; frames = f; inside = i; other = o }))

abbrev pub logs : List (List ℕ × Report)
logs =
    comes_to (marked 3 (0x01 ∷ 0x02 ∷ 0x03 ∷ [])) 1 0 0 3
    ∷ comes_to [] 0 0 0 0
    ∷ comes_to (marked 0 []) 1 0 0 0
    ∷ comes_to (marked 8 asked) 1 1 8 0
    ∷ comes_to (marked 18 (0x00 ∷ 0xFF ∷ asked ++ (replied ++ (0x55 ∷ [])))) 1 2 15 3
    ∷ comes_to (marked 4 least) 1 1 4 0
    ∷ comes_to (marked 6 (least ++ (0x00 ∷ 0x00 ∷ []))) 1 1 4 2
    ∷ comes_to (marked 5 (0xFF ∷ 0xFF ∷ 0x00 ∷ 0x00 ∷ 0x00 ∷ [])) 1 1 4 1
    ∷ comes_to (marked 2 (0xFF ∷ 0xFF ∷ [])) 1 0 0 2
    ∷ comes_to (marked 8 asked ++ marked 4 least) 2 2 12 0
    ∷ (0x4D ∷ [], Err (BadRecord 0))
    ∷ (0x4D ∷ 0x42 ∷ 0x00 ∷ [], Err (BadRecord 0))
    ∷ (0x4E ∷ [], Err (BadMark 0))
    ∷ (0x4D ∷ 0x43 ∷ [], Err (BadMark 0))
    ∷ (marked 1 (0x01 ∷ 0x00 ∷ []), Err (BadMark 5))
    ∷ (marked 1 (0x01 ∷ 0x4E ∷ []), Err (BadMark 5))
    ∷ (marked 1 (0x01 ∷ 0x4D ∷ []), Err (BadRecord 5))
    ∷ (marked 1 (0x01 ∷ marked 2 (0x01 ∷ [])), Err (BadRecord 5))
    ∷ (0x4D ∷ 0x42 ∷ 0x10 ∷ 0x01 ∷ [], Err (BadRecord 0))
    ∷ []

abbrev pub fronts : List ((ℕ × List ℕ) × Peek)
fronts =
    ((4294967288, marked 3 (0x01 ∷ 0x02 ∷ 0x03 ∷ [])), Ok (Some 3))
    ∷ ((4294967289, marked 3 (0x01 ∷ 0x02 ∷ 0x03 ∷ [])), Err TooLong)
    ∷ ((4294967289, marked 3 (0x01 ∷ 0x02 ∷ [])), Ok None)
    ∷ ((4294967289, 0x4D ∷ 0x43 ∷ 0x00 ∷ 0x03 ∷ 0x01 ∷ 0x02 ∷ 0x03 ∷ []), Err (BadMark 4294967289))
    ∷ ((4294967289, 0x4D ∷ 0x42 ∷ 0x10 ∷ 0x01 ∷ []), Err (BadRecord 4294967289))
    ∷ ((0, 0x4D ∷ 0x42 ∷ 0x10 ∷ 0x00 ∷ []), Ok None)
    ∷ ((18446744073709551615, marked 0 []), Err TooLong)
    ∷ []
