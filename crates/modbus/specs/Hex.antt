-- Hexadecimal text (SER 2.5.2: each byte is sent as two characters 0-9, A-F). Lower-case digits are FrameBroken (document 01,
-- module 1), but for a reading that is lenient (document 02, 2026-06).
-- Assumes nothing.
use Rattle.std.specs.Prelude.{List, [], ◌∷◌, map, ℕ, zero, suc, ◌+◌, ◌-◌, ◌*◌, ◌/◌, ◌%◌}
use Rattle.modbus.specs.Step.{Step, stop, go, ◌>>=◌, ◌>>◌, need, choose, ◌≤?◌, ◌and?◌}
use Rattle.modbus.specs.declared.ErrorKind.{ErrorKind}
use Rattle.modbus.specs.declared.ErrorKind.TheVariants.{OOB, FrameBroken}

-- the character of a digit: 0 stands at 48, A at 65
unfoldable pub digit : ℕ → ℕ
digit n = choose (n ≤? 9) (48 + n) (55 + n)

-- what a character stands for
unfoldable pub undigit : ℕ → Step ErrorKind ℕ
undigit c =
    choose ((48 ≤? c) and? (c ≤? 57)) (go (c - 48))
    (choose ((65 ≤? c) and? (c ≤? 70)) (go (c - 55)) (stop FrameBroken))

-- ---- either case (document 02, 2026-06)

-- what a character stands for, and of which kind it is: 0 a number, 1 a capital, 2 a small letter
unfoldable pub kinded : ℕ → Step ErrorKind (ℕ × ℕ)
kinded c =
    choose ((48 ≤? c) and? (c ≤? 57)) (go (c - 48, 0))
    (choose ((65 ≤? c) and? (c ≤? 70)) (go (c - 55, 1))
    (choose ((97 ≤? c) and? (c ≤? 102)) (go (c - 87, 2)) (stop FrameBroken)))

-- a small letter's capital; any other character is its own
unfoldable pub raised : ℕ → ℕ
raised c = choose ((97 ≤? c) and? (c ≤? 102)) (c - 32) c

-- a character as the switch has it read: 0, strict, as it stands; 1, lenient, a small letter as its capital
unfoldable pub spell : ℕ → ℕ → ℕ
spell zero c = c
spell (suc h) c = raised c

-- and a text
unfoldable pub spelt : ℕ → List ℕ → List ℕ
spelt h l = map (spell h) l

-- ---- text

-- the crate's character of any byte: the same sums, which from 201 on no byte holds (document 01: OOB)
unfoldable pub character : ℕ → Step ErrorKind ℕ
character n = need (digit n ≤? 255) OOB >> go (digit n)

-- bytes as text, the high digit first
unfoldable pub text : List ℕ → List ℕ
text [] = []
text (b ∷ l) = digit (b / 16) ∷ digit (b % 16) ∷ text l

-- text as bytes; a digit without a second one is FrameBroken
unfoldable pub untext : List ℕ → Step ErrorKind (List ℕ)
untext [] = go []
untext (h ∷ []) = stop FrameBroken
untext (h ∷ l ∷ r) = do
  a ← undigit h
  b ← undigit l
  bs ← untext r
  go ((a * 16 + b) ∷ bs)
