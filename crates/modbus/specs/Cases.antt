-- Document 01's case l and the text of case j, as data.
-- Assumes nothing.
use Rattle.std.specs.Prelude.{List, [], ◌∷◌, ℕ}

-- what the CRC is taken of, and what it is
abbrev pub case_l : List (List ℕ × ℕ)
case_l = ([], 0xFFFF) ∷ (0x00 ∷ [], 0x40BF) ∷ (0xFF ∷ [], 0x00FF) ∷ []

-- the bodies of the request and of the reply, and the lines `:010300000002FA` and `:01030401020304EE`, each with CR LF
abbrev pub case_j : List (List ℕ × List ℕ)
case_j = (
  0x01 ∷ 0x03 ∷ 0x00 ∷ 0x00 ∷ 0x00 ∷ 0x02 ∷ [],
  58 ∷ 48 ∷ 49 ∷ 48 ∷ 51 ∷ 48 ∷ 48 ∷ 48 ∷ 48 ∷ 48 ∷ 48 ∷ 48 ∷ 50 ∷ 70 ∷ 65 ∷ 13 ∷ 10 ∷ [],
)
    ∷ (
      0x01 ∷ 0x03 ∷ 0x04 ∷ 0x01 ∷ 0x02 ∷ 0x03 ∷ 0x04 ∷ [],
      58 ∷ 48 ∷ 49 ∷ 48 ∷ 51 ∷ 48 ∷ 52 ∷ 48 ∷ 49 ∷ 48 ∷ 50 ∷ 48 ∷ 51 ∷ 48 ∷ 52 ∷ 69 ∷ 69 ∷ 13 ∷ 10 ∷ [],
    )
    ∷ []
