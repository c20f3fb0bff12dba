-- The digits of a text; and a text of digits alone, for the contracts of private functions.
-- Assumes nothing.
use Rattle.std.specs.Prelude.{◌≡◌, ℕ, ◌+◌, ◌-◌, ◌*◌, ◌/◌, ◌≤◌, ◌⊎◌, List, [], ◌∷◌, length, take, drop, slice_index_or}
use Rattle.modbus.specs.Step.{choose, ◌≤?◌, ◌≟◌, ◌and?◌, ◌or?◌}
use Rattle.modbus.specs.Bytes.{All}

abbrev pub Digit : ℕ → Type 0
Digit c = ((48 ≤ c) × (c ≤ 57)) ⊎ ((65 ≤ c) × (c ≤ 70))

abbrev pub digit? : (c : ℕ) → Dec (Digit c)
digit? c = ((48 ≤? c) and? (c ≤? 57)) or? ((65 ≤? c) and? (c ≤? 70))

-- what a digit stands for
abbrev pub value : ℕ → ℕ
value c = choose (c ≤? 57) (c - 48) (c - 55)

-- what pairs of digits stand for
unfoldable pub pair_values : List ℕ → List ℕ
pair_values [] = []
pair_values (h ∷ []) = []
pair_values (h ∷ l ∷ t) = (value h * 16 + value l) ∷ pair_values t

-- where the digits start: behind a colon
abbrev pub begin : List ℕ → ℕ
begin s = choose (slice_index_or s 0 0 ≟ 58) 1 0

-- the first n bytes are whole pairs of digits, for which there is room in a buffer of `room` bytes from `at` on, below position 255
abbrev pub Plain : List ℕ → ℕ → ℕ → ℕ → Type 0
Plain s n room at =
    (1 ≤ n)
    × (n ≤ length s)
    × (begin s + 2 * ((n - begin s) / 2) ≡ n)
    × (at + (n - begin s) / 2 ≤ 254)
    × (at + (n - begin s) / 2 ≤ room)
    × All Digit (drop (begin s) (take n s))
