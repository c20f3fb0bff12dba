-- Lines of text, for the contracts of private functions.
-- Assumes nothing.
use Rattle.std.specs.Prelude.{◌≡◌, ℕ, ◌+◌, ◌-◌, ◌<◌, ◌≤◌, List, [], ◌∷◌, length, take, drop, slice_index, slice_index_or}
use Rattle.modbus.specs.Step.{◌≤?◌, ◌≟◌, ◌and?◌, same?}
use Rattle.modbus.specs.Bytes.{All}
use Rattle.ascii.specs.Plain.{Digit}

-- a colon, CR and LF around a text of a length within the bounds
abbrev pub Lined : List ℕ → Type 0
Lined f = (9 ≤ length f) × ((length f ≤ 511) × ((slice_index f 0 ≡ 58) × (drop (length f - 2) f ≡ 13 ∷ 10 ∷ [])))

abbrev pub lined? : (f : List ℕ) → Dec (Lined f)
lined? f = (9 ≤? length f) and? (length f ≤? 511) and? (slice_index_or f 0 0 ≟ 58) and? same? (drop (length f - 2) f) (13 ∷ 10 ∷ [])

-- ---- a line of seven bytes

-- the n characters from `at` on are digits
abbrev pub Digits : List ℕ → ℕ → ℕ → Type 0
Digits s at n = (i : ℕ) → i < n → Digit (slice_index s (at + i))

-- 14 digits behind the first character, and two characters behind them
abbrev pub ShortLine : List ℕ → Type 0
ShortLine f = (length f ≡ 17) × All Digit (drop 1 (take 15 f))
