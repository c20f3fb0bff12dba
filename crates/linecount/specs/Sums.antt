-- Sums by which the frames of a record are found, and the tables for them (document 02, 2026-12; the register is SER's, 6.2.2).
-- Assumes nothing.
use Rattle.std.specs.Prelude.{◌≡◌, ℕ, ◌+◌, ◌-◌, ◌*◌, ◌/◌, ◌%◌, ◌<◌, ◌≤◌, List, map, length, drop, slice_index, slice_index_or}
use Rattle.modbus.specs.Step.{◌≤?◌, ◌≟◌, ◌and?◌}
use Rattle.modbus.specs.Check.{shifts, crc_from}
use Rattle.logs.specs.Search.{Seen, none, stood, lengths, longest}
use Rattle.logs.specs.Log.{rest}
use Rattle.logs.specs.declared.Counted.{Counted}
use Rattle.linecount.specs.declared.index.Place.{Place}

-- ---- the shortest frame that begins at s, or 0

abbrev pub length_of : Seen → ℕ
length_of none = 0
length_of (stood s n) = n

unfoldable pub shortest : List ℕ → ℕ → ℕ
shortest l s = length_of (lengths l s (longest (length l - s) - 3) 4 none)

-- ---- the sums

-- the register over what is left of the record from a place on: from 0, and from the start value
abbrev pub tail : List ℕ → ℕ → ℕ
tail l i = crc_from 0 (drop i l)

abbrev pub opened : List ℕ → ℕ → ℕ
opened l i = crc_from 0xFFFF (drop i l)

-- a half byte that is shifted 4 m times
abbrev pub power : ℕ → ℕ → ℕ
power m h = shifts (4 * m) (h * 16)

-- frames and bytes in one number
abbrev pub packed : Counted → ℕ
packed c = c.frames * 65536 + c.inside

-- ---- the tables

-- the first n entries are these
abbrev pub Filled : (ℕ → ℕ) → List ℕ → ℕ → Type 0
Filled f l n = (j : ℕ) → j < n → slice_index l j ≡ f j

abbrev pub Powers : List ℕ → ℕ → Type 0
Powers l n = Filled (λ j. power (j / 16) (j % 16)) l n

-- the start value that is shifted 8 k times
abbrev pub Openings : List ℕ → ℕ → Type 0
Openings l n = Filled (λ k. shifts (8 * k) 0xFFFF) l n

-- ---- the work on a record l: entry k is for the place where k bytes are left

abbrev pub sums : List Place → List ℕ
sums places = map (λ (p : Place). p.sum) places

abbrev pub counts : List Place → List ℕ
counts places = map (λ (p : Place). p.counted) places

abbrev pub Sums : List ℕ → List ℕ → ℕ → Type 0
Sums sums l n = Filled (λ k. tail l (length l - k)) sums n

-- what is counted from there on
abbrev pub Counts : List ℕ → List ℕ → ℕ → Type 0
Counts counts l n = Filled (λ k. packed (rest l (length l - k))) counts n

-- below b, the latest place with each sum that there is
abbrev pub Near : List ℕ → List ℕ → ℕ → Type 0
Near nearest l b =
    (k v : ℕ) → k < b → tail l (length l - k) ≡ v
    → (k ≤ slice_index nearest v) × (slice_index nearest v < b) × (tail l (length l - slice_index nearest v) ≡ v)

-- from k bytes left to h, 4 to 256 bytes, with the sum w at its end
abbrev pub Reaches : List ℕ → ℕ → ℕ → ℕ → Type 0
Reaches sums k h w = (h + 4 ≤ k) × ((k ≤ h + 256) × (slice_index sums h ≡ w))

abbrev pub reaches? : (sums : List ℕ) (k h w : ℕ) → Dec (Reaches sums k h w)
reaches? sums k h w = (h + 4 ≤? k) and? (k ≤? h + 256) and? (slice_index_or sums h 0 ≟ w)
