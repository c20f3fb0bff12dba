-- The first frame of a record (request 2026-12): starts rising, at each start lengths 4 to 256 rising, taken when the last two bytes are the
-- CRC of the rest.
-- Assumes nothing.
use Rattle.std.specs.Prelude.{◌≡◌, List, ℕ, zero, suc, ◌+◌, ◌-◌, ◌/◌, ◌%◌, min, length, take, drop, get_or, Option, Some, None}
use Rattle.modbus.specs.Step.{choose, ◌≟◌, ◌and?◌}
use Rattle.modbus.specs.Check.{crc}
use Rattle.logs.specs.declared.search.Frame.{Frame}

-- the two bytes before e are this CRC, low byte first
abbrev pub Ends : List ℕ → ℕ → ℕ → Type 0
Ends l e c = (get_or l (e - 2) 0 ≡ c % 256) × (get_or l (e - 1) 0 ≡ c / 256)

abbrev pub ends? : (l : List ℕ) (e c : ℕ) → Dec (Ends l e c)
ends? l e c = (get_or l (e - 2) 0 ≟ c % 256) and? (get_or l (e - 1) 0 ≟ c / 256)

-- n bytes from s on are a whole frame
abbrev pub Stands : List ℕ → ℕ → ℕ → Type 0
Stands l s n = Ends l (s + n) (crc (take (n - 2) (drop s l)))

abbrev pub stands? : (l : List ℕ) (s n : ℕ) → Dec (Stands l s n)
stands? l s n = ends? l (s + n) (crc (take (n - 2) (drop s l)))

pub data Seen : Type 0 where
  none : Seen
  stood : ℕ → ℕ → Seen

-- k lengths from n on, then what else is tried
unfoldable pub lengths : List ℕ → ℕ → ℕ → ℕ → Seen → Seen
lengths l s zero n other = other
lengths l s (suc k) n other = choose (stands? l s n) (stood s n) (lengths l s k (suc n) other)

-- the longest that is tried where r bytes are left
abbrev pub longest : ℕ → ℕ
longest r = min 256 r

-- k starts from s on
unfoldable pub starts : List ℕ → ℕ → ℕ → Seen
starts l zero s = none
starts l (suc k) s = lengths l s (longest (length l - s) - 3) 4 (starts l k (suc s))

unfoldable pub first_in : List ℕ → ℕ → Seen
first_in l s = starts l (length l - 3 - s) s

abbrev pub paper : Option Frame → Seen
paper (Some f) = stood f.start f.len
paper None = none
