-- A log of RTU traffic (document 02, 2026-12): records of a mark, a length and so many bytes, and what is counted over them.
-- Assumes nothing.
use Rattle.std.specs.Prelude.{◌⊎◌, ◌≡◌, List, [], ◌∷◌, ℕ, zero, suc, ◌+◌, ◌-◌, ◌≤◌, length, take, drop, get_or, Option, Some, None, Result, Ok, Err}
use Rattle.modbus.specs.Step.{Step, stop, go, ◌>>◌, need, ◌≟◌, ◌≤?◌, ◌and?◌, ◌or?◌}
use Rattle.modbus.specs.Bytes.{word_at}
use Rattle.logs.specs.Search.{Seen, none, stood, first_in}
use Rattle.logs.specs.declared.Total.{Total}
use Rattle.logs.specs.declared.Counted.{Counted}
use Rattle.logs.specs.declared.Fault.{Fault}
use Rattle.logs.specs.declared.Fault.TheVariants.{BadMark, BadRecord, TooLong}

-- ---- the frames of a record

-- a first frame from a place on, and then those behind it
abbrev pub counted : ℕ → ℕ → Counted
counted f n = record { frames = f; inside = n }

abbrev pub more : ℕ → Counted → Counted
more n c = counted (suc c.frames) (n + c.inside)

abbrev pub behind : (ℕ → Counted) → Seen → Counted
behind next none = counted 0 0
behind next (stood s n) = more n (next (s + n))

-- by fuel; a frame has four bytes or more, so as many turns as the record has bytes are enough
unfoldable pub counting : ℕ → List ℕ → ℕ → Counted
counting zero l s = counted 0 0
counting (suc k) l s = behind (counting k l) (first_in l s)

unfoldable pub counted_in : List ℕ → Counted
counted_in l = counting (length l) l 0

-- what is counted from a place on
abbrev pub rest : List ℕ → ℕ → Counted
rest l s = counting (length l - s) l s

-- ---- its records

-- every byte of the mark that is present is right
abbrev pub Marked : List ℕ → Type 0
Marked l = ((length l ≤ 0) ⊎ (get_or l 0 0 ≡ 0x4D)) × ((length l ≤ 1) ⊎ (get_or l 1 0 ≡ 0x42))

abbrev pub marked? : (l : List ℕ) → Dec (Marked l)
marked? l = ((length l ≤? 0) or? (get_or l 0 0 ≟ 0x4D)) and? ((length l ≤? 1) or? (get_or l 1 0 ≟ 0x42))

-- what is said of a front: a fault, how many bytes the whole record there has, or nothing yet
abbrev pub Peek : Type 0
Peek = Result (Option ℕ) Fault

-- the front of a log from an offset on, of which more may come: the first fault, or how many bytes the record has
unfoldable pub weighed : ℕ → List ℕ → Step Peek ℕ
weighed offset l = do
  need (marked? l) (Err (BadMark offset))
  need (4 ≤? length l) (Ok None)
  need (word_at l 2 ≤? 4096) (Err (BadRecord offset))
  need (4 + word_at l 2 ≤? length l) (Ok None)
  need (offset + (4 + word_at l 2) ≤? 4294967295) (Err TooLong)
  go (word_at l 2)

abbrev pub seen_as : Step Peek ℕ → Peek
seen_as (stop p) = p
seen_as (go n) = Ok (Some n)

unfoldable pub peeked : ℕ → List ℕ → Peek
peeked offset l = seen_as (weighed offset l)

-- the totals with one record more
unfoldable pub advanced : Total → List ℕ → Total
advanced t l =
    let c = counted_in l in
    record {
      at = t.at + (length l + 4);
      records = t.records + 1;
      frames = t.frames + c.frames;
      inside = t.inside + c.inside;
      other = t.other + (length l - c.inside);
    }

-- before the first record
abbrev pub start : Total
start = record { at = 0; records = 0; frames = 0; inside = 0; other = 0 }

-- totals of a log that is not too long: none of them is more than its bytes
abbrev pub Sound : Total → Type 0
Sound t = (t.at ≤ 4294967295) × (t.records ≤ t.at) × (t.frames ≤ t.at) × (t.inside + t.other ≤ t.at)

-- what a log comes to: the totals, or its first fault
abbrev pub Report : Type 0
Report = Result Total Fault

-- the log has ended, and this is left of it
abbrev pub finished : Total → List ℕ → Report
finished t [] = Ok t
finished t (x ∷ l) = Err (BadRecord t.at)

abbrev pub go_on : (Total → List ℕ → Report) → Total → List ℕ → Peek → Report
go_on next t l (Err f) = Err f
go_on next t l (Ok None) = finished t l
go_on next t l (Ok (Some n)) = next (advanced t (take n (drop 4 l))) (drop (4 + n) l)

unfoldable pub tally : ℕ → Total → List ℕ → Report
tally zero t l = finished t l
tally (suc k) t l = go_on (tally k) t l (peeked t.at l)

-- what a log comes to, of which this is left
unfoldable pub report : Total → List ℕ → Report
report t l = tally (length l) t l
