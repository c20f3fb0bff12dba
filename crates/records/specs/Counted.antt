-- Where a reading begins, and how records are counted.
-- Assumes nothing.
use Rattle.std.specs.Prelude.{ℕ, ◌+◌, ◌%◌, ◌^◌, Bool, true, false, None}
use Rattle.records.specs.declared.reading.Line.TheVariants as line
use Rattle.records.specs.declared.reading.Reading.{Reading}
use Rattle.records.specs.declared.Tally.{Tally}

abbrev pub opening : Reading
opening = record { at = 0; «have» = 0; ended = false; line = line.Record; len = 0; high = None }

abbrev pub one_more : ℕ → ℕ
one_more n = (n + 1) % 2 ^ 64

abbrev pub tallied : Tally → Bool → Tally
tallied t true = record { records = one_more t.records; wrong = t.wrong }
tallied t false = record { records = one_more t.records; wrong = one_more t.wrong }
