-- `linecount::index::Room::count_record` meets its contract. The invariant with k bytes to come: sums and counts are there below k, and of the ends
-- that a frame may have, those below k - 4, `nearest` has the latest with each sum.
-- Assumes nothing.
use Rattle.std.proofs.Common.{◌≡◌, ◌-◌, length}
use Rattle.logs.specs.Log.{rest}
use Rattle.linecount.specs.Sums.{tail, packed, sums, counts, Sums, Near, Counts}
use Rattle.linecount.proofs.index.Room.count_record.Given as goal

abbrev pub invariant-loop-k : goal.invariant-loop-k
invariant-loop-k l =
    (l.z ≡ tail l.record (length l.record - (l.k - 1))) × Sums (sums l.self.places) l.record l.k × Counts (counts l.self.places) l.record l.k

abbrev pub invariant-loop-k-2 : goal.invariant-loop-k-2
invariant-loop-k-2 l = (l.z ≡ tail l.record (length l.record - (l.k - 1))) × (l.c ≡ packed (rest l.record (length l.record - (l.k - 1))))
    × Sums (sums l.self.places) l.record l.k × Near l.self.nearest l.record (l.k - 4) × Counts (counts l.self.places) l.record l.k
