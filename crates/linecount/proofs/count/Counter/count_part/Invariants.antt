-- `linecount::count::Counter::count_part` meets its contract. The invariant: what was taken off the front has moved into the totals.
-- Assumes nothing.
use Rattle.std.proofs.Common.{◌≡◌, ◌+◌, ◌-◌, ◌≤◌, length, drop}
use Rattle.linecount.specs.Reading.{Continues}
use Rattle.linecount.proofs.count.Counter.count_part.Given as goal

abbrev pub invariant-loop-n : goal.invariant-loop-n
invariant-loop-n l =
    (l.used ≤ length l.log) × (l.self.total.at ≡ l.initial.self.total.at + l.used) × Continues l.initial.self.total l.log l.self.total (drop l.used l.log)

abbrev pub decreases-loop-n : goal.decreases-loop-n
decreases-loop-n l = length l.log - l.used
