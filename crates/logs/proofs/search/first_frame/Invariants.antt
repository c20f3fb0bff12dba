-- `logs::search::first_frame` meets its contract. What is left of the search stands in both invariants: of the starts in the outer, of the lengths at
-- one start in the inner.
-- Assumes nothing.
use Rattle.std.proofs.Common.{◌≡◌, suc, ◌-◌, ◌≤◌, length, take, drop, None}
use Rattle.modbus.specs.Check.{crc}
use Rattle.logs.specs.Search.{first_in, lengths, starts}
use Rattle.logs.proofs.search.first_frame.Given as goal

abbrev pub invariant-loop-n : goal.invariant-loop-n
invariant-loop-n l = (l.found ≡ None) × (4 ≤ l.n) × (l.register ≡ crc (take (l.n - 2) (drop l.start l.record)))
    × (first_in l.record l.from ≡ lengths l.record l.start (suc l.most - l.n) l.n (starts l.record (length l.record - 3 - suc l.start) (suc l.start)))

abbrev pub invariant-starts : goal.invariant-starts
invariant-starts l = (l.found ≡ None) × (first_in l.record l.from ≡ starts l.record (length l.record - 3 - l.start) l.start)
