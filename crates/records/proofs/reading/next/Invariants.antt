-- `records::reading::next` hands on a record within its buffer, is safe and ends.
-- Assumes nothing.
use Rattle.std.proofs.Common.{◌≤◌, length}
use Rattle.records.proofs.reading.next.Given as goal

abbrev pub invariant-loop : goal.invariant-loop
invariant-loop l = l.s.len ≤ length l.«record»
