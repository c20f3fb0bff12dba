-- `linecount::tables::fill` meets its contract: the entries before n are there.
-- Assumes nothing.
use Rattle.std.proofs.Common.{◌≡◌, length}
use Rattle.linecount.specs.Sums.{Filled}
use Rattle.linecount.proofs.tables.fill.Given as goal

abbrev pub invariant-loop-n : goal.invariant-loop-n
invariant-loop-n g l = (length l.table ≡ length l.initial.table) × Filled g.T.Entries.entry l.table l.n
