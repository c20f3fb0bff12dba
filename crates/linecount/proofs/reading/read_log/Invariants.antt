-- `linecount::reading::read_log` meets its contract. The invariant: a byte was read in every turn, and what was read is counted or waits.
-- Assumes nothing.
use Rattle.std.proofs.Common.{ℕ, ◌+◌, ◌≤◌, List, ◌++◌, take}
use Rattle.linecount.specs.Reading.{Continues}
use Rattle.linecount.proofs.reading.read_log.Given as goal

abbrev pub invariant-loop-turn : goal.invariant-loop-turn
invariant-loop-turn l =
    (l._turn ≤ l.counter.total.at + l.buffer.have)
    × ((more : List ℕ) × Continues l.initial.counter.total (take l.initial.buffer.have l.initial.buffer.bytes ++ more) l.counter.total (take l.buffer.have l.buffer.bytes))
