-- `records::run` counts a record a turn, is safe and ends.
-- Assumes nothing.
use Rattle.std.proofs.Common.{◌≤◌}
use Rattle.records.proofs.run.Given as goal

abbrev pub invariant-loop-turn : goal.invariant-loop-turn
invariant-loop-turn g l = (l.turn ≤ l.initial.most) × (l.tally.wrong ≤ l.tally.records) × (l.tally.records ≤ l.turn)
