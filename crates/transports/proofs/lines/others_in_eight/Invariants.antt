-- `transports::lines::others_in_eight` meets its contract. The loop's invariant: if there was no other character, those passed are digits.
-- Assumes nothing.
use Rattle.std.proofs.Common.{◌≡◌}
use Rattle.transports.specs.Lines.{Digits}
use Rattle.transports.proofs.lines.others_in_eight.Given as goal

abbrev pub invariant-loop-c : goal.invariant-loop-c
invariant-loop-c l = l.others ≡ 0 → Digits l.line l.at l.c-index
