-- `transports::lines::decode_eight` meets its contract. The loop's invariant: the pairs that are left make the first seven bytes those of the line.
-- Assumes nothing.

use Rattle.transports.proofs.LinesLaws.{Seven}
use Rattle.transports.proofs.lines.decode_eight.Given as goal

abbrev pub invariant-loop-i : goal.invariant-loop-i
invariant-loop-i l = Seven l.line l.byte-items l.i
