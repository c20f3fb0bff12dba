-- `ascii::writing::lay_text` meets its contract. The loop's invariant: what is left of the text makes the buffer the one asked.
-- Assumes nothing.
use Rattle.std.proofs.Common.{◌≡◌, ◌+◌, ◌*◌, []}
use lib.Seq.{sets}
use Rattle.ascii.proofs.ReadingLaws.{rest}
use Rattle.ascii.proofs.writing.lay_text.Given as goal

abbrev pub invariant-loop-i : goal.invariant-loop-i
invariant-loop-i l = sets l.dst (l.at + 2 * l.i) (rest l.bytes [] l.i) ≡ sets l.initial.dst l.at (rest l.bytes [] 0)
