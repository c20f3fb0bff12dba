-- `ascii::writing::write_while_room` meets its contract. The loop's invariant: what is left of the line makes the result the one asked.
-- Assumes nothing.
use Rattle.std.proofs.Common.{◌≡◌, ◌+◌, ◌*◌, length}
use lib.Seq.{sets}
use Rattle.ascii.proofs.ReadingLaws.{rest, crlf}
use Rattle.ascii.proofs.writing.write_while_room.Given as goal

abbrev pub invariant-loop-d : goal.invariant-loop-d
invariant-loop-d l = (l.at ≡ 1 + 2 * l.d-index)
    × (length l.res ≡ length l.initial.res)
    × (sets l.res l.at (rest l.data crlf l.d-index) ≡ sets l.initial.res 1 (rest l.data crlf 0))
