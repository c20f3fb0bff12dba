-- `transports::lines::lay_few` meets its contract. The loop's invariant: what is left of the text makes the buffer the one asked, and the LRC of the
-- bytes passed is at hand.
-- Assumes nothing.
use Rattle.std.proofs.Common.{◌≡◌, ◌+◌, ◌*◌, [], length, take}
use lib.Seq.{sets}
use Rattle.modbus.specs.Check.{lrc}
use Rattle.ascii.proofs.ReadingLaws.{rest}
use Rattle.transports.proofs.lines.lay_few.Given as goal

abbrev pub invariant-loop-i : goal.invariant-loop-i
invariant-loop-i l = (length l.dst ≡ length l.initial.dst)
    × (l.check ≡ lrc (take l.i l.bytes))
    × (sets l.dst (2 * l.i + 1) (rest l.bytes [] l.i) ≡ sets l.initial.dst 1 (rest l.bytes [] 0))
