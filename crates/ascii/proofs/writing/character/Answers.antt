-- `ascii::writing::character` meets its contract: from 10 on the sum is seven more.
-- Assumes nothing.
use Rattle.std.proofs.Common.{arith}
use Rattle.modbus.proofs.HexLaws.{digit_low, digit_high}
use Rattle.ascii.proofs.writing.character.Goals as goal
use Rattle.ascii.proofs.writing.character.Goals.{then-h-lt10, else-h-lt10}

pub returns : goal.returns
returns c =
    let h = c.args.h in
    elim c.if-h-lt10.branch [
      | then-h-lt10 w ↦ omega (arith, w.more-is, w.if-h-lt10.true, digit_low h (omega (arith, w.if-h-lt10.true)))
      | else-h-lt10 w ↦ omega (arith, w.more-is, w.if-h-lt10.false, digit_high h (omega (arith, w.if-h-lt10.false)))
    ]
