-- `checks::crc_two` meets its contract. The loop's invariant: the shifts that are left take the register to the result.
-- Assumes nothing.
use Rattle.std.proofs.Common.{arith}
use Rattle.modbus.proofs.CheckLaws.{shifts_step, shifts_done}
use Rattle.checks.proofs.FourLaws.{two_out}
use Rattle.checks.proofs.crc_two.Goals as goal

pub loop-init : goal.loop-init
loop-init c =
    let a = c.args in
    (omega arith, two_out a.crc a.first a.second (omega arith))

pub loop-preserved : goal.loop-preserved
loop-preserved c = (omega arith, shifts_step 16 _ _ _ _ c.loop.invariant.1 c.crc_shift-c.ensures (omega arith))

pub returns : goal.returns
returns c = shifts_done 16 _ _ _ c.loop.invariant.1 (omega arith)
