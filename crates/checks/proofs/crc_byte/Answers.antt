-- `checks::crc_byte` meets its contract. The loop's invariant: the shifts that are left take the register to the result.
-- Assumes nothing.
use Rattle.std.proofs.Common.{refl, arith}
use Rattle.modbus.specs.Check.{crc_byte}
use Rattle.modbus.proofs.CheckLaws.{shifts_step, shifts_done}
use Rattle.checks.proofs.crc_byte.Goals as goal

pub loop-init : goal.loop-init
unfolding crc_byte
loop-init c = (omega arith, refl)

pub loop-preserved : goal.loop-preserved
loop-preserved c = (omega arith, shifts_step 8 _ _ _ _ c.loop.invariant.1 c.crc_shift-c.ensures (omega arith))

pub returns : goal.returns
returns c = shifts_done 8 _ _ _ c.loop.invariant.1 (omega arith)
