-- `checks::crc_shift` meets its contract: the two arms are the two cases of the bit that falls out.
-- Assumes nothing.
use Rattle.modbus.proofs.CheckLaws.{shift_none, shift_one}
use Rattle.checks.proofs.crc_shift.Goals as goal

pub returns-then-crc-eq0 : goal.returns-then-crc-eq0
returns-then-crc-eq0 c = shift_none _ c.if-crc-eq0.true

pub returns-else-crc-eq0 : goal.returns-else-crc-eq0
returns-else-crc-eq0 c = shift_one _ c.if-crc-eq0.false
