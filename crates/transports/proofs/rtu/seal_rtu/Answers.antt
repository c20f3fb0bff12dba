-- `transports::rtu::seal_rtu` meets its contract.
-- Assumes nothing.
use Rattle.std.proofs.Common.{[], arith}
use Rattle.modbus.specs.declared.ModbusProto.TheVariants.{Rtu}
use Rattle.transports.proofs.OpenedLaws.{two_bytes}
use Rattle.transports.proofs.SealedLaws.{sealed_none, rtu_sealed}
use Rattle.transports.proofs.rtu.seal_rtu.Goals as goal

pub returns-then-reply-lt260 : goal.returns-then-reply-lt260
returns-then-reply-lt260 c = sealed_none Rtu [] _ _ (λ h. omega arith)

pub returns : goal.returns
returns c =
    let b = two_bytes _ _ c.calc_crc16.type_inv c.to_le_bytes.ensures in
    rw (b.0, b.1) (rtu_sealed _ _ _ (omega arith) (omega arith) c.calc_crc16.ensures)
