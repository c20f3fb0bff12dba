-- What the transport's number tells.
-- Assumes nothing.
use Rattle.std.proofs.Common.{◌≡◌, ℕ, zero, suc, ◌≤◌, refl, arith}
use Rattle.modbus.specs.Paper.{proto_of}
use Rattle.modbus.specs.Frame.{start_of}
use Rattle.modbus.specs.declared.ModbusProto.{ModbusProto}
use Rattle.modbus.specs.declared.ModbusProto.TheVariants.{Rtu, Ascii, TcpUdp}

pub proto_tcp : (n : ℕ) → ¬ (n ≡ 0) → ¬ (n ≡ 1) → proto_of n ≡ TcpUdp
proto_tcp zero h k = absurd (h refl)
proto_tcp (suc zero) h k = absurd (k refl)
proto_tcp (suc (suc n)) h k = refl

pub start_six : (p : ModbusProto) → start_of p ≤ 6
start_six Rtu = omega arith
start_six Ascii = omega arith
start_six TcpUdp = omega arith
