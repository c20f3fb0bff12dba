-- `transports::tcp::seal_tcp` meets its contract.
-- Assumes nothing.
use Rattle.std.proofs.Common.{[], ◌∷◌, arith}
use Rattle.modbus.specs.declared.ModbusProto.TheVariants.{TcpUdp}
use Rattle.transports.proofs.SealedLaws.{sealed_none, tcp_sealed}
use Rattle.transports.proofs.tcp.seal_tcp.Goals as goal

pub returns-then-reply-lt260 : goal.returns-then-reply-lt260
returns-then-reply-lt260 c =
    let a = c.args in
    sealed_none TcpUdp (a.high ∷ a.low ∷ []) a.n a.reply.now (λ h. omega arith)

pub returns : goal.returns
returns c =
    let a = c.args in
    tcp_sealed a.high a.low a.reply.now a.n (omega arith) (omega arith)
