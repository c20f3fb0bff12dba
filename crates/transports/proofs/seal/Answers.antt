-- `transports::seal` meets its contract, by the transport.
-- Assumes nothing.
use Rattle.std.proofs.Common.{arith}
use Rattle.modbus.specs.Paper.{proto_of}
use Rattle.modbus.specs.Frame.{tag_of}
use Rattle.transports.proofs.ProtoLaws.{proto_tcp}
use Rattle.transports.proofs.SealedLaws.{sealed_none}
use Rattle.transports.proofs.seal.Goals as goal

pub returns-then-n-gt253 : goal.returns-then-n-gt253
returns-then-n-gt253 c =
    let a = c.args in
    let p = proto_of a.transport in
    sealed_none p (tag_of p a.high a.low) a.n a.reply.now (λ h. omega arith)

pub returns-in-0 : goal.returns-in-0
returns-in-0 c = rw c.in-0.is c.seal_rtu.ensures

pub returns-in-1 : goal.returns-in-1
returns-in-1 c = rw c.in-1.is c.seal_ascii.ensures

pub returns-in_default : goal.returns-in_default
returns-in_default c = rw (proto_tcp c.args.transport (λ h. omega arith) (λ h. omega arith)) c.seal_tcp.ensures
