-- `transports::open` meets its contract, by the transport: RTU and TCP leave the array as it is.
-- Assumes nothing.
use Rattle.std.proofs.Common.{arith}
use Rattle.transports.proofs.ProtoLaws.{proto_tcp}
use Rattle.transports.proofs.OpenedLaws.{rtu_front, tcp_front}
use Rattle.transports.proofs.open.Goals as goal

pub returns-in-0-clause-fronted : goal.returns-in-0-clause-fronted
returns-in-0-clause-fronted c = rw c.in-0.is (rtu_front c.args.frame.now)

pub returns-in_default-clause-fronted : goal.returns-in_default-clause-fronted
returns-in_default-clause-fronted c = rw (proto_tcp c.args.transport (λ h. omega arith) (λ h. omega arith)) (tcp_front c.args.frame.now)
