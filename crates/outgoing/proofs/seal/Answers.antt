-- `outgoing::seal` meets its contract.
-- Assumes nothing.
use mathlib.Core.Path.{sym, ap}
use native.Mathlib.Omega.{arith}
use Rattle.outgoing.specs.Grow.{growth}
use Rattle.outgoing.proofs.WayLaws.{seal_long, seal_tcp}
use Rattle.outgoing.proofs.seal.Goals as goal

pub returns-then-out-len : goal.returns-then-out-len
returns-then-out-len c = sym (ap growth (seal_long _ _ _ (omega arith)))

pub returns-in-TcpUdp : goal.returns-in-TcpUdp
returns-in-TcpUdp c = rw c.in-TcpUdp.is (sym (ap growth (seal_tcp _ _ (omega arith))))
