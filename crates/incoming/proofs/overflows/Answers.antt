-- `incoming::overflows` meets its contract: a serial line, or TCP.
-- Assumes nothing.
use Rattle.std.proofs.Common.{sym, ⊎_elim}
use Rattle.modbus.proofs.StepLaws.{pick_yes}
use Rattle.incoming.specs.Envelope.{countable?}
use Rattle.incoming.proofs.EnvelopeLaws.{over_byte}
use Rattle.incoming.proofs.overflows.Goals as goal

pub returns-in-Rtu : goal.returns-in-Rtu
unfolding countable?
returns-in-Rtu c = ⊎_elim (λ e. rw e (over_byte _)) (λ e. rw e (over_byte _)) c.in-Rtu.is

pub returns-in-TcpUdp : goal.returns-in-TcpUdp
unfolding countable?
returns-in-TcpUdp c = rw c.in-TcpUdp.is (sym (pick_yes _ _ _ tt))
