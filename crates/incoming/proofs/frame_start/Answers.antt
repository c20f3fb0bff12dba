-- `incoming::frame_start` meets its contract: a serial line, or TCP.
-- Assumes nothing.
use Rattle.std.proofs.Common.{sym, ap, ◌∙◌, ⊎_elim}
use Rattle.modbus.specs.Paper.{told}
use Rattle.incoming.proofs.EnvelopeLaws.{rtu_begins, ascii_begins, tcp_anywhere}
use Rattle.incoming.proofs.frame_start.Goals as goal

pub returns-in-Rtu : goal.returns-in-Rtu
returns-in-Rtu c = ⊎_elim (λ e. rw e (sym (ap told (rtu_begins _ _)))) (λ e. rw e (sym (ap told (ascii_begins _ _)))) c.in-Rtu.is

pub returns-in-TcpUdp : goal.returns-in-TcpUdp
returns-in-TcpUdp c = rw c.in-TcpUdp.is (c.after_header.ensures ∙ sym (ap told (tcp_anywhere _ _)))
