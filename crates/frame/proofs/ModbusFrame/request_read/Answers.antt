-- `frame::ModbusFrame::request_read` meets its contract: each way out is a law of a read.
-- Assumes nothing.
use mathlib.Core.Path.{sym, ap, ◌∙◌}
use native.Mathlib.Omega.{arith}
use Rattle.modbus.specs.Paper.{told}
use Rattle.incoming.proofs.EnvelopeLaws.{frame_byte}
use Rattle.frame.proofs.StateLaws.{handed}
use Rattle.frame.proofs.ParseLaws.{read_short, read_refused, read_checked}
use Rattle.frame.proofs.ModbusFrame.request_read.Goals as goal

pub returns-then-buf-start-lt6 : goal.returns-then-buf-start-lt6
returns-then-buf-start-lt6 c out = sym (read_short _ _ _ _ out c.if-broadcast.false (omega arith))

pub returns-in_err-check_frame_crc : goal.returns-in_err-check_frame_crc
returns-in_err-check_frame_crc c out =
    let e = c.check_frame_crc.ensures ∙ ap told (frame_byte _ _ _ 6 (omega arith)) in
    handed _ _ _ out c.from_residual.ensures.1
    ∙ sym (read_refused _ _ _ _ out c.if-broadcast.false (omega arith) _ e _ c.in_err-check_frame_crc.was)

pub returns : goal.returns
returns c out =
    let e = c.check_frame_crc.ensures ∙ ap told (frame_byte _ _ _ 6 (omega arith)) in
    c.accept_read.ensures out
    ∙ sym (read_checked _ _ _ _ out c.if-broadcast.false (omega arith) _ e c.in_ok-check_frame_crc.was)
