-- `frame::ModbusFrame::request_one` meets its contract: each way out is a law of a write of one.
-- Assumes nothing.
use mathlib.Core.Path.{sym, ap, ◌∙◌}
use native.Mathlib.Omega.{arith}
use Rattle.modbus.specs.Paper.{told}
use Rattle.incoming.proofs.EnvelopeLaws.{frame_byte}
use Rattle.frame.proofs.StateLaws.{handed}
use Rattle.frame.proofs.ParseLaws.{one_short, one_refused, one_checked}
use Rattle.frame.proofs.ModbusFrame.request_one.Goals as goal

pub returns-then-buf-start-lt4 : goal.returns-then-buf-start-lt4
returns-then-buf-start-lt4 c out =
    let a = c.args in
    sym (one_short a.broadcast a.self.now a.buf.now out (omega arith))

pub returns-in_err-check_frame_crc : goal.returns-in_err-check_frame_crc
returns-in_err-check_frame_crc c out =
    let a = c.args in
    let e = c.check_frame_crc.ensures ∙ ap told (frame_byte _ _ _ 6 (omega arith)) in
    handed _ _ _ out c.from_residual.ensures.1
    ∙ sym (one_refused a.broadcast a.self.now a.buf.now out (omega arith) _ e _ c.in_err-check_frame_crc.was)

pub returns : goal.returns
returns c out =
    let a = c.args in
    let e = c.check_frame_crc.ensures ∙ ap told (frame_byte _ _ _ 6 (omega arith)) in
    sym (one_checked a.broadcast a.self.now a.buf.now out (omega arith) _ e c.in_ok-check_frame_crc.was _ c.answer.ensures _
    c.word-self.ensures)
