-- `frame::ModbusFrame::request_many` meets its contract: each way out is a law of a write of many.
-- Assumes nothing.
use mathlib.Core.Path.{refl, sym, ap, ◌∙◌}
use native.Mathlib.Omega.{arith}
use Rattle.modbus.proofs.StepLaws.{test_passes}
use Rattle.modbus.specs.Paper.{told}
use Rattle.incoming.proofs.EnvelopeLaws.{frame_counted}
use Rattle.frame.proofs.StateLaws.{handed}
use Rattle.frame.proofs.ParseLaws.{many_short, many_overflows, many_refused, many_checked}
use Rattle.frame.proofs.ModbusFrame.request_many.Goals as goal

pub returns-then-buf-start-lt7 : goal.returns-then-buf-start-lt7
returns-then-buf-start-lt7 c out =
    let a = c.args in
    sym (many_short a.most a.broadcast a.given a.self.now a.buf.now out (omega arith))

pub returns-then-overflows : goal.returns-then-overflows
returns-then-overflows c out =
    let a = c.args in
    sym (many_overflows a.most a.broadcast a.given a.self.now a.buf.now out (omega arith) _ refl _ c.overflows.ensures
    c.if-overflows.true)

pub returns-in_err-check_frame_crc : goal.returns-in_err-check_frame_crc
returns-in_err-check_frame_crc c out =
    let a = c.args in
    let e = c.check_frame_crc.ensures ∙ ap told (frame_counted _ _ _ _ (test_passes _ _ c.overflows.ensures c.if-overflows.false)) in
    handed _ _ _ out c.from_residual.ensures.1
    ∙ sym (many_refused a.most a.broadcast a.given a.self.now a.buf.now out (omega arith) _ refl _ c.overflows.ensures
    c.if-overflows.false _ e _ c.in_err-check_frame_crc.was)

pub returns : goal.returns
returns c out =
    let a = c.args in
    let e = c.check_frame_crc.ensures ∙ ap told (frame_counted _ _ _ _ (test_passes _ _ c.overflows.ensures c.if-overflows.false)) in
    c.accept_many.ensures out
    ∙ sym (many_checked a.most a.broadcast a.given a.self.now a.buf.now out (omega arith) _ refl _ c.overflows.ensures
    c.if-overflows.false _ e c.in_ok-check_frame_crc.was)
