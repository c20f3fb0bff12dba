-- `frame::ModbusFrame::parse` meets its contract: a response beyond the slice, no start, and from the unit on.
-- Assumes nothing.
use mathlib.Core.Path.{sym, ◌∙◌}
use native.Mathlib.Omega.{arith}
use Rattle.frame.proofs.StateLaws.{handed}
use Rattle.frame.proofs.ParseLaws.{parse_exceeds, parse_headed, parse_broken, parse_begun}
use Rattle.frame.proofs.ModbusFrame.parse.Goals as goal

pub returns-then-response-self : goal.returns-then-response-self
returns-then-response-self c =
    let a = c.args in
    sym (parse_exceeds a.self.now a.buf.now a.list.now a.response.now (omega arith))

pub address-requires : goal.address-requires
address-requires c =
    let a = c.args in
    (parse_headed a.self.now a.buf.now _ c.frame_start.ensures _ c.in_ok-self.was, omega arith)

pub returns-in_err-self : goal.returns-in_err-self
returns-in_err-self c =
    let a = c.args in
    handed _ _ _ _ c.from_residual.ensures.1
    ∙ sym (parse_broken a.self.now a.buf.now _ c.frame_start.ensures a.list.now a.response.now (omega arith) _ c.in_err-self.was)

pub returns : goal.returns
returns c =
    let a = c.args in
    c.address.ensures
    ∙ sym (parse_begun a.self.now a.buf.now _ c.frame_start.ensures a.list.now a.response.now (omega arith) _ c.in_ok-self.was)
