-- `frame::ModbusFrame::for_us` meets its contract: no header, one that does not fit, and one that is copied.
-- Assumes nothing.
use mathlib.Core.Path.{sym, ◌∙◌}
use Rattle.frame.proofs.StateLaws.{handed}
use Rattle.frame.proofs.ParseLaws.{us_bare, us_full, us_headed}
use Rattle.frame.proofs.ModbusFrame.for_us.Goals as goal
use Rattle.frame.proofs.ModbusFrame.for_us.Goals.{then-copies_header+in_ok-self, else-copies_header}

pub returns-in_err-self : goal.returns-in_err-self
returns-in_err-self c =
    let a = c.args in
    let e = sym c.copies_header.ensures ∙ c.if-copies_header.true in
    handed _ _ _ _ c.from_residual.ensures.1
    ∙ sym (us_full a.broadcast a.self.now a.buf.now a.response.now e _ _ c.extend.ensures _ c.in_err-self.was)

pub returns : goal.returns
returns c =
    let a = c.args in
    elim c.if-copies_header.branch [
      | then-copies_header+in_ok-self w ↦
          (let e = sym c.copies_header.ensures ∙ w.if-copies_header.true in
          c.name.ensures _
          ∙ rw (w.self-is, w.response-is) (sym (us_headed a.broadcast a.self.now a.buf.now a.response.now e _ _ w.extend.ensures _ w.in_ok-self.was)))
      | else-copies_header w ↦
          (let e = sym c.copies_header.ensures ∙ w.if-copies_header.false in
          c.name.ensures _
          ∙ rw (w.self-is, w.response-is) (sym (us_bare a.broadcast a.self.now a.buf.now a.response.now e c.requires.2)))
    ]
