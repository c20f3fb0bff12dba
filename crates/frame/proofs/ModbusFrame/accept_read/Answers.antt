-- `frame::ModbusFrame::accept_read` meets its contract: the count is above the bound, or the read is accepted.
-- Assumes nothing.
use mathlib.Core.Path.{sym}
use Rattle.frame.proofs.ParseLaws.{read_excess, read_accepted_law}
use Rattle.frame.proofs.ModbusFrame.accept_read.Goals as goal

pub returns-then-most-self : goal.returns-then-most-self
returns-then-most-self c out =
    let a = c.args in
    sym (read_excess a.most a.self.now a.buf.now out _ c.word-self.ensures c.if-most-self.true)

pub returns : goal.returns
returns c out =
    let a = c.args in
    sym (read_accepted_law a.most a.self.now a.buf.now out _ c.word-self.ensures c.if-most-self.false _ c.word-self-2.ensures)
