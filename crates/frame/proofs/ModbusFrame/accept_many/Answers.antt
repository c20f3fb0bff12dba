-- `frame::ModbusFrame::accept_many` meets its contract: a count or a byte count above its bound, or accepted.
-- Assumes nothing.
use mathlib.Core.Path.{sym}
use Rattle.frame.proofs.ParseLaws.{many_excess, many_long, many_accepted_law}
use Rattle.frame.proofs.ModbusFrame.accept_many.Goals as goal
use Rattle.frame.proofs.ModbusFrame.accept_many.Goals.{then-most-self-via-then-most-self, then-most-self-via-else-most-self+then-buf-start-gt246}

pub returns-then-most-self : goal.returns-then-most-self
returns-then-most-self c out =
    let a = c.args in
    elim c.then-most-self.branch [
      | then-most-self-via-then-most-self w ↦
          sym (many_excess a.most a.broadcast a.self.now a.buf.now out _ c.word-self.ensures _ c.answer.ensures w.if-most-self.true)
      | then-most-self-via-else-most-self+then-buf-start-gt246 w ↦
          sym (many_long a.most a.broadcast a.self.now a.buf.now out _ c.word-self.ensures _ c.answer.ensures w.if-most-self.false
          w.if-buf-start-gt246.true)
    ]

pub returns : goal.returns
returns c out =
    let a = c.args in
    sym (many_accepted_law a.most a.broadcast a.self.now a.buf.now out _ c.word-self.ensures _ c.answer.ensures c.if-most-self.false
    c.if-buf-start-gt246.false _ c.word-self-2.ensures)
