-- `frame::ModbusFrame::address` meets its contract: no unit, another unit, a broadcast, and our own.
-- Assumes nothing.
use mathlib.Core.Path.{sym, ◌∙◌}
use native.Mathlib.Omega.{arith}
use Rattle.frame.proofs.ParseLaws.{address_short, address_broadcast, address_foreign, address_own}
use Rattle.frame.proofs.ModbusFrame.address.Goals as goal
use Rattle.frame.proofs.ModbusFrame.address.Goals.{else-not-broadcast-via-then-not-broadcast+else-unit-self, else-not-broadcast-via-else-not-broadcast}

pub returns-then-buf-self : goal.returns-then-buf-self
returns-then-buf-self c =
    let a = c.args in
    sym (address_short a.self.now a.buf.now a.list.now a.response.now (omega arith))

pub returns-then-unit-self : goal.returns-then-unit-self
returns-then-unit-self c =
    let a = c.args in
    sym (address_foreign a.self.now a.buf.now a.list.now a.response.now c.if-buf-self.false _ c.contains-broadcast.ensures
    c.if-not-broadcast.true c.if-unit-self.true)

pub returns : goal.returns
returns c =
    let a = c.args in
    let e = c.contains-broadcast.ensures in
    c.for_us.ensures
    ∙ elim c.else-not-broadcast.branch [
      | else-not-broadcast-via-then-not-broadcast+else-unit-self w ↦
          sym (address_own a.self.now a.buf.now a.list.now a.response.now c.if-buf-self.false _ e w.if-unit-self.false)
      | else-not-broadcast-via-else-not-broadcast w ↦
          sym (address_broadcast a.self.now a.buf.now a.list.now a.response.now c.if-buf-self.false _ e w.if-not-broadcast.false)
    ]
