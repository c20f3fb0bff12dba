-- `driver::judge::listed` meets its contract: a list of one, and any other.
-- Assumes nothing.
use mathlib.Core.Path.{sym}
use Rattle.modbus.proofs.StepLaws.{pick_yes, pick_no}
use Rattle.driver.proofs.UnitLaws.{one_listed, one_unlisted}
use Rattle.driver.proofs.judge.listed.Goals as goal

pub returns-then-list-unit : goal.returns-then-list-unit
returns-then-list-unit c =
    let a = c.args in
    sym (pick_no _ _ _ (one_unlisted a.list.now a.unit c.if-list-ne1.false c.if-list-unit.true))

pub returns : goal.returns
returns c =
    let a = c.args in
    sym (pick_yes _ _ _ (one_listed a.list.now a.unit c.if-list-ne1.false c.if-list-unit.false))
