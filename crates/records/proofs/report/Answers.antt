-- `records::report` meets its contract.
-- Assumes nothing.
use Rattle.std.proofs.Common.{sym}
use Rattle.modbus.proofs.StepLaws.{pick_yes, pick_no}
use Rattle.records.proofs.report.Goals as goal

pub returns-then-t-ne0 : goal.returns-then-t-ne0
returns-then-t-ne0 c = sym (pick_no _ _ _ c.if-t-ne0.true)

pub returns : goal.returns
returns c = sym (pick_yes _ _ _ c.if-t-ne0.false)
