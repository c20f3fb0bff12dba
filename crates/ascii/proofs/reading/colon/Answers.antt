-- `ascii::reading::colon` meets its contract.
-- Assumes nothing.
use Rattle.std.proofs.Common.{sym}
use Rattle.modbus.proofs.StepLaws.{pick_yes, pick_no}
use Rattle.ascii.proofs.reading.colon.Goals as goal

pub returns-then-c-eq58-clause-value : goal.returns-then-c-eq58-clause-value
returns-then-c-eq58-clause-value c = sym (pick_yes _ _ _ c.if-c-eq58.true)

pub returns-else-c-eq58-clause-value : goal.returns-else-c-eq58-clause-value
returns-else-c-eq58-clause-value c = sym (pick_no _ _ _ c.if-c-eq58.false)
