-- `records::parts::wanted` meets its contract.
-- Assumes nothing.
use Rattle.std.proofs.Common.{sym, ◌∙◌, arith}
use Rattle.modbus.proofs.StepLaws.{pick_yes, pick_no}
use Rattle.records.proofs.parts.wanted.Goals as goal

pub returns-then-i-at : goal.returns-then-i-at
returns-then-i-at c = c.laid-before.ensures ∙ sym (pick_yes _ _ _ (omega arith))

pub returns : goal.returns
returns c = rw (c.laid.ensures, c.laid-before.ensures) (sym (pick_no _ _ _ (λ h. omega arith)))
