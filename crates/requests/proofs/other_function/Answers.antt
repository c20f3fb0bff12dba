-- `requests::other_function` meets its contract.
-- Assumes nothing.
use mathlib.Core.Path.{sym, ◌∙◌}
use native.Mathlib.Omega.{arith}
use Rattle.modbus.proofs.StepLaws.{pick_yes, pick_no}
use Rattle.requests.proofs.other_function.Goals as goal

pub returns-then-function-gt127 : goal.returns-then-function-gt127
returns-then-function-gt127 c = sym (pick_no _ _ _ (λ h. omega arith))

pub returns : goal.returns
returns c = c.refused.ensures ∙ sym (pick_yes _ _ _ (omega arith))
