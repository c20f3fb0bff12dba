-- `requests::inside` meets its contract.
-- Assumes nothing.
use mathlib.Core.Path.{sym, ap, ◌∙◌}
use native.Mathlib.Omega.{arith}
use Rattle.std.specs.Prelude.{Err}
use Rattle.modbus.proofs.StepLaws.{pick_yes, pick_no}
use Rattle.requests.proofs.inside.Goals as goal

pub returns-then-cells-address : goal.returns-then-cells-address
returns-then-cells-address c = ap Err c.refused.ensures ∙ sym (pick_no _ _ _ (λ h. omega arith))

pub returns : goal.returns
returns c = sym (pick_yes _ _ _ (omega arith))
