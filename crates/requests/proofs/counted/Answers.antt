-- `requests::counted` meets its contract.
-- Assumes nothing.
use mathlib.Core.Path.{sym, ap, ◌∙◌}
use native.Mathlib.Omega.{arith}
use Rattle.std.specs.Prelude.{Err}
use Rattle.modbus.proofs.StepLaws.{pick_yes, pick_no}
use Rattle.requests.proofs.counted.Goals as goal

pub returns-then-count-lt1 : goal.returns-then-count-lt1
returns-then-count-lt1 c = ap Err c.refused.ensures ∙ sym (pick_no _ _ _ (λ h. omega (arith, c.then-count-lt1.either)))

pub returns : goal.returns
returns c = sym (pick_yes _ _ _ (omega arith))
