-- `requests::is_coil` meets its contract.
-- Assumes nothing.
use mathlib.Core.Path.{sym}
use native.Mathlib.Omega.{arith}
use Rattle.modbus.proofs.StepLaws.{pick_yes, pick_no}
use Rattle.requests.proofs.is_coil.Goals as goal

pub returns-in-0 : goal.returns-in-0
returns-in-0 c = sym (pick_yes _ _ _ c.in-0.is)

pub returns-in_default : goal.returns-in_default
returns-in_default c = sym (pick_no _ _ _ (λ h. grind arith))
