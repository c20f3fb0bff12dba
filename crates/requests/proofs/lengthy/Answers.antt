-- `requests::lengthy` meets its contract: too short for a byte count, another number than that says, and the rest.
-- Assumes nothing.
use mathlib.Core.Path.{sym}
use native.Mathlib.Omega.{arith}
use Rattle.modbus.proofs.StepLaws.{pick_yes, pick_no}
use Rattle.requests.proofs.lengthy.Goals.{then-body-at-via-then-body-at, then-body-at-via-else-body-at+then-body-at-2}
use Rattle.requests.proofs.lengthy.Goals as goal

pub returns-then-body-at : goal.returns-then-body-at
returns-then-body-at c =
    sym (pick_no _ _ _ (λ h. elim c.then-body-at.branch [
      | then-body-at-via-then-body-at w ↦ omega (arith, w.if-body-at.true)
      | then-body-at-via-else-body-at+then-body-at-2 w ↦ w.if-body-at-2.true h.1
    ]))

pub returns : goal.returns
returns c = sym (pick_yes _ _ _ (c.if-body-at.false, c.if-body-at-2.false))
