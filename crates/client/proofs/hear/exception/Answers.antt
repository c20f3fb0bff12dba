-- `client::hear::exception` meets its contract.
-- Assumes nothing.
use mathlib.Core.Path.{sym, ap, ◌∙◌}
use Prim.Native.Nat.{ℕ, ◌+◌}
use native.Mathlib.Omega.{arith}
use Rattle.modbus.proofs.StepLaws.{pick_yes, pick_no}
use Rattle.client.specs.Asking.{excepts?}
use Rattle.client.proofs.hear.exception.Goals as goal
use Rattle.client.proofs.hear.exception.Goals.{then-body-ne3-via-then-body-ne3 as by-length, then-body-ne3-via-else-body-ne3+then-body-function as by-function, then-body-ne3-via-else-body-ne3+else-body-function+then-body-eq0 as by-code}

pub returns-then-body-ne3 : goal.returns-then-body-ne3
returns-then-body-ne3 c a e =
    sym (pick_no (excepts? a c.args.body.now) _ _ (λ h.
    elim c.then-body-ne3.branch [
      | by-length w ↦ w.if-body-ne3.true h.0
      | by-function w ↦ w.if-body-function.true (h.1.0 ∙ ap (λ (n : ℕ). n + 128) (sym e))
      | by-code w ↦ omega (arith, w.if-body-eq0.true, h.1.1)
    ]))

pub returns : goal.returns
returns c a e =
    sym (pick_yes (excepts? a c.args.body.now) _ _
    (c.if-body-ne3.false, (c.if-body-function.false ∙ ap (λ (n : ℕ). n + 128) e, omega (arith, c.if-body-eq0.false))))
