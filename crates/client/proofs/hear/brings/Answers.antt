-- `client::hear::brings` meets its contract: each test is one part of the shape.
-- Assumes nothing.
use mathlib.Core.Path.{sym, ◌∙◌}
use native.Mathlib.Omega.{arith}
use Rattle.std.proofs.Common.{eqb-true, eq-eqb}
use Rattle.std.proofs.lemmas.Bool.{eqb-false}
use Rattle.modbus.proofs.StepLaws.{pick_no}
use Rattle.client.specs.Asking.{brings?}
use Rattle.client.proofs.LayLaws.{chosen}
use Rattle.client.proofs.hear.brings.Goals as goal
use Rattle.client.proofs.hear.brings.Goals.{then-body-n, else-body-n}

pub returns-then-body-function : goal.returns-then-body-function
returns-then-body-function c =
    let a = c.args in
    let e = c.if-body-function.true in
    elim c.if-body-n.branch [
      | then-body-n w ↦ chosen _ (brings? a.function a.n a.body.now)
          (λ h. (omega (arith, w.if-body-n.true), (eqb-true _ _ (sym w.value-is ∙ e), eqb-true _ _ h))) (λ p. eq-eqb _ _ p.1.1)
      | else-body-n w ↦ absurd (w.if-body-n.false (eqb-true _ _ (sym w.value-is ∙ e)))
    ]

pub returns-else-body-function : goal.returns-else-body-function
returns-else-body-function c =
    let a = c.args in
    let e = c.if-body-function.false in
    e ∙ sym (pick_no (brings? a.function a.n a.body.now) _ _ (λ p.
    elim c.if-body-n.branch [
      | then-body-n w ↦ eqb-false _ _ (sym w.value-is ∙ e) p.1.0
      | else-body-n w ↦ w.if-body-n.false (omega (arith, p.0))
    ]))
