-- `client::shown_by` meets its contract: what the verdict on the body tells.
-- Assumes nothing.
use mathlib.Core.Path.{refl}
use native.Mathlib.Omega.{arith}
use Rattle.client.specs.Asking.{every_cell}
use Rattle.client.proofs.SaidLaws.{verdict_said}
use Rattle.client.proofs.shown_by.Goals as goal

pub returns-in-Ok-clause-ok : goal.returns-in-Ok-clause-ok
returns-in-Ok-clause-ok c n =
    rw c.values_of.ensures (verdict_said n _ (λ i. omega (arith, c.type_inv.sent i)) _ (c.judge.ensures (every_cell n) (refl, refl, refl, refl)) _ c.in-Ok.is)

pub returns-in-Err-clause-err : goal.returns-in-Err-clause-err
returns-in-Err-clause-err c n =
    (refl, verdict_said n _ (λ i. omega (arith, c.type_inv.sent i)) _ (c.judge.ensures (every_cell n) (refl, refl, refl, refl)) _ c.in-Err.is)
