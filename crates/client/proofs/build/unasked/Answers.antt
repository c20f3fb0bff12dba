-- `client::build::unasked` meets its contract: a verdict that is none is a fault of the body.
-- Assumes nothing.
use mathlib.Core.Path.{refl, ◌∙◌}
use Rattle.client.specs.Asking.{every_cell}
use Rattle.client.proofs.BuildLaws.{verdict_fails}
use Rattle.client.proofs.build.unasked.Goals as goal

pub returns : goal.returns
returns c n = c.is_err.ensures.value ∙ verdict_fails (every_cell n) _ _ (c.judge.ensures (every_cell n) (refl, refl, refl, refl))
