-- `driver::drive` meets its contract: what was refused before there was a body, in numbers.
-- Assumes nothing.
use mathlib.Core.Path.{ap, ◌∙◌}
use Rattle.driver.specs.declared.Driven.{Driven}
use Rattle.driver.specs.Driven.{leaving}
use Rattle.driver.proofs.drive.Goals as goal

pub returns-in-Err : goal.returns-in-Err
returns-in-Err c =
    let n = c.run-driven.new in
    ap (λ (d : Driven). leaving d n.reply n.coils n.holdings) (c.result-in-Err.ensures ∙ c.refused.ensures 0) ∙ c.in-Err.ensures
