-- `collector::serve` meets its contract: another transport is BadSetup, and RTU is the driver's.
-- Assumes nothing.
use mathlib.Core.Path.{sym, ap, ◌∙◌}
use Rattle.driver.specs.declared.Driven.{Driven}
use Rattle.driver.specs.Driven.{leaving}
use Rattle.collector.proofs.CollectedLaws.{rtu_other, rtu_driven}
use Rattle.collector.proofs.serve.Goals as goal

pub returns-then-setup-ne-RTU : goal.returns-then-setup-ne-RTU
returns-then-setup-ne-RTU c =
    let a = c.args in
    ap (λ (d : Driven). leaving d a.reply.now a.coils.now a.holdings.now) c.refused.ensures ∙ sym (rtu_other _ c.if-setup-ne-RTU.true)

pub returns : goal.returns
returns c = c.drive.ensures ∙ sym (rtu_driven _ c.if-setup-ne-RTU.false)
