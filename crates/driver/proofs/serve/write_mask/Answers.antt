-- `driver::serve::write_mask` meets its contract: the register lies inside, so the call succeeds.
-- Assumes nothing.
use mathlib.Core.Path.{ap, ◌∙◌}
use native.Mathlib.Omega.{arith}
use Rattle.modbus.specs.Request.{masked}
use Rattle.modbus.specs.Storage.{registers, register_at, put_register}
use Rattle.driver.proofs.ReplyLaws.{holds_by, changed_done, changed_put}
use Rattle.driver.proofs.serve.write_mask.Goals as goal

pub unwrap-requires : goal.unwrap-requires
unwrap-requires c =
    let a = c.args in
    holds_by _ c.set_holding.result (changed_done registers a.holdings.now a.cells c.requires.1 _ _ a.m.address _ c.set_holding.ensures (omega (arith, c.requires.0)))

pub returns : goal.returns
unfolding masked register_at
returns c =
    let a = c.args in
    changed_put registers a.holdings.now a.cells c.requires.1 _ _ a.m.address _ c.set_holding.ensures (omega (arith, c.requires.0))
    ∙ ap (λ old. put_register a.holdings.now a.m.address (masked old a.m.and_mask a.m.or_mask)) c.word-old.ensures
