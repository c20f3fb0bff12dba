-- `process::writes::data_held` meets its contract.
-- Assumes nothing.
use mathlib.Core.Path.{sym, ap, ◌∙◌}
use Rattle.modbus.specs.Paper.{told, paper}
use Rattle.modbus.proofs.PaperLaws.{handed_on}
use Rattle.process.proofs.ProcessLaws.{held_unread, held_behind}
use Rattle.process.proofs.writes.data_held.Goals as goal

pub returns-in_err-reach : goal.returns-in_err-reach
returns-in_err-reach c =
    ap paper (handed_on _ c.from_residual.ensures.1)
    ∙ sym (ap told (held_unread _ _ _ c.reach.ensures _ c.in_err-reach.was))

pub returns : goal.returns
returns c =
    c.data_behind.ensures
    ∙ sym (ap told (held_behind _ _ _ c.reach.ensures c.in_ok-reach.was))
