-- `external::writes::data_len` meets its contract.
-- Assumes nothing.
use mathlib.Core.Path.{sym, ap, ◌∙◌}
use Rattle.modbus.specs.Paper.{told, paper}
use Rattle.modbus.proofs.PaperLaws.{handed_on}
use Rattle.external.proofs.WriteLaws.{length_refused, length_behind}
use Rattle.external.proofs.writes.data_len.Goals as goal

pub returns-in_err-index : goal.returns-in_err-index
returns-in_err-index c =
    ap paper (handed_on _ c.from_residual.ensures.1)
    ∙ sym (ap told (length_refused _ _ _ c.index.ensures _ c.in_err-index.was))

pub returns : goal.returns
returns c = c.data_behind.ensures ∙ sym (ap told (length_behind _ _ _ c.index.ensures c.in_ok-index.was))
