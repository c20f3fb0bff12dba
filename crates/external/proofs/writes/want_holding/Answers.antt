-- `external::writes::want_holding` meets its contract: a frame that is too short, or where the value stands.
-- Assumes nothing.
use mathlib.Core.Path.{sym, ◌∙◌}
use native.Mathlib.Omega.{arith}
use Rattle.external.proofs.WriteLaws.{write_handed, index_done, holding_refused, holding_wanted}
use Rattle.external.proofs.writes.want_holding.Goals as goal

pub overflow_add-result : goal.overflow_add-result
overflow_add-result c =
    let h = index_done _ _ _ _ _ c.index.ensures c.in_ok-index.was in
    omega arith

pub returns-in_err-index : goal.returns-in_err-index
returns-in_err-index c out =
    write_handed _ _ _ out c.from_residual.ensures.1 ∙ sym (holding_refused _ _ out _ c.index.ensures _ c.in_err-index.was)

pub returns : goal.returns
returns c out = sym (holding_wanted _ _ out _ c.index.ensures c.in_ok-index.was)
