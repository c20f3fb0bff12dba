-- `external::writes::want_coil` meets its contract: a frame that is too short, a value that is refused, or the value.
-- Assumes nothing.
use mathlib.Core.Path.{sym, ◌∙◌}
use native.Mathlib.Omega.{arith}
use Rattle.external.proofs.WriteLaws.{write_handed, index_done, illegal_full, illegal_set, coil_refused, coil_illegal, coil_wanted}
use Rattle.external.proofs.writes.want_coil.Goals as goal

pub overflow_add-start : goal.overflow_add-start
overflow_add-start c =
    let h = index_done _ _ _ _ _ c.index.ensures c.in_ok-index.was in
    omega arith

pub returns-in_err-index : goal.returns-in_err-index
returns-in_err-index c =
    write_handed _ _ _ _ c.from_residual.ensures.1 ∙ sym (coil_refused _ _ _ _ c.index.ensures _ c.in_err-index.was)

pub returns-in_err-set_code : goal.returns-in_err-set_code
returns-in_err-set_code c =
    write_handed _ _ _ _ c.from_residual-in_err-set_code.ensures.1
    ∙ sym (coil_illegal _ _ _ _ c.index.ensures c.in_ok-index.was _ c.word-value.ensures _ c.illegal.ensures c.if-illegal.true
    ∙ illegal_full _ _ _ _ c.set_code.ensures _ c.in_err-set_code.was)

pub returns-then-illegal : goal.returns-then-illegal
returns-then-illegal c =
    sym (coil_illegal _ _ _ _ c.index.ensures c.in_ok-index.was _ c.word-value.ensures _ c.illegal.ensures c.if-illegal.true
    ∙ illegal_set _ _ _ _ c.set_code.ensures c.in_ok-set_code.was)

pub returns : goal.returns
returns c =
    sym (coil_wanted _ _ _ _ c.index.ensures c.in_ok-index.was _ c.word-value.ensures _ c.illegal.ensures c.if-illegal.false)
