-- `process::writes::write_many` meets its contract: a frame without the data, or the answer of the table call.
-- Assumes nothing.
use mathlib.Core.Path.{ap, ◌∙◌}
use native.Mathlib.Omega.{arith}
use Rattle.modbus.specs.Paper.{kind_in}
use Rattle.frame.proofs.StateLaws.{handed}
use Rattle.process.proofs.ProcessLaws.{held, many_unheld, many_done}
use Rattle.process.proofs.writes.write_many.Goals as goal

pub overflow_add-from : goal.overflow_add-from
overflow_add-from c =
    let h = held _ _ _ _ c.data_held.ensures c.in_ok-n.was in
    omega arith

pub overflow_add-end : goal.overflow_add-end
overflow_add-end c =
    let h = held _ _ _ _ c.data_held.ensures c.in_ok-n.was in
    omega arith

pub slice_bounds-set_many-end : goal.slice_bounds-set_many-end
slice_bounds-set_many-end c =
    let h = held _ _ _ _ c.data_held.ensures c.in_ok-n.was in
    omega arith

pub returns-in_err-n : goal.returns-in_err-n
returns-in_err-n c =
    ap (λ a. (a, c.args.table.now)) (handed _ _ c.args.frame.now _ c.from_residual.ensures.1)
    ∙ many_unheld (kind_in c.args.of) _ _ _ _ _ _ c.data_held.ensures _ c.in_err-n.was

pub returns : goal.returns
returns c =
    many_done (kind_in c.args.of) _ _ _ _ _ _ c.data_held.ensures _ c.in_ok-n.was c.set_many-stored.result
    _ c.set_many-stored.ensures _ c.confirm.ensures
