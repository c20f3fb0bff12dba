-- `process::writes::write_one` meets its contract: a frame that is too short, a value that is refused, or the answer of the table call.
-- Assumes nothing.
use mathlib.Core.Path.{ap, ◌∙◌}
use native.Mathlib.Omega.{arith}
use Rattle.modbus.proofs.StepLaws.{test_refuses, test_passes}
use Rattle.modbus.specs.Paper.{kind_in}
use Rattle.outgoing.proofs.WayLaws.{reach_done}
use Rattle.frame.proofs.StateLaws.{handed}
use Rattle.process.specs.Process.{value_of}
use Rattle.process.proofs.ProcessLaws.{one_unread, one_illegal, one_done}
use Rattle.process.proofs.writes.write_one.Goals as goal

pub overflow_add-start : goal.overflow_add-start
overflow_add-start c =
    let h = reach_done _ _ _ _ c.reach.ensures c.in_ok-reach.was in
    omega arith

pub returns-then-illegal : goal.returns-then-illegal
returns-then-illegal c =
    let h = test_refuses _ _ c.illegal.ensures c.if-illegal.true in
    one_illegal (kind_in c.args.of) _ _ _ _ _ _ c.reach.ensures c.in_ok-reach.was (rw c.word-value.ensures at h)

pub set_one-stored-requires : goal.set_one-stored-requires
set_one-stored-requires c = test_passes _ _ c.illegal.ensures c.if-illegal.false

pub returns-in_err-reach : goal.returns-in_err-reach
returns-in_err-reach c =
    ap (λ a. (a, c.args.table.now)) (handed _ _ c.args.frame.now _ c.from_residual.ensures.1)
    ∙ one_unread (kind_in c.args.of) _ _ _ _ _ _ c.reach.ensures _ c.in_err-reach.was

pub returns : goal.returns
returns c =
    let k = kind_in c.args.of in
    let h = test_passes _ _ c.illegal.ensures c.if-illegal.false in
    one_done k _ _ _ _ _ _ c.reach.ensures c.in_ok-reach.was (rw c.word-value.ensures at h) _
    (ap (value_of k) c.word-value.ensures) c.set_one-stored.result _ c.set_one-stored.ensures _ c.confirm.ensures
