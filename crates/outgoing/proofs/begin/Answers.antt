-- `outgoing::begin` meets its contract.
-- Assumes nothing.
use mathlib.Core.Path.{sym, ap, ◌∙◌}
use native.Mathlib.Omega.{arith}
use Rattle.modbus.proofs.StepLaws.{test_refuses, test_passes}
use Rattle.outgoing.specs.Grow.{growth}
use Rattle.outgoing.proofs.GrowLaws.{was_done, handed}
use Rattle.outgoing.proofs.WayLaws.{reach_done, reach_refused, begun_unset, begun_unread, field_fits, begun_on}
use Rattle.outgoing.proofs.begin.Goals as goal

pub returns-then-unsettable : goal.returns-then-unsettable
returns-then-unsettable c =
    let h = test_refuses _ _ c.unsettable.ensures c.if-unsettable.true in
    sym (ap growth (begun_unset _ _ _ _ _ _ _ h))

pub returns-in_err-reach : goal.returns-in_err-reach
returns-in_err-reach c =
    let h = test_passes _ _ c.unsettable.ensures c.if-unsettable.false in
    let u = reach_refused _ _ _ _ c.reach.ensures _ c.in_err-reach.was _ in
    handed _ c.from_residual.ensures.1 (begun_unread _ _ _ _ _ _ _ h _ u)

pub tcp_response_set_data_len-requires : goal.tcp_response_set_data_len-requires
tcp_response_set_data_len-requires c =
    (test_passes _ _ c.unsettable.ensures c.if-unsettable.false).0

-- there is room for the field
pub returns-in_err-tcp_response_set_data_len : goal.returns-in_err-tcp_response_set_data_len
returns-in_err-tcp_response_set_data_len c =
    let h = test_passes _ _ c.unsettable.ensures c.if-unsettable.false in
    absurd (field_fits _ _ c.args.buf.now c.args.start c.args.n _ _ h _ _ _ c.tcp_response_set_data_len.ensures _ c.in_err-tcp_response_set_data_len.was)

pub overflow_add-end : goal.overflow_add-end
overflow_add-end c =
    let h = reach_done _ _ _ _ c.reach.ensures c.in_ok-reach.was in
    omega arith

pub slice_bounds-extend-end : goal.slice_bounds-extend-end
slice_bounds-extend-end c =
    let h = reach_done _ _ _ _ c.reach.ensures c.in_ok-reach.was in
    omega arith

pub returns : goal.returns
returns c =
    let h = test_passes _ _ c.unsettable.ensures c.if-unsettable.false in
    let d = reach_done _ _ _ _ c.reach.ensures c.in_ok-reach.was in
    let f = was_done _ _ _ _ c.tcp_response_set_data_len.ensures c.in_ok-tcp_response_set_data_len.was in
    c.extend.ensures ∙ sym (ap growth (begun_on _ _ _ _ _ _ _ h d.0 d.1 _ _ f))
