-- `transports::body_of` meets its contract: the length is that of a body in the frame, or among the decoded bytes.
-- Assumes nothing.
use Rattle.std.proofs.Common.{sym, ◌∙◌, arith}
use Rattle.std.proofs.lemmas.Result.{err_from_is_err_and}
use Rattle.modbus.specs.Paper.{proto_of}
use Rattle.modbus.specs.Decode.{spelled_in}
use Rattle.transports.proofs.ProtoLaws.{start_six}
use Rattle.transports.proofs.AnswerLaws.{Opens, opened_none, opened_under, opens_holds}
use Rattle.transports.proofs.body_of.Goals as goal
use Rattle.transports.proofs.body_of.Goals.{In_ok-n}

opens : (w : In_ok-n) → Opens (proto_of w.args.transport) (spelled_in (proto_of w.args.transport) w.args.hex w.args.frame.now) w.args.frame.now w.in_ok-n.n w.open.new.raw
opens w =
    let e = w.open.ensures in
    opened_under (proto_of w.args.transport) w.args.hex w.args.frame.now w.in_ok-n.n (sym w.in_ok-n.was ∙ e.value) w.open.new.raw e.fronted (e.raw_len_unchanged ∙ w.told-raw)

pub returns-in_err-n-clause-err : goal.returns-in_err-n-clause-err
returns-in_err-n-clause-err c =
    let p = err_from_is_err_and c.from_residual.result c.from_residual.ensures.1 in
    rw (p.1, p.2) (opened_none (proto_of c.args.transport) _ c.in_err-n.field-0.0 (sym c.in_err-n.was ∙ c.open.ensures.value))

pub overflow_add-end : goal.overflow_add-end
overflow_add-end c = record { fits = omega (arith, (opens (goal.at.overflow_add-end c).In_ok-n).4, start_six (proto_of c.args.transport), c.start_of-start.ensures) }

pub slice_bounds-result-end : goal.slice_bounds-result-end
slice_bounds-result-end c = rw (c.body_source-source.ensures, c.start_of-start.ensures) (opens (goal.at.slice_bounds-result-end c).In_ok-n).2

pub returns-clause-ok : goal.returns-clause-ok
returns-clause-ok c =
    opens_holds (proto_of c.args.transport) _ _ c.in_ok-n.n _ c.open.new.raw _ (opens (goal.at.returns-clause-ok c).In_ok-n) c.start_of-start.ensures c.body_source-source.ensures
