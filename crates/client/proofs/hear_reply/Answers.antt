-- `client::hear_reply` meets its contract: the transport, a request that is no frame or asks nothing, and the reply.
-- Assumes nothing.
use mathlib.Core.Path.{sym, ap, ◌∙◌}
use native.Mathlib.Omega.{arith}
use Rattle.std.proofs.lemmas.Result.{err_from_is_err_and}
use Rattle.modbus.specs.Paper.{proto_of}
use Rattle.client.proofs.StrictLaws.{strict}
use Rattle.client.specs.Asking.{read_into}
use Rattle.client.specs.Hearing.{message_in}
use Rattle.client.proofs.HearLaws.{transport_high, unopened, opened_to}
use Rattle.client.proofs.SaidLaws.{replied_said, replied_failed}
use Rattle.client.proofs.hear_reply.Goals as goal

pub returns-then-proto-gt2 : goal.returns-then-proto-gt2
returns-then-proto-gt2 c =
    sym (ap (read_into c.args.values.now) (transport_high _ _ _ _ (λ h. omega (arith, c.if-proto-gt2.true, h))))

pub returns-in_default : goal.returns-in_default
returns-in_default c =
    let v = c.args in
    sym (ap (read_into v.values.now)
    (unopened v.proto v.request.now _ _ (omega (arith, c.if-proto-gt2.false)) _ (strict (proto_of v.proto) v.request.now _ c.in_default.ensures.err)))

pub returns-in_err-count : goal.returns-in_err-count
returns-in_err-count c =
    let v = c.args in
    let p = err_from_is_err_and c.from_residual.result c.from_residual.ensures.1 in
    let u = c.in_err-count.ensures.err v.proto in
    let e = strict (proto_of v.proto) v.request.now _ c.in-Ok.ensures.ok.0 in
    rw (p.1, p.2, u.0) (sym (ap (read_into v.values.now)
    (opened_to v.proto v.request.now v.response.now _ (omega (arith, c.if-proto-gt2.false)) _ e ∙ replied_failed v.proto (message_in v.proto v.request.now c.in-Ok.sent.now) _ _ u.1)))

pub hear-requires : goal.hear-requires
hear-requires c =
    let s = c.in_ok-count.ensures.ok c.args.proto in
    ((s.ask, s.asks), c.in-Ok.ensures.ok.2)

pub returns : goal.returns
returns c =
    let v = c.args in
    let s = c.in_ok-count.ensures.ok v.proto in
    let e = strict (proto_of v.proto) v.request.now _ c.in-Ok.ensures.ok.0 in
    c.hear.ensures s.ask s.asks
    ∙ sym (ap (read_into v.values.now)
    (opened_to v.proto v.request.now v.response.now _ (omega (arith, c.if-proto-gt2.false)) _ e ∙ replied_said v.proto (message_in v.proto v.request.now c.in-Ok.sent.now) _ _ _ s.goes))
