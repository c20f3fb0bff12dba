-- `client::hear::hear` meets its contract: room, a frame that is none, another transaction, and the body.
-- Assumes nothing.
use mathlib.Core.Path.{sym, ap, ◌∙◌}
use native.Mathlib.Omega.{arith}
use lib.ListN.{length}
use Rattle.std.proofs.lemmas.Result.{err_from_is_err_and}
use Rattle.modbus.specs.Paper.{proto_of}
use Rattle.modbus.proofs.StepLaws.{test_refuses, test_passes}
use Rattle.client.proofs.StrictLaws.{strict}
use Rattle.client.specs.Asking.{read_into}
use Rattle.client.specs.Hearing.{message_in}
use Rattle.client.proofs.HearLaws.{replied_full, replied_none, replied_other, replied_body}
use Rattle.client.proofs.hear.hear.Goals as goal

pub returns-then-values-count : goal.returns-then-values-count
returns-then-values-count c a q =
    let v = c.args in
    sym (ap (read_into v.values.now)
    (replied_full v.proto (message_in v.proto v.request.now v.sent.now) a v.response.now (length v.values.now) (λ h. omega (arith, q.counted, c.if-values-count.true, h))))

pub returns-in_err-body : goal.returns-in_err-body
returns-in_err-body c a q =
    let v = c.args in
    let p = err_from_is_err_and c.from_residual.result c.from_residual.ensures.1 in
    rw (p.1, p.2) (sym (ap (read_into v.values.now)
    (replied_none v.proto (message_in v.proto v.request.now v.sent.now) a v.response.now _ (omega (arith, q.counted, c.if-values-count.false)) _
    (strict (proto_of v.proto) v.response.now _ c.in_err-body.ensures.err))))

pub other_tag-requires : goal.other_tag-requires
other_tag-requires c = (c.requires.1, c.in_ok-body.ensures.ok.2)

pub returns-then-other_tag : goal.returns-then-other_tag
returns-then-other_tag c a q =
    let v = c.args in
    let e = strict (proto_of v.proto) v.response.now _ c.in_ok-body.ensures.ok.0 in
    sym (ap (read_into v.values.now)
    (replied_other v.proto (message_in v.proto v.request.now v.sent.now) a v.response.now _ (omega (arith, q.counted, c.if-values-count.false)) _ e
    (test_refuses _ _ c.other_tag.ensures c.if-other_tag.true)))

pub returns : goal.returns
returns c a q =
    let v = c.args in
    let e = strict (proto_of v.proto) v.response.now _ c.in_ok-body.ensures.ok.0 in
    c.weigh.ensures a q
    ∙ sym (ap (read_into v.values.now)
    (replied_body v.proto (message_in v.proto v.request.now v.sent.now) a v.response.now _ (omega (arith, q.counted, c.if-values-count.false)) _ e
    (test_passes _ _ c.other_tag.ensures c.if-other_tag.false)))
