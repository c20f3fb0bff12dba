-- `requests::judge_many` meets its contract: each way out is a step of the definition.
-- Assumes nothing.
use mathlib.Core.Path.{sym, ap, ◌∙◌}
use Rattle.std.specs.Prelude.{Err}
use Rattle.modbus.specs.Request.{many}
use Rattle.modbus.specs.Paper.{kind_in}
use Rattle.requests.proofs.JudgedLaws.{judged_length, judged_value, many_judged, needed_ok, needed_err, needed_out}
use Rattle.requests.proofs.judge_many.Goals as goal

pub returns-in_err-lengthy : goal.returns-in_err-lengthy
returns-in_err-lengthy c s z =
    let k = kind_in c.args.kind in
    needed_out _ _ c.lengthy.ensures c.from_residual.ensures.1 c.in_err-lengthy.was
    ∙ sym (judged_length s _ _ (many k) c.requires.0 (λ h. h.1) (needed_err _ _ c.lengthy.ensures c.in_err-lengthy.was))

pub returns-in_err-counted : goal.returns-in_err-counted
returns-in_err-counted c s z =
    let k = kind_in c.args.kind in
    let p = c.requires in
    let l = needed_ok _ _ c.lengthy.ensures c.in_ok-lengthy.was in
    let n = needed_err _ _ c.counted.ensures c.in_err-counted.was in
    needed_out _ _ c.counted.ensures c.from_residual-in_err-counted.ensures.1 c.in_err-counted.was
    ∙ sym (judged_value s _ _ (many k) p.0 (λ h. h.1) l (λ h. n (rw (c.word-count.ensures, p.1) (h.0, h.1.0))))

pub bounds-body-6 : goal.bounds-body-6
bounds-body-6 c = (needed_ok _ _ c.lengthy.ensures c.in_ok-lengthy.was).0

pub returns-then-body-octets_of : goal.returns-then-body-octets_of
returns-then-body-octets_of c s z =
    let k = kind_in c.args.kind in
    let p = c.requires in
    let l = needed_ok _ _ c.lengthy.ensures c.in_ok-lengthy.was in
    let o = c.octets_of.ensures in
    ap Err c.refused.ensures
    ∙ sym (judged_value s _ _ (many k) p.0 (λ h. h.1) l (λ h. c.if-body-octets_of.true (rw (o, c.word-count.ensures) h.1.1)))

pub returns : goal.returns
returns c s z =
    let k = kind_in c.args.kind in
    let p = c.requires in
    let l = needed_ok _ _ c.lengthy.ensures c.in_ok-lengthy.was in
    let y = rw (c.word-count.ensures, p.1) at (needed_ok _ _ c.counted.ensures c.in_ok-counted.was) in
    let o = rw (c.octets_of.ensures, c.word-count.ensures) at c.if-body-octets_of.false in
    rw (c.word.ensures, c.word-count.ensures) at c.judge_address.ensures
    ∙ sym (many_judged s c.args.broadcast _ k p.0 l (y.0, (y.1, o)) _ z)
