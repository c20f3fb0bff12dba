-- `requests::holdings::judge_both` meets its contract: each way out is a step of the definition.
-- Assumes nothing.
use mathlib.Core.Path.{sym, ap, ◌∙◌}
use Rattle.std.specs.Prelude.{Err}
use Rattle.modbus.specs.Request.{both}
use Rattle.modbus.proofs.StepLaws.{pick_yes, pick_no}
use Rattle.requests.proofs.JudgedLaws.{on, off, judged_read, judged_length, judged_value, both_judged, needed_ok, needed_err, needed_out}
use Rattle.requests.proofs.holdings.judge_both.Goals as goal

pub returns-then-broadcast : goal.returns-then-broadcast
returns-then-broadcast c s z = sym (judged_read s _ _ both c.requires (on _ c.if-broadcast.true) tt)

pub returns-in_err-lengthy : goal.returns-in_err-lengthy
returns-in_err-lengthy c s z =
    needed_out _ _ c.lengthy.ensures c.from_residual.ensures.1 c.in_err-lengthy.was
    ∙ sym (judged_length s _ _ both c.requires (λ h. off _ c.if-broadcast.false h.0) (needed_err _ _ c.lengthy.ensures c.in_err-lengthy.was))

pub returns-in_err-counted : goal.returns-in_err-counted
returns-in_err-counted c s z =
    let l = needed_ok _ _ c.lengthy.ensures c.in_ok-lengthy.was in
    let n = needed_err _ _ c.counted.ensures c.in_err-counted.was in
    needed_out _ _ c.counted.ensures c.from_residual-in_err-counted.ensures.1 c.in_err-counted.was
    ∙ sym (judged_value s _ _ both c.requires (λ h. off _ c.if-broadcast.false h.0) l (λ h. n (rw c.word-2.ensures h.0)))

pub returns-in_err-counted-2 : goal.returns-in_err-counted-2
returns-in_err-counted-2 c s z =
    let l = needed_ok _ _ c.lengthy.ensures c.in_ok-lengthy.was in
    let n = needed_err _ _ c.counted-2.ensures c.in_err-counted-2.was in
    needed_out _ _ c.counted-2.ensures c.from_residual-in_err-counted-2.ensures.1 c.in_err-counted-2.was
    ∙ sym (judged_value s _ _ both c.requires (λ h. off _ c.if-broadcast.false h.0) l (λ h. n (rw c.word-4.ensures (h.1.0, h.1.1.0))))

pub bounds-body-10 : goal.bounds-body-10
bounds-body-10 c = (needed_ok _ _ c.lengthy.ensures c.in_ok-lengthy.was).0

pub returns-then-body-octets_of : goal.returns-then-body-octets_of
returns-then-body-octets_of c s z =
    let l = needed_ok _ _ c.lengthy.ensures c.in_ok-lengthy.was in
    ap Err c.refused.ensures
    ∙ sym (judged_value s _ _ both c.requires (λ h. off _ c.if-broadcast.false h.0) l
    (λ h. c.if-body-octets_of.true (rw (c.octets_of.ensures, c.word-4.ensures) h.1.1.1)))

pub returns-in_err-inside : goal.returns-in_err-inside
returns-in_err-inside c s z =
    let l = needed_ok _ _ c.lengthy.ensures c.in_ok-lengthy.was in
    let r = rw c.word-2.ensures at (needed_ok _ _ c.counted.ensures c.in_ok-counted.was) in
    let y = rw c.word-4.ensures at (needed_ok _ _ c.counted-2.ensures c.in_ok-counted-2.was) in
    let o = rw (c.octets_of.ensures, c.word-4.ensures) at c.if-body-octets_of.false in
    let n = needed_err _ _ c.inside.ensures c.in_err-inside.was in
    needed_out _ _ c.inside.ensures c.from_residual-in_err-inside.ensures.1 c.in_err-inside.was
    ∙ sym (pick_no _ _ _ (λ h. n (rw (c.word.ensures, c.word-2.ensures) h.0)))
    ∙ sym (both_judged s c.args.broadcast _ (off _ c.if-broadcast.false) c.requires l (r, (y.0, (y.1, o))) _ z)

pub returns-in_err-inside-2 : goal.returns-in_err-inside-2
returns-in_err-inside-2 c s z =
    let l = needed_ok _ _ c.lengthy.ensures c.in_ok-lengthy.was in
    let r = rw c.word-2.ensures at (needed_ok _ _ c.counted.ensures c.in_ok-counted.was) in
    let y = rw c.word-4.ensures at (needed_ok _ _ c.counted-2.ensures c.in_ok-counted-2.was) in
    let o = rw (c.octets_of.ensures, c.word-4.ensures) at c.if-body-octets_of.false in
    let n = needed_err _ _ c.inside-2.ensures c.in_err-inside-2.was in
    needed_out _ _ c.inside-2.ensures c.from_residual-in_err-inside-2.ensures.1 c.in_err-inside-2.was
    ∙ sym (pick_no _ _ _ (λ h. n (rw (c.word-3.ensures, c.word-4.ensures) h.1)))
    ∙ sym (both_judged s c.args.broadcast _ (off _ c.if-broadcast.false) c.requires l (r, (y.0, (y.1, o))) _ z)

pub returns : goal.returns
returns c s z =
    let l = needed_ok _ _ c.lengthy.ensures c.in_ok-lengthy.was in
    let r = rw c.word-2.ensures at (needed_ok _ _ c.counted.ensures c.in_ok-counted.was) in
    let y = rw c.word-4.ensures at (needed_ok _ _ c.counted-2.ensures c.in_ok-counted-2.was) in
    let o = rw (c.octets_of.ensures, c.word-4.ensures) at c.if-body-octets_of.false in
    let i = rw (c.word.ensures, c.word-2.ensures) at (needed_ok _ _ c.inside.ensures c.in_ok-inside.was) in
    let j = rw (c.word-3.ensures, c.word-4.ensures) at (needed_ok _ _ c.inside-2.ensures c.in_ok-inside-2.was) in
    rw (c.word.ensures, c.word-2.ensures, c.word-3.ensures, c.word-4.ensures)
    (sym (pick_yes _ _ _ (i, j)) ∙ sym (both_judged s c.args.broadcast _ (off _ c.if-broadcast.false) c.requires l (r, (y.0, (y.1, o))) _ z))
