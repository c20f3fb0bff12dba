-- `requests::judge_read` meets its contract: each way out is a step of the definition.
-- Assumes nothing.
use mathlib.Core.Path.{refl, sym, ◌∙◌}
use Rattle.modbus.specs.Request.{reads}
use Rattle.modbus.proofs.StepLaws.{pick_yes, pick_no}
use Rattle.requests.proofs.JudgedLaws.{on, off, judged_read, judged_length, judged_value, judged_range, needed_ok, needed_err, needed_out}
use Rattle.requests.proofs.judge_read.Goals as goal

pub returns-then-broadcast : goal.returns-then-broadcast
returns-then-broadcast c s z = let p = c.requires in sym (judged_read s _ _ (reads p.0) p.1 (on _ c.if-broadcast.true) tt)

pub returns-then-body-ne6 : goal.returns-then-body-ne6
returns-then-body-ne6 c s z =
    let p = c.requires in
    sym (judged_length s _ _ (reads p.0) p.1 (λ h. off _ c.if-broadcast.false h.0) c.if-body-ne6.true)

pub returns-in_err-counted : goal.returns-in_err-counted
returns-in_err-counted c s z =
    let p = c.requires in
    let n = needed_err _ _ c.counted.ensures c.in_err-counted.was in
    needed_out _ _ c.counted.ensures c.from_residual.ensures.1 c.in_err-counted.was
    ∙ sym (judged_value s _ _ (reads p.0) p.1 (λ h. off _ c.if-broadcast.false h.0) c.if-body-ne6.false
    (λ h. n (rw (c.word-count.ensures, p.2) h)))

pub returns-in_err-inside : goal.returns-in_err-inside
returns-in_err-inside c s z =
    let p = c.requires in
    let y = needed_ok _ _ c.counted.ensures c.in_ok-counted.was in
    let n = needed_err _ _ c.inside.ensures c.in_err-inside.was in
    needed_out _ _ c.inside.ensures c.from_residual-in_err-inside.ensures.1 c.in_err-inside.was
    ∙ sym (pick_no _ _ _ (λ h. n (rw (c.word-address.ensures, c.word-count.ensures) h)))
    ∙ sym (judged_range s _ _ (reads p.0) p.1 (λ h. off _ c.if-broadcast.false h.0) c.if-body-ne6.false
    (rw (c.word-count.ensures, p.2) at y) _ refl _ (z p.0 p.1))

pub returns : goal.returns
returns c s z =
    let p = c.requires in
    let y = needed_ok _ _ c.counted.ensures c.in_ok-counted.was in
    let i = needed_ok _ _ c.inside.ensures c.in_ok-inside.was in
    let a = c.word-address.ensures in
    (rw (a, c.word-count.ensures, p.1))
    ∙ sym (pick_yes _ _ _ (rw (a, c.word-count.ensures) at i))
    ∙ sym (judged_range s _ _ (reads p.0) p.1 (λ h. off _ c.if-broadcast.false h.0) c.if-body-ne6.false
    (rw (c.word-count.ensures, p.2) at y) _ refl _ (z p.0 p.1))
