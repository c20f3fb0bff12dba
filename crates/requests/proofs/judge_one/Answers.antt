-- `requests::judge_one` meets its contract: each way out is a step of the definition.
-- Assumes nothing.
use mathlib.Core.Path.{sym, ◌∙◌}
use Rattle.modbus.specs.Request.{one}
use Rattle.modbus.specs.Paper.{kind_in}
use Rattle.requests.proofs.JudgedLaws.{judged_length, judged_value, one_judged, needed_ok, needed_err, needed_out}
use Rattle.requests.proofs.judge_one.Goals as goal

pub returns-then-body-ne6 : goal.returns-then-body-ne6
returns-then-body-ne6 c s z =
    let a = c.args in
    sym (judged_length s _ _ (one (kind_in a.kind)) c.requires (λ h. h.1) c.if-body-ne6.true)

pub returns-in_err-valued : goal.returns-in_err-valued
returns-in_err-valued c s z =
    let a = c.args in
    let n = needed_err _ _ c.valued.ensures c.in_err-valued.was in
    needed_out _ _ c.valued.ensures c.from_residual.ensures.1 c.in_err-valued.was
    ∙ sym (judged_value s _ _ (one (kind_in a.kind)) c.requires (λ h. h.1) c.if-body-ne6.false n)

pub returns : goal.returns
returns c s z =
    let a = c.args in
    let y = needed_ok _ _ c.valued.ensures c.in_ok-valued.was in
    rw c.word.ensures at c.judge_address.ensures
    ∙ sym (one_judged s a.broadcast _ (kind_in a.kind) c.requires c.if-body-ne6.false y _ z)
