-- `requests::holdings::judge_mask` meets its contract: each way out is a step of the definition.
-- Assumes nothing.
use mathlib.Core.Path.{refl, sym, ◌∙◌}
use Rattle.modbus.specs.Request.{mask}
use Rattle.modbus.proofs.StepLaws.{pick_yes, pick_no}
use Rattle.requests.proofs.JudgedLaws.{judged_length, judged_range, needed_ok, needed_err, needed_out}
use Rattle.requests.proofs.holdings.judge_mask.Goals as goal

pub returns-then-body-ne8 : goal.returns-then-body-ne8
returns-then-body-ne8 c s z = sym (judged_length s _ _ mask c.requires (λ h. h.1) c.if-body-ne8.true)

pub returns-in_err-inside : goal.returns-in_err-inside
returns-in_err-inside c s z =
    needed_out _ _ c.inside.ensures c.from_residual.ensures.1 c.in_err-inside.was
    ∙ sym (pick_no _ _ _ (rw c.word-address.ensures at (needed_err _ _ c.inside.ensures c.in_err-inside.was)))
    ∙ sym (judged_range s c.args.broadcast _ mask c.requires (λ h. h.1) c.if-body-ne8.false tt _ refl _ z)

pub returns : goal.returns
returns c s z =
    let i = needed_ok _ _ c.inside.ensures c.in_ok-inside.was in
    rw (c.word-address.ensures, c.word.ensures, c.word-2.ensures)
    (sym (pick_yes _ _ _ (rw c.word-address.ensures at i))
    ∙ sym (judged_range s c.args.broadcast _ mask c.requires (λ h. h.1) c.if-body-ne8.false tt _ refl _ z))
