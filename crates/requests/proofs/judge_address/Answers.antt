-- `requests::judge_address` meets its contract: outside, and inside.
-- Assumes nothing.
use mathlib.Core.Path.{sym, ap, ◌∙◌}
use Rattle.std.specs.Prelude.{Ok}
use Rattle.modbus.proofs.StepLaws.{pick_yes, pick_no}
use Rattle.requests.proofs.JudgedLaws.{needed_ok, needed_err, needed_out}
use Rattle.requests.proofs.judge_address.Goals as goal

pub returns-in_err-inside : goal.returns-in_err-inside
returns-in_err-inside c =
    needed_out _ _ c.inside.ensures c.from_residual.ensures.1 c.in_err-inside.was
    ∙ sym (pick_no _ _ _ (needed_err _ _ c.inside.ensures c.in_err-inside.was))

pub returns : goal.returns
returns c =
    ap Ok c.write_of.ensures
    ∙ sym (pick_yes _ _ _ (needed_ok _ _ c.inside.ensures c.in_ok-inside.was))
