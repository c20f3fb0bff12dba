-- `external::errors::fail_by` meets its contract: a Modbus error is set, any other kind handed on.
-- Assumes nothing.
use mathlib.Core.Path.{sym, ◌∙◌}
use Rattle.external.proofs.ErrorLaws.{fail_hands_on, fail_sets}
use Rattle.external.proofs.errors.fail_by.Goals as goal

pub returns-in-Some : goal.returns-in-Some
returns-in-Some c =
    let a = c.args in
    c.set_code.ensures ∙ sym (fail_sets a.kind a.frame.now a.response.now _ (sym c.kind_code.ensures ∙ c.in-Some.is))

pub returns-in-None : goal.returns-in-None
returns-in-None c =
    let a = c.args in
    sym (fail_hands_on a.kind a.frame.now a.response.now (sym c.kind_code.ensures ∙ c.in-None.is))
