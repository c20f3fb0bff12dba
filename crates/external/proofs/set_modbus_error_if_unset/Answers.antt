-- `external::set_modbus_error_if_unset` meets its contract: a long response, what is no Modbus error, and a code that is set.
-- Assumes nothing.
use mathlib.Core.Path.{sym, ap, ◌∙◌}
use native.Mathlib.Omega.{arith}
use Rattle.external.specs.External.{report_code}
use Rattle.external.specs.Answers.{coded}
use Rattle.external.proofs.ErrorLaws.{unset_exceeds, unset_none, unset_coded}
use Rattle.external.proofs.set_modbus_error_if_unset.Goals as goal

pub returns-then-response-frame : goal.returns-then-response-frame
returns-then-response-frame c = sym (unset_exceeds _ _ _ (omega arith))

pub returns-in_default : goal.returns-in_default
returns-in_default c = sym (unset_none _ _ _ (omega arith) (ap (λ r. coded (report_code r)) c.in_default.is))

pub returns-in-Some : goal.returns-in-Some
returns-in-Some c =
    let e = ap (λ r. coded (report_code r)) c.in-Err.is ∙ sym c.code_of.ensures ∙ c.in-Some.is in
    c.set_code.ensures ∙ sym (unset_coded _ _ _ (omega arith) _ e)

pub returns-in-None : goal.returns-in-None
returns-in-None c =
    let e = ap (λ r. coded (report_code r)) c.in-Err.is ∙ sym c.code_of.ensures ∙ c.in-None.is in
    sym (unset_none _ _ _ (omega arith) e)
