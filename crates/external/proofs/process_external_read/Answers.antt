-- `external::process_external_read` meets its contract: a long response, a read that was done, and one that was not.
-- Assumes nothing.
use mathlib.Core.Path.{sym, ◌∙◌}
use native.Mathlib.Omega.{arith}
use Rattle.external.proofs.ErrorLaws.{report_exceeds, report_by, report_other}
use Rattle.external.proofs.process_external_read.Goals as goal

pub returns-then-response-frame : goal.returns-then-response-frame
returns-then-response-frame c = sym (report_exceeds _ _ _ _ (omega arith))

pub returns-in-Ok : goal.returns-in-Ok
returns-in-Ok c = c.read_done.ensures _ ∙ sym (report_by _ _ _ _ (omega arith) _ c.in-Ok.is)

pub returns-in-Err : goal.returns-in-Err
returns-in-Err c = report_other _ _ _ _ _ _ c.in-Err.is (omega arith) c.fail.ensures
