-- `requests::valued` meets its contract: a coil of neither value, one of them, and a register.
-- Assumes nothing.
use mathlib.Core.Path.{sym, ap, ◌∙◌}
use Rattle.std.specs.Prelude.{Err}
use Rattle.modbus.specs.Step.{choose}
use Rattle.modbus.specs.Table.{bit}
use Rattle.modbus.specs.Request.{one}
use Rattle.modbus.specs.Decode.{valued?}
use Rattle.modbus.proofs.StepLaws.{pick_yes, pick_no, holds, holds_not}
use Rattle.requests.proofs.valued.Goals as goal

pub returns-then-not-is_coil : goal.returns-then-not-is_coil
returns-then-not-is_coil c =
    rw c.in-Bits.is
    (ap Err c.refused.ensures
    ∙ sym (pick_no (valued? (one bit) c.args.body.now) _ _ (rw c.word.ensures at (holds_not _ _ c.is_coil.ensures c.if-not-is_coil.true))))

pub returns-else-not-is_coil : goal.returns-else-not-is_coil
returns-else-not-is_coil c =
    rw c.in-Bits.is (sym (pick_yes (valued? (one bit) c.args.body.now) _ _ (rw c.word.ensures at (holds _ _ c.is_coil.ensures c.if-not-is_coil.false))))

pub returns-in-Words : goal.returns-in-Words
unfolding valued? choose
returns-in-Words c = rw c.in-Words.is
