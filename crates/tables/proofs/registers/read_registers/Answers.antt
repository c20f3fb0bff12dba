-- `tables::registers::read_registers` meets its contract, function by function.
-- Assumes nothing.
use Rattle.std.proofs.Common.{sym, ◌∙◌, arith}
use Rattle.modbus.proofs.StepLaws.{pick_yes, pick_no}
use Rattle.tables.specs.Calls.{named}
use Rattle.tables.proofs.registers.read_registers.Goals as goal

pub returns-in-3 : goal.returns-in-3
unfolding named
returns-in-3 c = c.part_of.ensures ∙ sym (pick_yes _ _ _ c.in-3.is)

pub returns-in-4 : goal.returns-in-4
unfolding named
returns-in-4 c = c.part_of-in-4.ensures ∙ sym (pick_no _ _ _ (λ h. omega arith) ∙ pick_yes _ _ _ c.in-4.is)

pub returns-in_default : goal.returns-in_default
unfolding named
returns-in_default c = sym (pick_no _ _ _ (λ h. omega arith) ∙ pick_no _ _ _ (λ h. omega arith))
