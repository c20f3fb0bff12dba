-- `ModbusProto::try_from`: a number up to 2 is that transport's, any other is refused.
use Rattle.std.proofs.Common.{ℕ, ◌≡◌, ◌≤◌, sym, ap, ◌∙◌, arith}
use Rattle.modbus.specs.Paper.{proto_asked}
use Rattle.modbus.proofs.StepLaws.{pick_yes, pick_no}
use Rattle.modbus.proofs.ModbusProtoTryFromU8.try_from.Goals as goal

known : (n m : ℕ) → n ≡ m → m ≤ 2 → ◌≡◌ {A = ℕ × ℕ} (0, m) (proto_asked n)
known n m e h = sym (pick_yes _ _ _ (omega arith) ∙ ap (λ (k : ℕ). (0, k)) e)

pub returns-in-0 : goal.returns-in-0
returns-in-0 c = known _ 0 c.in-0.is (omega arith)

pub returns-in-1 : goal.returns-in-1
returns-in-1 c = known _ 1 c.in-1.is (omega arith)

pub returns-in-2 : goal.returns-in-2
returns-in-2 c = known _ 2 c.in-2.is (omega arith)

pub returns-in_default : goal.returns-in_default
returns-in_default c = sym (pick_no _ _ _ (λ h. omega (arith, c.in_default)))
