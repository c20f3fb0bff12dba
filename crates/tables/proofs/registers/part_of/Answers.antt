-- `tables::registers::part_of` meets its contract: the two ways out are the two of the choice.
-- Assumes nothing.
use mathlib.Core.Path.{◌≡◌, sym}
use Prim.Native.Nat.{◌+◌, ◌-◌, ◌*◌}
use native.Mathlib.Omega.{arith}
use Rattle.modbus.proofs.StepLaws.{pick_yes, pick_no}
use Rattle.tables.proofs.registers.part_of.Goals as goal

pub returns-then-size-end : goal.returns-then-size-end
returns-then-size-end c = sym (pick_no _ _ _ (λ h. omega arith))

pub returns : goal.returns
returns c =
    let a = c.args in
    let k : 2 * (a.reg + a.count) - 2 * a.reg ≡ 2 * a.count = omega arith in
    rw k (sym (pick_yes _ _ _ (omega arith)))
