-- `tables::registers::set_holding` meets its contract.
-- Assumes nothing.
use mathlib.Core.Path.{◌≡◌, sym, ap}
use Prim.Native.Nat.{◌/◌, ◌%◌}
use native.Mathlib.Omega.{arith}
use native.Mathlib.Numerals.{add-one}
use Rattle.modbus.specs.Paper.{told_with}
use Rattle.modbus.specs.Storage.{registers, put_register}
use Rattle.tables.proofs.CallsLaws.{changed_inside, changed_outside}
use Rattle.tables.proofs.registers.set_holding.Goals as goal

pub returns-then-size-n : goal.returns-then-size-n
returns-then-size-n c = sym (ap (told_with _) (changed_outside registers _ _ _ _ (omega arith)))

pub returns : goal.returns
unfolding put_register
returns c =
    let h : c.args.value / 256 % 256 ≡ c.args.value / 256 = omega arith in
    rw (c.to_be_bytes.ensures, h, add-one) (sym (ap (told_with _) (changed_inside registers _ _ _ _ (omega arith))))
