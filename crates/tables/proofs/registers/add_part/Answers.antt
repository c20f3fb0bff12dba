-- `tables::registers::add_part` meets its contract: inside the table the bytes that stand there are the bytes to be shown.
-- Assumes nothing.
use mathlib.Core.Path.{◌≡◌, sym, ap, ◌∙◌}
use Prim.Native.Nat.{ℕ, ◌+◌, ◌-◌, ◌*◌, ◌<◌}
use native.Mathlib.Omega.{arith}
use lib.ListN.{length, get_or, take, drop, length-take, length-drop}
use Rattle.modbus.specs.Paper.{told_with}
use Rattle.modbus.specs.Storage.{registers}
use Rattle.modbus.proofs.RegisterLaws.{shown_bytes}
use Rattle.tables.proofs.CallsLaws.{added_long, added_outside, added_extends}
use Rattle.tables.proofs.registers.add_part.Goals as goal

pub returns-then-response-len : goal.returns-then-response-len
returns-then-response-len c = sym (ap (told_with _) (added_long registers _ _ _ _ _ _ (omega arith)))

pub returns-then-size-end : goal.returns-then-size-end
returns-then-size-end c = sym (ap (told_with _) (added_outside registers _ _ _ _ _ _ (omega arith) (omega arith)))

pub returns : goal.returns
returns c =
    let a = c.args in
    let k : 2 * (a.reg + a.count) - 2 * a.reg ≡ 2 * a.count = omega arith in
    let d = take (2 * a.count) (drop (2 * a.reg) a.table.now) in
    let n : length d ≡ 2 * a.count = simp (length-take, length-drop) (omega arith) in
    let b : (i : ℕ) → get_or a.table.now i 0 < 256 = λ i. omega (arith, c.type_inv.table i) in
    let e = shown_bytes a.table.now a.reg a.count (omega arith) b in
    (rw k at c.extend.ensures)
    ∙ sym (ap (told_with _) (added_extends registers _ _ _ _ _ _ d (omega arith) (omega arith) n e))
