-- `tables::registers::set_holdings_from_u8` meets its contract: data laid over the part from twice the address on is the registers stored.
-- Assumes nothing.
use mathlib.Core.Path.{◌≡◌, sym, ap}
use mathlib.Core.List.{List, [], ◌++◌, append-nil, append_assoc}
use Prim.Native.Nat.{ℕ, ◌+◌, ◌-◌, ◌*◌, ◌/◌, ◌≤◌, ◌<◌}
use native.Mathlib.Nat.{zero-add}
use native.Mathlib.Omega.{arith}
use lib.ListN.{length, get_or, take, drop, length-take, length-drop, drop_of_length-le}
use lib.Seq.{sets, sets-eq, take_all, drop-drop}
use borrow.Rule.Slice.PartMut.{put_mid}
use Rattle.modbus.specs.Paper.{told_with}
use Rattle.modbus.specs.Storage.{registers}
use Rattle.modbus.proofs.RegisterLaws.{stored_bytes}
use Rattle.response.proofs.BoundedLaws.{extended_put}
use Rattle.tables.specs.Calls.{stored_whole}
use Rattle.tables.proofs.CallsLaws.{stored_outside, stored_unmatched, stored_inside}
use Rattle.tables.proofs.registers.set_holdings_from_u8.Goals as goal
use Rattle.tables.proofs.registers.set_holdings_from_u8.Goals.{then-size-first-via-then-size-first, then-size-first-via-else-size-first+then-values-ne0}

-- the part from a on has come back with the data at its front
filled : (xs vs ys : List ℕ) (a : ℕ) → ys ≡ sets (take (length xs - a) (drop a xs)) 0 vs → a + length vs ≤ length xs
    → put_mid a (length xs - a) xs ys ≡ sets xs a vs
filled xs vs ys a e h =
    let t : take (length xs - a) (drop a xs) ≡ drop a xs = take_all (length xs - a) (drop a xs) (simp length-drop (omega arith)) in
    let d : drop (length xs - a) (drop a xs) ≡ [] = drop_of_length-le (drop a xs) {i = length xs - a} (simp length-drop (omega arith)) in
    let f : sets (drop a xs) 0 vs ≡ vs ++ drop (0 + length vs) (drop a xs) = sets-eq vs (drop a xs) 0 (simp length-drop (omega arith)) in
    let g : sets xs a vs ≡ take a xs ++ vs ++ drop (a + length vs) xs = sets-eq vs xs a h in
    rw (e, t, d, append-nil, f, g, zero-add, drop-drop, append_assoc)

pub returns-then-size-first : goal.returns-then-size-first
unfolding stored_whole
returns-then-size-first c =
    elim c.then-size-first.branch [
      | then-size-first-via-then-size-first w ↦ sym (ap (told_with _) (stored_outside registers _ _ _ _ _ (omega arith)))
      | then-size-first-via-else-size-first+then-values-ne0 w ↦ sym (ap (told_with _) (stored_unmatched registers _ _ _ _ _ (omega arith) (λ h. omega arith)))
    ]

pub returns : goal.returns
unfolding stored_whole
returns c =
    let a = c.args in
    let b : (i : ℕ) → get_or a.values.now i 0 < 256 = λ i. omega (arith, c.type_inv.values i) in
    let e = stored_bytes a.table.now a.reg (length a.values.now / 2) a.values.now (omega arith) b in
    let p = c.extend in
    let part = take (length a.table.now - 2 * a.reg) (drop (2 * a.reg) a.table.now) in
    let n : length part ≡ length a.table.now - 2 * a.reg = simp (length-take, length-drop) (omega arith) in
    let q = extended_put part a.values.now _ 0 p.result p.ensures (omega arith) in
    let f = filled a.table.now a.values.now _ (2 * a.reg) q (omega arith) in
    rw (f, ← e) (sym (ap (told_with _) (stored_inside registers _ _ _ _ _ (omega arith) (omega arith))))
