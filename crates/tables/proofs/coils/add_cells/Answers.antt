-- `tables::coils::add_cells` meets its contract: each refusal is one of the definition's, in its order.
-- Assumes nothing.
use mathlib.Core.Path.{sym, ap, ◌∙◌}
use mathlib.Core.List.{List}
use Prim.Native.Nat.{ℕ, ◌+◌, ◌/◌}
use native.Mathlib.Omega.{arith}
use Rattle.modbus.specs.Paper.{told_with}
use Rattle.modbus.specs.Storage.{packed}
use Rattle.tables.proofs.CallsLaws.{added_long, added_outside, added_full, added_inside}
use Rattle.tables.proofs.coils.add_cells.Goals as goal

pub returns-then-len-response : goal.returns-then-len-response
returns-then-len-response c = sym (ap (told_with _) (added_long packed _ _ _ _ _ _ (omega arith)))

pub returns-then-from-n : goal.returns-then-from-n
returns-then-from-n c = sym (ap (told_with _) (added_outside packed _ _ _ _ _ _ (omega arith) (omega arith)))

pub returns-then-end-response : goal.returns-then-end-response
returns-then-end-response c = sym (ap (told_with _) (added_full packed _ _ _ _ _ _ (omega arith) (omega arith) (omega arith)))

pub returns : goal.returns
returns c =
    let a = c.args in
    ap (λ (l : List ℕ). ((0, a.len + (a.count + 7) / 8), l)) c.show.ensures
    ∙ sym (ap (told_with _) (added_inside packed _ _ _ _ _ _ (omega arith) (omega arith)))
