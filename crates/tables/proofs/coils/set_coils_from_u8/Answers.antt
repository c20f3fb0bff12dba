-- `tables::coils::set_coils_from_u8` meets its contract: each refusal is one of the definition's, in its order.
-- Assumes nothing.
use mathlib.Core.Path.{sym, ap, ◌∙◌}
use mathlib.Core.List.{List}
use Prim.Native.Nat.{ℕ}
use native.Mathlib.Omega.{arith}
use Rattle.modbus.specs.Paper.{told_with}
use Rattle.modbus.specs.Storage.{packed}
use Rattle.tables.proofs.CallsLaws.{stored_outside, stored_unmatched, stored_inside}
use Rattle.tables.proofs.coils.set_coils_from_u8.Goals as goal
use Rattle.tables.proofs.coils.set_coils_from_u8.Goals.{then-at-n-via-then-at-n, then-at-n-via-else-at-n+then-values-n}

pub returns-then-at-n : goal.returns-then-at-n
returns-then-at-n c =
    elim c.then-at-n.branch [
      | then-at-n-via-then-at-n w ↦ sym (ap (told_with _) (stored_outside packed _ _ _ _ _ (omega arith)))
      | then-at-n-via-else-at-n+then-values-n w ↦ sym (ap (told_with _) (stored_unmatched packed _ _ _ _ _ (omega arith) w.if-values-n.true))
    ]

pub returns : goal.returns
returns c =
    ap (λ (l : List ℕ). ((0, 0), l)) c.put_all.ensures
    ∙ sym (ap (told_with _) (stored_inside packed _ _ _ _ _ (omega arith) c.if-values-n.false))
