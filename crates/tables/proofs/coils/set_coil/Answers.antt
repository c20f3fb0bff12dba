-- `tables::coils::set_coil` meets its contract.
-- Assumes nothing.
use mathlib.Core.Path.{sym, ap, ◌∙◌}
use Prim.Native.Nat.{ℕ, ◌/◌}
use native.Mathlib.Omega.{arith}
use lib.ListN.{set}
use Rattle.modbus.specs.Paper.{told_with}
use Rattle.modbus.specs.Storage.{put_coil}
use Rattle.modbus.proofs.StepLaws.{pass, fail}
use Rattle.tables.specs.Calls.{changed}
use Rattle.tables.proofs.coils.set_coil.Goals as goal

pub returns-then-n-size : goal.returns-then-n-size
unfolding changed
returns-then-n-size c = sym (ap (told_with _) (fail _ _ _ (λ h. omega arith)))

pub returns : goal.returns
unfolding changed put_coil
returns c =
    let a = c.args in
    ap (λ (b : ℕ). ((0, 0), set a.table.now (a.reg / 8) b)) c.with_bit.ensures
    ∙ sym (ap (told_with a.table.now) (pass _ _ _ (omega arith)))
