-- `tables::coils::get_coil` meets its contract.
-- Assumes nothing.
use mathlib.Core.Path.{sym, ap, ◌∙◌}
use Prim.Native.Nat.{ℕ}
use native.Mathlib.Omega.{arith}
use Rattle.modbus.specs.Paper.{told}
use Rattle.modbus.specs.Storage.{coil_at}
use Rattle.modbus.proofs.StepLaws.{pass, fail}
use Rattle.tables.specs.Calls.{got}
use Rattle.tables.proofs.coils.get_coil.Goals as goal

pub returns-then-n-size : goal.returns-then-n-size
unfolding got
returns-then-n-size c = sym (ap told (fail _ _ _ (λ h. omega arith)))

pub returns : goal.returns
unfolding got coil_at
returns c =
    ap (λ (v : ℕ). (0, v)) c.bit_of.ensures
    ∙ sym (ap told (pass _ _ _ (omega arith)))
