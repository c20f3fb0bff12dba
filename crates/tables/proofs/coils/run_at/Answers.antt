-- `tables::coils::run_at` meets its contract: the second byte read is that of the last cell.
-- Assumes nothing.
use Prim.Native.Nat.{◌+◌, ◌-◌, ◌/◌}
use native.Mathlib.Omega.{arith}
use Rattle.modbus.proofs.BytesLaws.{bytes_by}
use Rattle.tables.proofs.EightLaws.{run_masked}
use Rattle.tables.proofs.coils.run_at.Goals as goal

pub returns : goal.returns
returns c =
    let a = c.args in
    run_masked a.src.now a.from ((a.from + a.n - 1) / 8) a.n c.window-bits.result
    (bytes_by a.src.now (λ i. omega (arith, c.type_inv.src i)))
    (omega arith) (λ i h k. omega arith) c.window-bits.ensures
