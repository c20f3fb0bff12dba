-- `tables::coils::copy_whole` meets its contract. The loop's invariant: the bytes that are left take dst to the result.
-- Assumes nothing.
use native.Mathlib.Omega.{arith}
use lib.ListN.{length-set}
use Rattle.modbus.specs.Storage.{coil_at}
use Rattle.modbus.proofs.BytesLaws.{bytes_by}
use Rattle.tables.proofs.EightLaws.{eight_read}
use Rattle.tables.proofs.RunsLaws.{pack_step, pack_done}
use Rattle.tables.proofs.coils.copy_whole.Goals as goal

pub loop-i-preserved : goal.loop-i-preserved
loop-i-preserved c =
    let a = c.args in
    let y = bytes_by a.src.now (λ i. omega (arith, c.type_inv.src i)) in (
      omega arith,
      simp length-set (omega arith),
      pack_step (coil_at a.src.now) c.loop-i.dst a.at a.from a.n c.loop-i.i c.window.result _ c.loop-i.invariant.2
          (eight_read a.src.now a.from c.loop-i.i c.window.result y c.window.ensures) (omega arith),
    )

pub returns : goal.returns
returns c =
    let a = c.args in
    pack_done (coil_at a.src.now) c.loop-i.dst a.at a.from a.n c.loop-i.i _ c.loop-i.invariant.2 (omega arith)
