-- `client::lay::lay` meets its contract. The loop's invariant: the values that are left take the bytes to the result.
-- Assumes nothing.
use mathlib.Core.Path.{refl}
use native.Mathlib.Omega.{arith}
use Rattle.modbus.specs.Table.{target}
use Rattle.modbus.specs.Storage.{storage}
use Rattle.modbus.specs.Paper.{kind_in}
use Rattle.client.proofs.LayLaws.{store_step, store_done}
use Rattle.client.proofs.lay.lay.Goals as goal

pub loop-i-preserved : goal.loop-i-preserved
loop-i-preserved c =
    let a = c.args in
    let l = c.loop-i in (
      omega arith,
      store_step (storage (target (kind_in a.kind))) l.bytes a.cells.now l.i _ _ _ l.invariant.1 (omega arith) c.put.ensures refl,
    )

pub returns : goal.returns
returns c =
    let a = c.args in
    let l = c.loop-i in
    store_done (storage (target (kind_in a.kind))) l.bytes a.cells.now l.i _ l.invariant.1 (omega arith)
