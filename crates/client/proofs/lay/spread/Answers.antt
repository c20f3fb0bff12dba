-- `client::lay::spread` meets its contract. The loop's invariant: the cells that are left take the values to the result.
-- Assumes nothing.
use mathlib.Core.Path.{sym}
use native.Mathlib.Omega.{arith}
use lib.Seq.{length-take-le}
use Rattle.modbus.specs.Paper.{kind_in}
use Rattle.modbus.specs.Storage.{datum, values}
use Rattle.client.proofs.LayLaws.{part_step, part_done, front_whole}
use Rattle.client.proofs.HearLaws.{values_length}
use Rattle.client.proofs.lay.spread.Goals as goal

pub loop-i-preserved : goal.loop-i-preserved
loop-i-preserved c =
    let l = c.loop-i in
    let a = c.args in
    let k = length-take-le a.n a.cells.now c.requires.2 in
    part_step (datum (kind_in a.kind) a.bytes.now) l.value-items a.n l.i c.cell.result _ l.invariant c.cell.ensures (omega (arith, c.loop-i-test.true, k))

pub returns : goal.returns
returns c =
    let l = c.loop-i in
    let a = c.args in
    let k = length-take-le a.n a.cells.now c.requires.2 in
    front_whole a.cells.now l.value-items (values (kind_in a.kind) a.n a.bytes.now) a.n (sym (values_length (kind_in a.kind) a.n a.bytes.now)) c.requires.2
    (part_done (datum (kind_in a.kind) a.bytes.now) l.value-items a.n l.i _ l.invariant (omega (arith, c.loop-i-test.false, k)))
