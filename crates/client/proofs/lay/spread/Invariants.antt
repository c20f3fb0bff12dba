-- `client::lay::spread` meets its contract. The loop's invariant: the cells that are left take the values to the result.
-- Assumes nothing.
use mathlib.Core.Path.{◌≡◌}
use Prim.Native.Nat.{◌-◌}
use lib.Seq.{sets}
use Rattle.modbus.specs.Table.{part}
use Rattle.modbus.specs.Storage.{datum, values}
use Rattle.modbus.specs.Paper.{kind_in}
use Rattle.client.proofs.lay.spread.Given as goal

abbrev pub invariant-loop-i : goal.invariant-loop-i
invariant-loop-i l =
    sets l.value-items l.i (part (datum (kind_in l.kind) l.bytes) l.i (l.n - l.i)) ≡ sets l.initial.value-items 0 (values (kind_in l.kind) l.n l.bytes)
