-- `tables::coils::copy_whole` meets its contract. The loop's invariant: the bytes that are left take dst to the result.
-- Assumes nothing.
use mathlib.Core.Path.{◌≡◌}
use Prim.Native.Nat.{◌+◌, ◌-◌, ◌*◌, ◌≤◌}
use lib.ListN.{length}
use lib.Seq.{sets}
use Rattle.modbus.specs.Bytes.{pack}
use Rattle.modbus.specs.Table.{part}
use Rattle.modbus.specs.Storage.{coil_at}
use Rattle.tables.proofs.coils.copy_whole.Given as goal

abbrev pub invariant-loop-i : goal.invariant-loop-i
invariant-loop-i l = (l.i ≤ l.n) × (length l.dst ≡ length l.initial.dst)
    × (sets l.dst (l.at + l.i) (pack (part (coil_at l.src) (l.from + 8 * l.i) (8 * (l.n - l.i)))) ≡ sets l.initial.dst l.at (pack (part (coil_at l.src) l.from (8 * l.n))))

abbrev pub decreases-loop-i : goal.decreases-loop-i
decreases-loop-i l = l.n - l.i
