-- `client::lay::lay` meets its contract. The loop's invariant: the values that are left take the bytes to the result.
-- Assumes nothing.
use mathlib.Core.Path.{◌≡◌}
use lib.ListN.{length, drop}
use Rattle.modbus.specs.Table.{target}
use Rattle.modbus.specs.Storage.{storage, store}
use Rattle.modbus.specs.Paper.{kind_in}
use Rattle.client.proofs.lay.lay.Given as goal

abbrev pub invariant-loop-i : goal.invariant-loop-i
invariant-loop-i l =
    (length l.bytes ≡ length l.initial.bytes)
    × (store (storage (target (kind_in l.kind))) l.bytes l.i (drop l.i l.cells) ≡ store (storage (target (kind_in l.kind))) l.initial.bytes 0 l.cells)
