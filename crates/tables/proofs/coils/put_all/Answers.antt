-- `tables::coils::put_all` meets its contract: one cell alone; or the three parts of the run, stored one after the other.
-- Assumes nothing.
use Prim.Native.Nat.{◌-◌, ◌/◌}
use native.Mathlib.Omega.{arith}
use borrow.Author.Rules.{rules}
use Rattle.modbus.specs.Storage.{coil_at}
use Rattle.modbus.proofs.BytesLaws.{bytes_by}
use Rattle.modbus.proofs.StorageLaws.{coil_bit}
use Rattle.tables.proofs.RunsLaws.{store_three}
use Rattle.tables.proofs.coils.put_all.Goals as goal

pub returns : goal.returns
returns c =
    let a = c.args in
    let first = c.put_run.new.dst in
    let head = c.head_of-head.result in
    let y = bytes_by first (search rules) in
    store_three (coil_at a.src.now) (coil_bit a.src.now) a.dst.now first c.copy_whole.new.dst _ a.at head
    ((a.n - head) / 8) a.n y (omega arith) (λ h. omega arith) (omega arith) c.put_run.ensures
    c.copy_whole.ensures c.put_run-2.ensures
