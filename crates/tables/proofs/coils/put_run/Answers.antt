-- `tables::coils::put_run` meets its contract: the masks leave the byte's other bits as they were.
-- Assumes nothing.
use mathlib.Core.Path.{◌≡◌}
use mathlib.Core.List.{List}
use Prim.Native.Nat.{ℕ, ◌≤◌}
use native.Mathlib.Omega.{arith}
use borrow.Author.Rules.{rules}
use Rattle.modbus.specs.Table.{part}
use Rattle.modbus.specs.Storage.{coil_at, packed, store}
use Rattle.modbus.proofs.BytesLaws.{bytes_by}
use Rattle.modbus.proofs.StorageLaws.{length_part, part_all, coil_bit}
use Rattle.tables.proofs.EightLaws.{store_masked}
use Rattle.tables.proofs.coils.put_run.Goals as goal

none : (l : List ℕ) (s : ℕ) (f : ℕ → ℕ) (from n : ℕ) → n ≡ 0 → l ≡ store packed l s (part f from n)
unfolding part store
none l s f from n e = rw e

pub returns-then-n-eq0 : goal.returns-then-n-eq0
returns-then-n-eq0 c = none _ _ _ _ _ c.if-n-eq0.true

pub returns : goal.returns
returns c =
    let a = c.args in
    let f = coil_at a.src.now in
    store_masked a.dst.now a.at a.n c.run_at.result (part f a.from a.n)
    (bytes_by a.dst.now (search rules))
    (part_all f (λ v. v ≤ 1) a.from a.n (coil_bit a.src.now))
    (omega (arith, c.if-n-eq0.false)) (omega arith) (length_part f a.from a.n) c.run_at.ensures
