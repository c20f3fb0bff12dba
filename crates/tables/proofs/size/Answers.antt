-- `tables::size` meets its contract: each test is one that a sound table passes.
-- Assumes nothing.
use Rattle.std.proofs.Common.{sym, arith}
use Rattle.modbus.specs.Storage.{packed, registers}
use Rattle.modbus.proofs.StorageLaws.{size_sound, size_unsound}
use Rattle.tables.specs.Kept.{kept}
use Rattle.tables.proofs.size.Goals as goal
use Rattle.tables.proofs.size.Goals.{in-Bits, in-Words}

pub returns-then-cells-gt65536-clause-value : goal.returns-then-cells-gt65536-clause-value
returns-then-cells-gt65536-clause-value c = sym (size_unsound (kept c.args.kind) _ _ (λ h. omega arith))

pub returns-then-bytes-table-clause-value : goal.returns-then-bytes-table-clause-value
returns-then-bytes-table-clause-value c =
    elim c.match-kind.branch [
      | in-Bits w ↦ rw w.in-Bits.is (sym (size_sound packed _ _ (omega arith, omega arith)))
      | in-Words w ↦ rw w.in-Words.is (sym (size_sound registers _ _ (omega arith, omega arith)))
    ]

pub returns-else-bytes-table-clause-value : goal.returns-else-bytes-table-clause-value
returns-else-bytes-table-clause-value c =
    elim c.match-kind.branch [
      | in-Bits w ↦ rw w.in-Bits.is (sym (size_unsound packed _ _ (λ h. omega arith)))
      | in-Words w ↦ rw w.in-Words.is (sym (size_unsound registers _ _ (λ h. omega arith)))
    ]
