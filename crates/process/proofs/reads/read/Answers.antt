-- `process::reads::read` meets its contract: the response up to the data, and the answer of the table call.
-- Assumes nothing.
use mathlib.Core.Path.{◌≡◌, ap, ◌∙◌}
use mathlib.Core.List.{List}
use Prim.Native.Nat.{ℕ}
use Rattle.modbus.specs.Paper.{kind_in, told_with}
use Rattle.modbus.specs.Table.{Kind, target}
use Rattle.modbus.specs.declared.CellKind.{CellKind}
use native.Mathlib.Omega.{arith}
use Rattle.tables.specs.Calls.{added}
use Rattle.process.specs.Process.{data_bytes}
use Rattle.modbus.specs.Storage.{storage}
use Rattle.process.proofs.ProcessLaws.{kind_stored, read_outside, read_other}
use Rattle.process.proofs.reads.read.Goals as goal

bytes_of : (of : CellKind) (n : ℕ) {m : ℕ} → m ≡ data_bytes (kind_in of) n → m ≡ data_bytes (storage (target (kind_in of))).kind n
bytes_of of n e = e ∙ ap (λ (k : Kind). data_bytes k n) (kind_stored (kind_in of))

-- the kind that the table call was given is the one asked
cells_of : (of k : CellKind) (l t : List ℕ) (n reg count len : ℕ) {x : (ℕ × ℕ) × List ℕ} → x ≡ told_with l (added (storage (target (kind_in k))) t n reg count l len)
    → k ≡ of → x ≡ told_with l (added (storage (target (kind_in of))) t n reg count l len)
cells_of of k l t n reg count len e q = e ∙ ap (λ (j : CellKind). told_with l (added (storage (target (kind_in j))) t n reg count l len)) q

pub returns-in-OOBContext : goal.returns-in-OOBContext
returns-in-OOBContext c =
    let a = c.args in
    rw c.saturating_sub-frame.ensures
    (read_outside (storage (target (kind_in a.of))) a.table.now a.cells a.frame.now a.buf.now a.response.now _ (bytes_of c.args.of _ c.data_bytes.ensures) _ _ _
    c.add_head.ensures c.in_ok-add_head.was c.get_cells.result _ (cells_of a.of _ _ _ _ _ _ _ c.get_cells.ensures (grind arith)) _ c.in-Err.is c.in-OOBContext.is)

pub returns-in_default : goal.returns-in_default
returns-in_default c =
    let a = c.args in
    read_other (storage (target (kind_in a.of))) a.table.now a.cells a.frame.now a.buf.now a.response.now _ (bytes_of c.args.of _ c.data_bytes.ensures) _ _ _
    c.add_head.ensures c.in_ok-add_head.was c.get_cells.result _ (cells_of a.of _ _ _ _ _ _ _ c.get_cells.ensures (grind arith)) _ c.in-Err.is c.in_default.not-OOBContext
