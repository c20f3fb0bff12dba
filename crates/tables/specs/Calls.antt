-- The calls on lent tables (document 01, module 4): one outside its table, or with data that does not match its count, is OOBContext and
-- changes nothing; count 0 inside does nothing and succeeds.
-- Assumes nothing.
use Rattle.std.specs.Prelude.{List, [], ℕ, suc, ◌+◌, ◌*◌, ◌/◌, length, take, drop}
use Rattle.std.proofs.lemmas.List.Edits.{sets}
use Rattle.std.specs.Borrow.{Bor}
use Rattle.modbus.specs.Step.{Step, go, ◌>>◌, need, choose, ◌≤?◌, ◌≟◌}
use Rattle.modbus.specs.Table.{part}
use Rattle.modbus.specs.Request.{octets, shown}
use Rattle.modbus.specs.Storage.{Storage, registers, store, size, values}
use Rattle.modbus.specs.declared.ErrorKind.{ErrorKind}
use Rattle.modbus.specs.declared.ErrorKind.TheVariants.{OOB, OOBContext}

-- ---- one cell

unfoldable pub got : Storage → List ℕ → ℕ → ℕ → Step ErrorKind ℕ
got S l cells n = need (suc n ≤? size S l cells) OOBContext >> go (S.cell l n)

unfoldable pub changed : Storage → List ℕ → ℕ → ℕ → ℕ → Step ErrorKind (ℕ × List ℕ)
changed S l cells n v = need (suc n ≤? size S l cells) OOBContext >> go (0, S.put l n v)

-- ---- a run of cells

-- the values of `count` cells from `reg` on, added to a response of `len` bytes as one extend, pad bits zero
unfoldable pub added : Storage → List ℕ → ℕ → ℕ → ℕ → List ℕ → ℕ → Step ErrorKind (ℕ × List ℕ)
added S l cells reg count out len = do
  need (len ≤? length out) OOB
  need (reg + count ≤? size S l cells) OOBContext
  need (len + octets S.kind count ≤? length out) OOB
  go (len + octets S.kind count, sets out len (shown S.kind (part (S.cell l) reg count)))

-- `count` cells from `reg` on take the values that the data bytes hold
unfoldable pub stored : Storage → List ℕ → ℕ → ℕ → ℕ → List ℕ → Step ErrorKind (ℕ × List ℕ)
stored S l cells reg count d = do
  need (reg + count ≤? size S l cells) OOBContext
  need (length d ≟ octets S.kind count) OOBContext
  go (0, store S l reg (values S.kind count d))

-- registers tell their count by the data
unfoldable pub stored_whole : List ℕ → ℕ → ℕ → List ℕ → Step ErrorKind (ℕ × List ℕ)
stored_whole l cells reg d = stored registers l cells reg (length d / 2) d

-- ---- the part of a register table that a read names, and where it stands: its pointer is the table's, moved on, so it is no copy

abbrev pub named_in : Bor (List ℕ) → ℕ → ℕ → ℕ → List ℕ × (ℕ × ℕ)
named_in t cells reg count =
    choose (reg + count ≤? size registers t.now cells)
    (take (2 * count) (drop (2 * reg) t.now), (t.ref_ptr.0, 2 * reg + t.ref_ptr.1))
    ([], (t.ref_ptr.0, 0 + t.ref_ptr.1))

-- function 3 names the holdings, 4 the inputs; any other names nothing
unfoldable pub named : Bor (List ℕ) → ℕ → Bor (List ℕ) → ℕ → ℕ → ℕ → ℕ → List ℕ × (ℕ × ℕ)
named holdings holding_cells inputs input_cells function reg count =
    choose (function ≟ 3) (named_in holdings holding_cells reg count)
    (choose (function ≟ 4) (named_in inputs input_cells reg count) ([], (holdings.ref_ptr.0, 0 + holdings.ref_ptr.1)))
