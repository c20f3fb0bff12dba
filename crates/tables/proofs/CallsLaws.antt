-- One law for each way out of the calls on lent tables, over any way of keeping cells in bytes.
-- Assumes nothing.
use mathlib.Core.Path.{◌≡◌, sym, ◌∙◌}
use mathlib.Core.List.{List}
use Prim.Native.Nat.{ℕ, ◌+◌, ◌≤◌, ◌<◌}
use native.Mathlib.Omega.{arith}
use lib.ListN.{length}
use lib.Seq.{sets}
use Rattle.modbus.specs.Step.{stop, go}
use Rattle.modbus.specs.Request.{octets, shown}
use Rattle.modbus.specs.Table.{part}
use Rattle.modbus.specs.Storage.{Storage, store, size, values}
use Rattle.modbus.specs.declared.ErrorKind.TheVariants.{OOB, OOBContext}
use Rattle.modbus.proofs.StepLaws.{pass, fail}
use Rattle.response.specs.Bounded.{extended}
use Rattle.tables.specs.Calls.{got, changed, added, stored}

module _ (S : Storage) (l : List ℕ) (cells : ℕ) where
  -- ---- one cell

  pub got_outside : (n : ℕ) → size S l cells ≤ n → got S l cells n ≡ stop OOBContext
  unfolding got
  got_outside n h = fail _ _ _ (λ k. omega arith)

  pub got_inside : (n : ℕ) → n < size S l cells → got S l cells n ≡ go (S.cell l n)
  unfolding got
  got_inside n h = pass _ _ _ h

  pub changed_outside : (n v : ℕ) → size S l cells ≤ n → changed S l cells n v ≡ stop OOBContext
  unfolding changed
  changed_outside n v h = fail _ _ _ (λ k. omega arith)

  pub changed_inside : (n v : ℕ) → n < size S l cells → changed S l cells n v ≡ go (0, S.put l n v)
  unfolding changed
  changed_inside n v h = pass _ _ _ h

  -- ---- a run of cells read

  module _ (reg count : ℕ) (out : List ℕ) (len : ℕ) where
    pub added_long : length out < len → added S l cells reg count out len ≡ stop OOB
    unfolding added
    added_long h = fail _ _ _ (λ k. omega arith)

    pub added_outside : len ≤ length out → size S l cells < reg + count → added S l cells reg count out len ≡ stop OOBContext
    unfolding added
    added_outside h i = pass _ _ _ h ∙ fail _ _ _ (λ k. omega arith)

    pub added_full : len ≤ length out → reg + count ≤ size S l cells → length out < len + octets S.kind count
        → added S l cells reg count out len ≡ stop OOB
    unfolding added
    added_full h i k = pass _ _ _ h ∙ pass _ _ _ i ∙ fail _ _ _ (λ j. omega arith)

    pub added_inside : reg + count ≤ size S l cells → len + octets S.kind count ≤ length out
        → added S l cells reg count out len ≡ go (len + octets S.kind count, sets out len (shown S.kind (part (S.cell l) reg count)))
    unfolding added
    added_inside h i = pass _ _ _ (omega arith) ∙ pass _ _ _ h ∙ pass _ _ _ i

    -- inside, it is the one extend
    pub added_extends : (d : List ℕ) → len ≤ length out → reg + count ≤ size S l cells
        → length d ≡ octets S.kind count → shown S.kind (part (S.cell l) reg count) ≡ d
        → added S l cells reg count out len ≡ extended out len d
    unfolding added extended
    added_extends d h i e f = rw (f, ← e) (pass _ _ _ h ∙ pass _ _ _ i ∙ sym (pass _ _ _ h))

  -- ---- a run of cells written

  module _ (reg count : ℕ) (d : List ℕ) where
    pub stored_outside : size S l cells < reg + count → stored S l cells reg count d ≡ stop OOBContext
    unfolding stored
    stored_outside h = fail _ _ _ (λ k. omega arith)

    pub stored_unmatched : reg + count ≤ size S l cells → ¬ (length d ≡ octets S.kind count)
        → stored S l cells reg count d ≡ stop OOBContext
    unfolding stored
    stored_unmatched h i = pass _ _ _ h ∙ fail _ _ _ i

    pub stored_inside : reg + count ≤ size S l cells → length d ≡ octets S.kind count
        → stored S l cells reg count d ≡ go (0, store S l reg (values S.kind count d))
    unfolding stored
    stored_inside h i = pass _ _ _ h ∙ pass _ _ _ i
