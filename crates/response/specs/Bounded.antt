-- The bounded response (document 01, module 4): a lent slice and a length. A call without room writes nothing and is OOB, and so is one
-- whose length exceeds the slice, before all else. Bytes beyond the length keep what they held.
-- Assumes nothing.
use Rattle.std.specs.Prelude.{List, ℕ, ◌+◌, ◌-◌, length, replicate}
use Rattle.std.proofs.lemmas.List.Edits.{sets}
use Rattle.modbus.specs.Step.{Step, go, ◌>>◌, need, ◌≤?◌}
use Rattle.modbus.specs.declared.ErrorKind.{ErrorKind}
use Rattle.modbus.specs.declared.ErrorKind.TheVariants.{OOB}

-- bytes added at the end, all or none
unfoldable pub extended : List ℕ → ℕ → List ℕ → Step ErrorKind (ℕ × List ℕ)
extended out len l = do
  need (len ≤? length out) OOB
  need (len + length l ≤? length out) OOB
  go (len + length l, sets out len l)

-- resized to n: the end is cut, or filled with the value
unfoldable pub resized : List ℕ → ℕ → ℕ → ℕ → Step ErrorKind (ℕ × List ℕ)
resized out len n v = do
  need (len ≤? length out) OOB
  need (n ≤? length out) OOB
  go (n, sets out len (replicate (n - len) v))

-- n bytes less, or none left where fewer stand
unfoldable pub cut : List ℕ → ℕ → ℕ → Step ErrorKind ℕ
cut out len n = need (len ≤? length out) OOB >> go (len - n)
