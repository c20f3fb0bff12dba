-- What all these calls begin with.
-- Assumes nothing.
use mathlib.Core.Path.{◌≡◌, ap, ◌∙◌}
use mathlib.Core.List.{List}
use Prim.Native.Nat.{ℕ, ◌≤◌, ◌<◌}
use native.Mathlib.Omega.{arith}
use lib.ListN.{length}
use Rattle.modbus.specs.Step.{Step, stop, go, ◌>>◌, need, ◌≤?◌}
use Rattle.modbus.specs.Ported.{Ported}
use Rattle.modbus.specs.declared.ErrorKind.TheVariants.{OOB}
use Rattle.modbus.proofs.StepLaws.{pass, fail}
use Rattle.frame.specs.State.{ported_of, After, refused}
use Rattle.external.specs.External.{without, described_by}
use Rattle.frame.specs.declared.ModbusFunction.{ModbusFunction}
use Rattle.frame.specs.declared.ModbusFrame.{ModbusFrame}
use Rattle.external.specs.External.{guarded, Described}

-- ---- what all calls begin with: a state whose response exceeds the lent slice is refused

module _ {A : Type 0} (s : ModbusFrame) (out : List ℕ) (a : A) where
  abbrev admitted : Step After A
  admitted = need (s.response_len ≤? length out) (refused OOB s out) >> go a

  pub exceeds : length out < s.response_len → admitted ≡ stop (refused OOB s out)
  exceeds h = fail _ _ _ (λ k. omega arith)

  pub admits : s.response_len ≤ length out → admitted ≡ go a
  admits h = pass _ _ _ h

-- ---- each function has its own

module _ (by : Ported → ModbusFrame → List ℕ → List ℕ → Described) (s : ModbusFrame) (buf out : List ℕ) where
  pub call_exceeds : length out < s.response_len → guarded by s buf out ≡ without (refused OOB s out)
  unfolding guarded
  call_exceeds h = ap described_by (exceeds s out _ h)

  pub call_by : s.response_len ≤ length out → (f : ModbusFunction) → s.func ≡ f
      → guarded by s buf out ≡ by (ported_of f) s buf out
  unfolding guarded
  call_by h f q = ap described_by (admits s out _ h) ∙ ap (λ (x : ModbusFunction). by (ported_of x) s buf out) q
