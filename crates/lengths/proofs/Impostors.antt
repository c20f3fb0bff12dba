-- Document 01's impostor that invents a length fails the definition of the guess, and so the contract, which is that equation: a length that the
-- frame does not tell is wrong for one of two frames.
-- Assumes nothing.
use mathlib.Core.Path.{◌≡◌, ap}
use mathlib.Core.List.{List, [], ◌∷◌}
use mathlib.Core.Logic.Dec
use Prim.Native.Nat.{ℕ}
use native.Mathlib.Omega.{arith}
use native.Mathlib.Decide.{dec_le, ℕ_discrete}
use Rattle.modbus.specs.Step.{Step, ◌>>◌, need}
use Rattle.modbus.specs.Paper.{told}
use Rattle.modbus.specs.declared.ErrorKind.{ErrorKind}
use Rattle.modbus.specs.declared.ModbusProto.TheVariants.{TcpUdp}
use Rattle.lengths.specs.Guess.{in_byte, guess}

-- somebody's guess of a TCP frame's length
module _ (G : List ℕ → ℕ × ℕ) (body : List ℕ → Step ErrorKind ℕ) (meets : (f : List ℕ) → G f ≡ told (guess body TcpUdp f)) where
  abbrev headed : ℕ → List ℕ
  headed n = 0 ∷ 7 ∷ 0 ∷ 0 ∷ 0 ∷ n ∷ []

  lengths : ((G (headed 6)).1 ≡ 12) × ((G (headed 9)).1 ≡ 15)
  unfolding Dec.and dec_le ℕ_discrete ◌>>◌ need in_byte guess
  lengths = (ap (λ (a : ℕ × ℕ). a.1) (meets (headed 6)), ap (λ (a : ℕ × ℕ). a.1) (meets (headed 9)))

  pub inventing_a_length : (n : ℕ) → ((f : List ℕ) → (G f).1 ≡ n) → ⊥
  inventing_a_length n h = omega (arith, h (headed 6), h (headed 9), lengths)
