-- What an answer for the LRC of the first n bytes tells of a frame that has them.
-- Assumes nothing.
use Rattle.std.specs.Prelude.{Result, Ok, Err}
use Rattle.std.proofs.Common.{◌≡◌, ℕ, ◌≤◌, List, length, take, sym, ◌∙◌, arith}
use Rattle.modbus.specs.Paper.{told, paper}
use Rattle.modbus.specs.Check.{lrc}
use Rattle.modbus.specs.declared.ErrorKind.{ErrorKind}
use Rattle.modbus.proofs.StepLaws.{pass}
use Rattle.modbus.proofs.PaperLaws.{byte_value, byte_refusal}
use Rattle.checks.specs.Within.{lrc_within}

module _ (r : Result ℕ ErrorKind) (s : List ℕ) (n : ℕ) (h : n ≤ length s) (e : paper r ≡ told (lrc_within s n)) where
  pub lrc_value : (v : ℕ) → r ≡ Ok v → v ≡ lrc (take n s)
  lrc_value v q = let p = sym (byte_value r (lrc_within s n) v e q) ∙ pass _ _ _ h in cc

  pub lrc_never : (k : ErrorKind) → r ≡ Err k → ⊥
  lrc_never k q =
      let p = sym (byte_refusal r (lrc_within s n) k e q) ∙ pass _ _ _ h in
      let z : ◌≡◌ {A = ℕ} 0 1 = cc in
      omega arith
