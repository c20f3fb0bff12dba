-- `tables::registers::get_holding` meets its contract.
-- Assumes nothing.
use mathlib.Core.Path.{sym, ap, ◌∙◌}
use Prim.Native.Nat.{ℕ}
use native.Mathlib.Omega.{arith}
use Rattle.modbus.specs.Paper.{told}
use Rattle.modbus.specs.Storage.{registers, register_at}
use Rattle.tables.proofs.CallsLaws.{got_inside, got_outside}
use Rattle.tables.proofs.registers.get_holding.Goals as goal

pub returns-then-size-n : goal.returns-then-size-n
returns-then-size-n c = sym (ap told (got_outside registers _ _ _ (omega arith)))

pub returns : goal.returns
unfolding register_at
returns c = ap (λ (k : ℕ). (0, k)) c.word.ensures ∙ sym (ap told (got_inside registers _ _ _ (omega arith)))
