-- `checks::hex_to_chr` meets its contract: each arm is a range of the digit.
-- Assumes nothing.
use Rattle.std.proofs.Common.{◌≡◌, ℕ, ◌≤◌, sym, ap, ◌∙◌, arith}
use Rattle.modbus.specs.Paper.{told}
use Rattle.modbus.specs.Hex.{digit, character}
use Rattle.modbus.proofs.HexLaws.{digit_low, digit_high, character_fits, character_none}
use Rattle.checks.proofs.hex_to_chr.Goals as goal

fits : (n v : ℕ) → n ≤ 200 → v ≡ digit n → ◌≡◌ {A = ℕ × ℕ} (0, v) (told (character n))
fits n v h e = ap (λ (k : ℕ). (0, k)) e ∙ sym (ap told (character_fits n h))

pub returns-in-0-to-9 : goal.returns-in-0-to-9
returns-in-0-to-9 c = fits _ _ (omega arith) (omega (arith, digit_low c.args.h (omega arith)))

pub returns-in-10-to-200 : goal.returns-in-10-to-200
returns-in-10-to-200 c = fits _ _ (omega arith) (omega (arith, digit_high c.args.h (omega arith)))

pub returns-in_default : goal.returns-in_default
returns-in_default c = sym (ap told (character_none _ (omega arith)))
