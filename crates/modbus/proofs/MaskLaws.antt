-- A mask write (APP 6.16), bit by bit.
-- Assumes nothing.
use mathlib.Core.Logic.{by_cases}
use mathlib.Core.Path.{◌≡◌, refl, sym, ap, ap₂, ◌∙◌}
use Prim.Native.Nat.{ℕ, ◌-◌, ◌<◌, min, max}
use native.Mathlib.Omega.{arith}
use lib.Bits.{bit_and, and_le_r, and_le_l, or_lt}
use Rattle.modbus.specs.Step.{choose, ◌≟◌}
use Rattle.modbus.specs.Request.{masked}
use Rattle.modbus.proofs.StepLaws.{pick_yes, pick_no}
use Rattle.modbus.proofs.BitLaws.{bit_at, bit_and_law, bit_or_law, bit_not}

-- what is written fits a register, whatever stood there
pub masked_fits : (old x y : ℕ) → x < 65536 → y < 65536 → masked old x y < 65536
unfolding masked
masked_fits old x y h k =
    or_lt 16 (bit_and old x) (bit_and y (65535 - x)) (omega (arith, and_le_r old x)) (omega (arith, and_le_l y (65535 - x)))

-- each bit is the old one where the AND mask has a one, and else the OR mask's
pub masked_bit : (old x y i : ℕ) → x < 65536 → i < 16 → bit_at (masked old x y) i ≡ choose (bit_at x i ≟ 1) (bit_at old i) (bit_at y i)
unfolding masked
masked_bit old x y i h l =
    bit_or_law (bit_and old x) (bit_and y (65535 - x)) i
    ∙ ap₂ max (bit_and_law old x i) (bit_and_law y (65535 - x) i ∙ ap (min (bit_at y i)) (bit_not 16 x h i l))
    ∙ by_cases (bit_at x i ≟ 1)
    (λ e. omega arith ∙ sym (pick_yes _ _ _ e))
    (λ n. omega (arith, n) ∙ sym (pick_no _ _ _ n))

-- the page's own example
pub masked_example : masked 0x12 0xF2 0x25 ≡ 0x17
unfolding masked
masked_example = refl
