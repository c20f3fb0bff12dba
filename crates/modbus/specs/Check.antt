-- The two checks of a serial line.
-- Assumes nothing.
use Rattle.std.specs.Prelude.{List, [], ◌∷◌, ℕ, zero, suc, ◌+◌, ◌-◌, ◌/◌, ◌%◌}
use Rattle.std.specs.Int.Bits.{bit_xor}
use Rattle.modbus.specs.Step.{choose, ◌≟◌}

-- ---- CRC (SER 6.2.2; document 01): start 0xFFFF; for each byte, exclusive-or into the low half, then eight times shift right,
-- with exclusive-or 0xA001 if a one fell out

unfoldable pub shift : ℕ → ℕ
shift c = choose (c % 2 ≟ 1) (bit_xor (c / 2) 0xA001) (c / 2)

unfoldable pub shifts : ℕ → ℕ → ℕ
shifts zero c = c
shifts (suc n) c = shifts n (shift c)

unfoldable pub crc_byte : ℕ → ℕ → ℕ
crc_byte c b = shifts 8 (bit_xor c b)

unfoldable pub crc_from : ℕ → List ℕ → ℕ
crc_from c [] = c
crc_from c (b ∷ l) = crc_from (crc_byte c b) l

unfoldable pub crc : List ℕ → ℕ
crc l = crc_from 0xFFFF l

-- ---- LRC (SER 6.2.1; document 01): what brings the sum of the bytes, wrapped at 256, to zero

unfoldable pub sum : List ℕ → ℕ
sum [] = 0
sum (b ∷ l) = b + sum l

abbrev pub complement : ℕ → ℕ
complement s = (256 - s % 256) % 256

unfoldable pub lrc : List ℕ → ℕ
lrc l = complement (sum l)
