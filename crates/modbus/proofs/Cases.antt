-- Document 01's case l, the text of case j and the coil bytes of case f hold, by computation over the whole list.
-- Assumes nothing.
use mathlib.Core.Path.{◌≡◌, refl}
use mathlib.Core.List.{List, [], ◌∷◌, map}
use Prim.Native.Nat.{ℕ}
use native.Mathlib.Decide.{dec_le, ℕ_discrete}
use Rattle.modbus.specs.Step.{choose}
use Rattle.modbus.specs.Check.{shift, shifts, crc_byte, crc_from, crc, sum, lrc}
use Rattle.modbus.specs.Hex.{digit, text}
use Rattle.modbus.specs.Table.{bit, part}
use Rattle.modbus.specs.Storage.{coil_at, with_bit, put_coil, packed, store, values}
use Rattle.modbus.specs.Frame.{wrap}
use Rattle.modbus.specs.Cases.{case_l, case_j}
use Rattle.modbus.specs.declared.ModbusProto.TheVariants.{Ascii}

pub case_l_law : map (λ (c : List ℕ × ℕ). (c.0, crc c.0)) case_l ≡ case_l
unfolding ℕ_discrete choose shift shifts crc_byte crc_from crc
case_l_law = refl

pub case_j_law : map (λ (c : List ℕ × List ℕ). (c.0, wrap Ascii [] c.0)) case_j ≡ case_j
unfolding dec_le choose sum lrc digit text
case_j_law = refl

-- ten coils from CD 01 stored at 3, over zeros and over ones
pub case_f : map (λ (l : List ℕ). store packed l 3 (values bit 10 (0xCD ∷ 0x01 ∷ []))) ((0x00 ∷ 0x00 ∷ []) ∷ (0xFF ∷ 0xFF ∷ []) ∷ [])
    ≡ (0x68 ∷ 0x0E ∷ []) ∷ (0x6F ∷ 0xEE ∷ []) ∷ []
unfolding coil_at with_bit put_coil part store
case_f = refl
