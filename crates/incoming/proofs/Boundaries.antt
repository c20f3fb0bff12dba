-- What parse reads of a frame first, its numbers and both sides of each, by computation over the whole list: the header's six bytes, the
-- protocol, the lengths 6 to 250, where the unit stands; a check over 255 bytes and over 256, its place and its order.
-- Assumes nothing.
use mathlib.Core.Path.{◌≡◌, refl}
use mathlib.Core.List.{List, [], ◌∷◌, ◌++◌}
use mathlib.Core.Logic.Dec
use Prim.Native.Nat.{ℕ}
use native.Mathlib.Decide.{dec_le, ℕ_discrete}
use lib.ListN.{replicate, take}
use Rattle.modbus.specs.Step.{◌>>◌, need, choose, cons?, same?}
use Rattle.modbus.specs.Check.{shift, shifts, crc_byte, crc_from, crc, sum, lrc}
use Rattle.modbus.specs.Paper.{told}
use Rattle.modbus.specs.declared.ModbusProto.{ModbusProto}
use Rattle.modbus.specs.declared.ModbusProto.TheVariants.{Rtu, Ascii, TcpUdp}
use Rattle.incoming.specs.Envelope.{begins, follows, check_follows, countable?, frame_checked}

-- a header with these bytes for the protocol and the length
abbrev head_of : ℕ → ℕ → ℕ → ℕ → List ℕ
head_of p q n m = 0 ∷ 7 ∷ p ∷ q ∷ n ∷ m ∷ []

abbrev start : ModbusProto → List ℕ → ℕ × ℕ
start p buf = told (begins p 9 buf)

pub starts :
    ◌≡◌ {A = List ((ℕ × ℕ) × (ℕ × ℕ))}
    ((start TcpUdp (take 5 (head_of 0 0 0 6)), start TcpUdp (head_of 0 0 0 6))
    ∷ (start TcpUdp (head_of 0 0 0 5), start TcpUdp (head_of 0 0 0 250))
    ∷ (start TcpUdp (head_of 0 0 0 251), start TcpUdp (head_of 0 0 1 6))
    ∷ (start TcpUdp (head_of 0 1 0 6), start TcpUdp (head_of 1 0 0 6))
    ∷ (start Rtu [], start Ascii [])
    ∷ [])
    (((23, 0), (0, 6)) ∷ ((23, 0), (0, 6)) ∷ ((23, 0), (23, 0)) ∷ ((23, 0), (23, 0)) ∷ ((0, 9), (0, 9)) ∷ [])
unfolding Dec.and dec_le ℕ_discrete ◌>>◌ need begins
starts = refl

abbrev checking : ModbusProto → List ℕ → ℕ → ℕ → ℕ × ℕ
checking p buf at n = told (frame_checked p buf at n)

-- a request with its CRC, low byte first, and with its LRC
abbrev body : List ℕ
body = 1 ∷ 3 ∷ 0 ∷ 0 ∷ 0 ∷ 2 ∷ []

-- the right check and a wrong one; the check cut by a byte, and a byte beyond it; the bytes of a CRC in the other order; a check that is looked
-- for behind a start, over the bytes from the front; over 255 bytes and over 256; on TCP there is none
pub checks :
    ◌≡◌ {A = List ((ℕ × ℕ) × (ℕ × ℕ))}
    ((checking Rtu (body ++ 0xC4 ∷ 0x0B ∷ []) 0 6, checking Rtu (body ++ 0xC4 ∷ 0x0C ∷ []) 0 6)
    ∷ (checking Rtu (body ++ 0xC4 ∷ []) 0 6, checking Rtu (body ++ 0xC4 ∷ 0x0B ∷ 7 ∷ []) 0 6)
    ∷ (checking Rtu (body ++ 0x0B ∷ 0xC4 ∷ []) 0 6, checking Ascii (body ++ 0xFA ∷ []) 0 6)
    ∷ (checking Ascii (body ++ 0xFB ∷ []) 0 6, checking Ascii body 0 6)
    ∷ (checking Rtu (body ++ 9 ∷ 0xC4 ∷ 0x0B ∷ []) 1 6, checking Rtu (body ++ 0xC4 ∷ 0x0B ∷ []) 1 6)
    ∷ (checking Rtu (replicate 255 0 ++ 0x8E ∷ 0x3F ∷ []) 0 255, checking Rtu (replicate 258 0) 0 256)
    ∷ (checking Ascii (replicate 256 0) 0 255, checking Ascii (replicate 257 0) 0 256)
    ∷ (checking TcpUdp [] 0 255, checking TcpUdp [] 7 256)
    ∷ [])
    (((0, 0), (24, 0))
    ∷ ((23, 0), (0, 0))
    ∷ ((24, 0), (0, 0))
    ∷ ((24, 0), (23, 0))
    ∷ ((0, 0), (23, 0))
    ∷ ((0, 0), (23, 0))
    ∷ ((0, 0), (23, 0))
    ∷ ((0, 0), (0, 0))
    ∷ [])
unfolding dec_le ℕ_discrete ◌>>◌ need choose cons? same? shift shifts crc_byte crc_from crc sum lrc follows check_follows countable? frame_checked
checks = refl
