-- What is added to a response, its numbers and both sides of each, by computation over the whole list: the length field up to 65,535, byte
-- counts up to 255, checks over at most 255 bytes, functions up to 127, the bytes that are echoed, the largest usize.
-- Assumes nothing.
use mathlib.Core.Path.{◌≡◌, refl}
use mathlib.Core.List.{List, [], ◌∷◌}
use Prim.Native.Nat.{ℕ}
use native.Mathlib.Decide.{dec_le, ℕ_discrete}
use lib.ListN.{replicate, take, get_or}
use Rattle.modbus.specs.Step.{Step, ◌>>=◌, ◌>>◌, need, choose}
use Rattle.modbus.specs.Paper.{told}
use Rattle.modbus.specs.Check.{shift, shifts, crc_byte, crc_from, crc, sum, lrc}
use Rattle.modbus.specs.declared.ModbusProto.{ModbusProto}
use Rattle.modbus.specs.declared.ModbusProto.TheVariants.{Rtu, Ascii, TcpUdp}
use Rattle.response.specs.Bounded.{extended}
use Rattle.outgoing.specs.Grow.{reached, Response, response, Short, growth, or_short, begun, head, echo, except, seal}

-- the answer, and the bytes of the response
abbrev added : Step Short Response → ℕ × List ℕ
added m = let (k, r) = growth m in (k, take r.len r.out)

-- with so much room
abbrev empty : ℕ → Response
empty room = response 0 (replicate room 0)

abbrev request : List ℕ
request = 17 ∷ 3 ∷ 0x00 ∷ 0x6B ∷ 0x00 ∷ 0x03 ∷ []

-- a read's response up to its data on TCP: the length is three more than the byte count, high byte first, and 65,535 at most; the byte count
-- is 255 at most, and what came before it stands. Two bytes of the request are needed, and of the room what is added.
pub heads :
    ◌≡◌ {A = List (ℕ × List ℕ)}
    (added (head TcpUdp request 0 6 (empty 5))
    ∷ added (head TcpUdp request 0 6 (empty 4))
    ∷ added (head TcpUdp request 0 6 (empty 1))
    ∷ added (head TcpUdp request 0 253 (empty 5))
    ∷ added (head TcpUdp request 0 255 (empty 5))
    ∷ added (head TcpUdp request 0 256 (empty 5))
    ∷ added (head TcpUdp request 0 65532 (empty 5))
    ∷ added (head TcpUdp request 0 65533 (empty 5))
    ∷ added (head Rtu request 4 65533 (empty 5))
    ∷ added (head Ascii request 4 2 (empty 5))
    ∷ added (head Ascii request 5 2 (empty 5))
    ∷ [])
    ((0, 0 ∷ 9 ∷ 17 ∷ 3 ∷ 6 ∷ [])
    ∷ (21, 0 ∷ 9 ∷ 17 ∷ 3 ∷ [])
    ∷ (21, [])
    ∷ (0, 1 ∷ 0 ∷ 17 ∷ 3 ∷ 253 ∷ [])
    ∷ (0, 1 ∷ 2 ∷ 17 ∷ 3 ∷ 255 ∷ [])
    ∷ (21, 1 ∷ 3 ∷ 17 ∷ 3 ∷ [])
    ∷ (21, 255 ∷ 255 ∷ 17 ∷ 3 ∷ [])
    ∷ (21, [])
    ∷ (21, 0 ∷ 3 ∷ [])
    ∷ (0, 0 ∷ 3 ∷ 2 ∷ [])
    ∷ (23, [])
    ∷ [])
unfolding dec_le ◌>>=◌ ◌>>◌ need extended or_short begun
heads = refl

-- a write's response: six bytes, and six is their length
pub echoes :
    ◌≡◌ {A = List (ℕ × List ℕ)}
    (added (echo TcpUdp request 0 (empty 8))
    ∷ added (echo TcpUdp request 0 (empty 7))
    ∷ added (echo Rtu request 0 (empty 6))
    ∷ added (echo Rtu (take 5 request) 0 (empty 6))
    ∷ [])
    ((0, 0 ∷ 6 ∷ request) ∷ (21, 0 ∷ 6 ∷ []) ∷ (0, request) ∷ (23, []) ∷ [])
unfolding dec_le ◌>>=◌ ◌>>◌ need extended or_short begun
echoes = refl

-- an exception: its length, the function with 128 added, up to 127
pub exceptions :
    ◌≡◌ {A = List (ℕ × List ℕ)}
    (added (except TcpUdp 17 3 2 (empty 5))
    ∷ added (except TcpUdp 17 3 2 (empty 4))
    ∷ added (except Rtu 17 127 1 (empty 3))
    ∷ added (except Rtu 17 128 1 (empty 3))
    ∷ [])
    ((0, 0 ∷ 3 ∷ 17 ∷ 131 ∷ 2 ∷ []) ∷ (21, []) ∷ (0, 17 ∷ 255 ∷ 1 ∷ []) ∷ (21, []) ∷ [])
unfolding dec_le ◌>>◌ need extended or_short except
exceptions = refl

-- a response of n bytes 0 with its check: the answer, its length and the last two bytes
abbrev sealing : ModbusProto → ℕ → ℕ × ℕ × List ℕ
sealing p n =
    let (k, r) = growth (seal p (response n (replicate 260 0))) in
    (k, r.len, get_or r.out 255 7 ∷ get_or r.out 256 7 ∷ [])

pub seals :
    ◌≡◌ {A = List (ℕ × ℕ × List ℕ)}
    (sealing Rtu 255 ∷ sealing Rtu 256 ∷ sealing Ascii 255 ∷ sealing Ascii 256 ∷ sealing TcpUdp 255 ∷ sealing TcpUdp 256 ∷ [])
    ((0, 257, 0x8E ∷ 0x3F ∷ []) ∷ (21, 256, 0 ∷ 0 ∷ []) ∷ (0, 256, 0 ∷ 0 ∷ []) ∷ (21, 256, 0 ∷ 0 ∷ []) ∷ (0, 255, 0 ∷ 0 ∷ []) ∷ (0, 256, 0 ∷ 0 ∷ []) ∷ [])
unfolding dec_le ℕ_discrete ◌>>◌ need choose shift shifts crc_byte crc_from crc sum lrc extended or_short seal
seals = refl

-- the CRC of one response, low byte first, and its LRC
pub checks :
    ◌≡◌ {A = List (ℕ × List ℕ)}
    (added (seal Rtu (response 6 (1 ∷ 3 ∷ 0 ∷ 0 ∷ 0 ∷ 2 ∷ 0 ∷ 0 ∷ []))) ∷ added (seal Ascii (response 6 (1 ∷ 3 ∷ 0 ∷ 0 ∷ 0 ∷ 2 ∷ 0 ∷ []))) ∷ [])
    ((0, 1 ∷ 3 ∷ 0 ∷ 0 ∷ 0 ∷ 2 ∷ 0xC4 ∷ 0x0B ∷ []) ∷ (0, 1 ∷ 3 ∷ 0 ∷ 0 ∷ 0 ∷ 2 ∷ 0xFA ∷ []) ∷ [])
unfolding dec_le ℕ_discrete ◌>>◌ need choose shift shifts crc_byte crc_from crc sum lrc extended or_short seal
checks = refl

-- a sum up to the largest usize is an index beyond the frame, a larger one overflows
pub sums :
    ◌≡◌ {A = List (ℕ × ℕ)}
    (told (reached request 0 6) ∷ told (reached request 0 7) ∷ told (reached request 18446744073709551609 6) ∷ told (reached request 18446744073709551610 6) ∷ [])
    ((0, 0) ∷ (23, 0) ∷ (23, 0) ∷ (21, 0) ∷ [])
unfolding dec_le ◌>>◌ need reached
sums = refl
