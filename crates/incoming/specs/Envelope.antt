-- What the crate reads of a request before it knows what is asked (source 000, `ModbusFrame::parse`).
-- Assumes nothing.
use Rattle.std.specs.Prelude.{List, [], ◌∷◌, ℕ, ◌+◌, ◌≤◌, length, take, drop}
use Rattle.modbus.specs.Step.{Step, go, ◌>>◌, need, ◌≤?◌, ◌≟◌, ◌and?◌, same?}
use Rattle.modbus.specs.Bytes.{word_at}
use Rattle.modbus.specs.Check.{lrc}
use Rattle.modbus.specs.Decode.{crc_bytes}
use Rattle.modbus.specs.declared.ErrorKind.{ErrorKind}
use Rattle.modbus.specs.declared.ErrorKind.TheVariants.{FrameBroken, FrameCRCError}
use Rattle.modbus.specs.declared.ModbusProto.{ModbusProto}
use Rattle.modbus.specs.declared.ModbusProto.TheVariants.{Rtu, Ascii, TcpUdp}

-- where the unit stands: on TCP after a header of 6 bytes with the protocol 0 and a length of 6 to 250; on a serial line
-- where the state says
unfoldable pub begins : ModbusProto → ℕ → List ℕ → Step ErrorKind ℕ
begins Rtu start buf = go start
begins Ascii start buf = go start
begins TcpUdp start buf = do
  need (6 ≤? length buf) FrameBroken
  need (word_at buf 2 ≟ 0) FrameBroken
  need ((6 ≤? word_at buf 4) and? (word_at buf 4 ≤? 250)) FrameBroken
  go 6

-- these bytes stand at a place of the frame
unfoldable pub follows : List ℕ → ℕ → List ℕ → Step ErrorKind ℕ
follows buf at d = do
  need (at + length d ≤? length buf) FrameBroken
  need (same? (take (length d) (drop at buf)) d) FrameCRCError
  go 0

-- the check of the first n bytes of the buffer stands n bytes after the start: a CRC, low byte first, or an LRC; TCP has
-- none
unfoldable pub check_follows : ModbusProto → List ℕ → ℕ → ℕ → Step ErrorKind ℕ
check_follows Rtu buf start n = follows buf (start + n) (crc_bytes (take n buf))
check_follows Ascii buf start n = follows buf (start + n) (lrc (take n buf) ∷ [])
check_follows TcpUdp buf start n = go 0

-- the crate counts the bytes of a serial frame's check in a byte
abbrev pub Countable : ModbusProto → ℕ → Type 0
Countable Rtu n = n ≤ 255
Countable Ascii n = n ≤ 255
Countable TcpUdp n = Unit {0}

unfoldable pub countable? : (p : ModbusProto) (n : ℕ) → Dec (Countable p n)
countable? Rtu n = n ≤? 255
countable? Ascii n = n ≤? 255
countable? TcpUdp n = yes tt

-- a check over more bytes than it counts is none
unfoldable pub frame_checked : ModbusProto → List ℕ → ℕ → ℕ → Step ErrorKind ℕ
frame_checked p buf start n = need (countable? p n) FrameBroken >> check_follows p buf start n
