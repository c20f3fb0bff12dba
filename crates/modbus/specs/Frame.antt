-- What each transport puts around a body, the bytes from the unit on: RTU appends the CRC, low byte first (SER 2.5.1); ASCII is a
-- colon, the text of the body and its LRC, CR and LF (SER 2.5.2); TCP puts the transaction, the protocol 0 and the body's length
-- before it (TCP 3.1.3).
-- Assumes nothing.
use Rattle.std.specs.Prelude.{◌≡◌, List, [], ◌∷◌, ◌++◌, ℕ, ◌+◌, ◌*◌, ◌/◌, ◌%◌, ◌≤◌, length}
use Rattle.modbus.specs.Bytes.{Bytes, two}
use Rattle.modbus.specs.Check.{crc, lrc}
use Rattle.modbus.specs.Hex.{text}
use Rattle.modbus.specs.declared.ModbusProto.{ModbusProto}
use Rattle.modbus.specs.declared.ModbusProto.TheVariants.{Rtu, Ascii, TcpUdp}

-- a serial line's text: a colon, the bytes in digits, CR and LF
abbrev pub line : List ℕ → List ℕ
line l = 58 ∷ text l ++ (13 ∷ 10 ∷ [])

-- the tag is a TCP frame's transaction number; the serial lines have none
abbrev pub wrap : ModbusProto → List ℕ → List ℕ → List ℕ
wrap Rtu tag body = body ++ (crc body % 256 ∷ crc body / 256 ∷ [])
wrap Ascii tag body = line (body ++ (lrc body ∷ []))
wrap TcpUdp tag body = tag ++ (0 ∷ 0 ∷ two (length body)) ++ body

-- the tag of a transaction number's two bytes
abbrev pub tag_of : ModbusProto → ℕ → ℕ → List ℕ
tag_of Rtu high low = []
tag_of Ascii high low = []
tag_of TcpUdp high low = high ∷ low ∷ []

abbrev pub tag_length : ModbusProto → ℕ
tag_length Rtu = 0
tag_length Ascii = 0
tag_length TcpUdp = 2

-- where a body starts: in a TCP frame after its header, else in front
abbrev pub start_of : ModbusProto → ℕ
start_of Rtu = 0
start_of Ascii = 0
start_of TcpUdp = 6

-- how long the frame around n bytes is
abbrev pub around : ModbusProto → ℕ → ℕ
around Rtu n = n + 2
around Ascii n = 2 * n + 5
around TcpUdp n = n + 6

-- the frame bounds (document 01, "Shapes and checks of the driver"), as lengths of the body: RTU frames have 4 to 256 bytes, ASCII frames
-- 6 to 508 digits, TCP frames 8 to 260 bytes (document 02, 2026-01; TCP 3.1.3)
abbrev pub least : ModbusProto → ℕ
least Rtu = 2
least Ascii = 2
least TcpUdp = 2

abbrev pub most : ModbusProto → ℕ
most Rtu = 254
most Ascii = 253
most TcpUdp = 254

-- a frame is the whole of what the transport puts around a body of bytes within the bounds
pub record Framed (proto : ModbusProto) (tag body frame : List ℕ) : Type 0 where
  pub bytes : Bytes body
  pub low : least proto ≤ length body
  pub high : length body ≤ most proto
  pub tagged : length tag ≡ tag_length proto
  pub whole : frame ≡ wrap proto tag body
