-- Document 01, module 3: how long a frame will be, from its first bytes. A serial frame's body is told by the function and the byte
-- count, and the transport adds what it puts around a body; a TCP frame's header holds the body's length. The crate answers in a byte:
-- a longer frame is FrameBroken, and too few bytes to tell are OOB.
-- Assumes nothing.
use Rattle.std.specs.Prelude.{◌⊎◌, ◌≡◌, List, ℕ, ◌+◌, ◌≤◌, length, get_or}
use Rattle.modbus.specs.Step.{Step, stop, go, ◌>>=◌, ◌>>◌, need, choose, ◌≤?◌, ◌≟◌, ◌and?◌, ◌or?◌}
use Rattle.modbus.specs.Bytes.{word_at}
use Rattle.modbus.specs.Frame.{around}
use Rattle.modbus.specs.Decode.{spelled_in}
use Rattle.modbus.specs.declared.ErrorKind.{ErrorKind}
use Rattle.modbus.specs.declared.ErrorKind.TheVariants.{OOB, FrameBroken}
use Rattle.modbus.specs.declared.ModbusProto.{ModbusProto}
use Rattle.modbus.specs.declared.ModbusProto.TheVariants.{Rtu, Ascii, TcpUdp}
use Rattle.ascii.specs.Reading.{counted, text_parsed}

abbrev pub Many : ℕ → Type 0
Many fn = (fn ≡ 15) ⊎ (fn ≡ 16)

abbrev pub many? : (fn : ℕ) → Dec (Many fn)
many? fn = (fn ≟ 15) or? (fn ≟ 16)

abbrev pub Reads : ℕ → Type 0
Reads fn = (1 ≤ fn) × (fn ≤ 4)

abbrev pub reads? : (fn : ℕ) → Dec (Reads fn)
reads? fn = (1 ≤? fn) and? (fn ≤? 4)

abbrev pub Writes : ℕ → Type 0
Writes fn = (fn ≡ 5) ⊎ (fn ≡ 6) ⊎ Many fn

abbrev pub writes? : (fn : ℕ) → Dec (Writes fn)
writes? fn = (fn ≟ 5) or? (fn ≟ 6) or? many? fn

-- ---- the length of a body, as its first bytes tell

-- a request of 15 or 16 takes 7 bytes and its byte count; any other is guessed as six bytes
unfoldable pub request_body : List ℕ → Step ErrorKind ℕ
request_body b = choose (many? (get_or b 1 0)) (need (7 ≤? length b) OOB >> go (7 + get_or b 6 0)) (go 6)

-- a reply to a read is unit, function, byte count and that many bytes, a reply to a write echoes six bytes, and an exception
-- (from function 128 on) has three; another function is FrameBroken
unfoldable pub response_body : List ℕ → Step ErrorKind ℕ
response_body b =
    choose (128 ≤? get_or b 1 0) (go 3)
    (need (3 ≤? length b) OOB
    >> choose (reads? (get_or b 1 0)) (go (3 + get_or b 2 0))
    (choose (writes? (get_or b 1 0)) (go 6) (stop FrameBroken)))

-- ---- the length of the frame

unfoldable pub in_byte : ℕ → Step ErrorKind ℕ
in_byte n = need (n ≤? 255) FrameBroken >> go n

-- the body's first bytes are known from the second on
unfoldable pub serial : (List ℕ → Step ErrorKind ℕ) → ModbusProto → List ℕ → Step ErrorKind ℕ
serial body proto b = do
  need (2 ≤? length b) OOB
  n ← body b
  in_byte (around proto n)

unfoldable pub guess : (List ℕ → Step ErrorKind ℕ) → ModbusProto → List ℕ → Step ErrorKind ℕ
guess body Rtu f = serial body Rtu f
guess body Ascii f =
    let d = text_parsed f (length f) 256 0 in
    counted d d.ending >>= (λ n. serial body Ascii d.bytes)
guess body TcpUdp f = do
  need (6 ≤? length f) OOB
  need (word_at f 2 ≟ 0) FrameBroken
  in_byte (around TcpUdp (word_at f 4))

-- under a switch (document 02, 2026-06), 0 strict or 1 lenient: another is OOB before all else
abbrev pub guess_under : ℕ → (List ℕ → Step ErrorKind ℕ) → ModbusProto → List ℕ → Step ErrorKind ℕ
guess_under hex body proto f = need (hex ≤? 1) OOB >> guess body proto (spelled_in proto hex f)
