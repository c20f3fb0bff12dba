-- What the crate adds to a response (source 000, `process_read`, `process_write`, `finalize_response`). What has no room writes nothing and
-- is OOB at that point; what came before it stands. An index beyond the frame is FrameBroken, a sum that overflows OOB, and both leave
-- the response as given (document 01).
-- Assumes nothing.
use Rattle.std.specs.Prelude.{List, [], ◌∷◌, ◌++◌, ℕ, ◌+◌, ◌≤◌, length, take, drop, Result, ⊤}
use Rattle.modbus.specs.Step.{Step, stop, go, ◌>>=◌, ◌>>◌, need, ◌≤?◌, ◌and?◌}
use Rattle.modbus.specs.Bytes.{two}
use Rattle.modbus.specs.Check.{lrc}
use Rattle.modbus.specs.Request.{exception}
use Rattle.modbus.specs.Decode.{crc_bytes}
use Rattle.modbus.specs.Paper.{number, done_paper}
use Rattle.modbus.specs.declared.ErrorKind.{ErrorKind}
use Rattle.modbus.specs.declared.ErrorKind.TheVariants.{OOB, FrameBroken}
use Rattle.modbus.specs.declared.ModbusProto.{ModbusProto}
use Rattle.modbus.specs.declared.ModbusProto.TheVariants.{Rtu, Ascii, TcpUdp}
use Rattle.response.specs.Bounded.{extended}

-- the largest usize
abbrev pub largest : ℕ
largest = 18446744073709551615

-- the frame has n bytes from the start on: else a sum that overflows is OOB, and an index beyond the frame FrameBroken (document 01)
unfoldable pub reached : List ℕ → ℕ → ℕ → Step ErrorKind ℕ
reached buf start n = do
  need (start + n ≤? largest) OOB
  need (start + n ≤? length buf) FrameBroken
  go 0

-- a response: how many bytes of the lent slice it has, and the slice
pub record Response : Type 0 where
  pub len : ℕ
  pub out : List ℕ

abbrev pub response : ℕ → List ℕ → Response
response n l = record { len = n; out = l }

-- why a call ended early, and the response as it then stands
pub record Short : Type 0 where
  pub why : ErrorKind
  pub at : Response

abbrev pub short : ErrorKind → Response → Short
short k r = record { why = k; at = r }

-- in numbers: 0 or the refusal's
abbrev pub growth : Step Short Response → ℕ × Response
growth (go r) = (0, r)
growth (stop x) = (number x.why, x.at)

-- as the code says it, with the length and the slice afterwards
abbrev pub grown_paper : Result ⊤ ErrorKind → ℕ → List ℕ → ℕ × Response
grown_paper r n l = ((done_paper r).0, response n l)

-- bytes added at the end, or none and OOB
unfoldable pub or_short : Response → Step ErrorKind (ℕ × List ℕ) → Step Short Response
or_short r (stop k) = stop (short k r)
or_short r (go (n, l)) = go (response n l)

abbrev pub add : List ℕ → Response → Step Short Response
add l r = or_short r (extended r.out r.len l)

-- the length field that a TCP response has after the four bytes that parse copied
abbrev pub length_field : ModbusProto → ℕ → List ℕ
length_field Rtu n = []
length_field Ascii n = []
length_field TcpUdp n = two n

-- the largest length that fits it
abbrev pub most_length : ModbusProto → ℕ
most_length Rtu = largest
most_length Ascii = largest
most_length TcpUdp = 65535

-- it can be set in a slice of so many bytes
abbrev pub Settable : ModbusProto → ℕ → ℕ → ℕ → Type 0
Settable p n room len = (n ≤ most_length p) × (len + length (length_field p n) ≤ room)

abbrev pub settable? : (p : ModbusProto) (n room len : ℕ) → Dec (Settable p n room len)
settable? p n room len = (n ≤? most_length p) and? (len + length (length_field p n) ≤? room)

-- what a response begins with: the length field, and the first n bytes as asked
unfoldable pub begun : ModbusProto → ℕ → List ℕ → ℕ → ℕ → Response → Step Short Response
begun p bytes buf start n given = do
  need (bytes ≤? most_length p) (short OOB given)
  r ← add (length_field p bytes) given
  need (start + n ≤? largest) (short OOB given)
  need (start + n ≤? length buf) (short FrameBroken given)
  add (take n (drop start buf)) r

-- a byte count that a byte holds
abbrev pub byte_counted : ℕ → Response → Step Short Response
byte_counted bytes r = do
  need (bytes ≤? 255) (short OOB r)
  add (bytes ∷ []) r

-- a read's response up to its data: unit and function as asked, byte count
abbrev pub head : ModbusProto → List ℕ → ℕ → ℕ → Response → Step Short Response
head p buf start bytes given = begun p (bytes + 3) buf start 2 given >>= byte_counted bytes

-- a write's response: the first six bytes as asked
abbrev pub echo : ModbusProto → List ℕ → ℕ → Response → Step Short Response
echo p buf start given = begun p 6 buf start 6 given

-- an exception: length field, unit, the function with its highest bit set, code
unfoldable pub except : ModbusProto → ℕ → ℕ → ℕ → Response → Step Short Response
except p unit function code r = do
  need (r.len ≤? length r.out) (short OOB r)
  need (function ≤? 127) (short OOB r)
  add (length_field p 3 ++ unit ∷ exception function code) r

-- the check of a serial line, over at most 255 bytes
unfoldable pub seal : ModbusProto → Response → Step Short Response
seal Rtu r = do
  need (r.len ≤? length r.out) (short OOB r)
  need (r.len ≤? 255) (short OOB r)
  add (crc_bytes (take r.len r.out)) r
seal Ascii r = do
  need (r.len ≤? length r.out) (short OOB r)
  need (r.len ≤? 255) (short OOB r)
  add (lrc (take r.len r.out) ∷ []) r
seal TcpUdp r = do
  need (r.len ≤? length r.out) (short OOB r)
  go r
