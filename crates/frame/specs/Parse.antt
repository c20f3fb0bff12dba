-- `parse` (source 000): the header is copied before later faults; an unsupported function is answered before any check; count 0 passes; trailing
-- bytes are ignored; flags that were set before are not reset.
-- Assumes nothing.
use Rattle.std.specs.Prelude.{Bool, true, false, List, [], ℕ, suc, ◌+◌, ◌≤◌, length, get_or, take}
use Rattle.modbus.specs.Step.{Step, stop, go, ◌>>=◌, ◌>>◌, need, choose, ◌≤?◌, ◌≟◌, ◌or?◌}
use Rattle.modbus.specs.Bytes.{word_at}
use Rattle.modbus.specs.Table.{kind_of}
use Rattle.modbus.specs.Ported.{Ported, reads, one, many, code_of, all_ported}
use Rattle.modbus.specs.Request.{most_read, most_written}
use Rattle.modbus.specs.Unit.{listed?}
use Rattle.modbus.specs.Drive.{find}
use Rattle.modbus.specs.declared.ErrorKind.{ErrorKind}
use Rattle.modbus.specs.declared.ErrorKind.TheVariants.{OOB, FrameBroken}
use Rattle.modbus.specs.declared.ModbusProto.{ModbusProto}
use Rattle.modbus.specs.declared.ModbusProto.TheVariants.{Rtu, Ascii, TcpUdp}
use Rattle.response.specs.Bounded.{extended}
use Rattle.incoming.specs.Envelope.{begins, check_follows, countable?}
use Rattle.frame.specs.State.{func_of, started, grown, responding_to, with_func, with_error, answering, counting, to_process, After, well, refused, ended}
use Rattle.frame.specs.declared.ModbusFrame.{ModbusFrame}

-- what a part that may refuse leaves
unfoldable pub or_leave : {A : Type 0} → ModbusFrame → List ℕ → Step ErrorKind A → Step After A
or_leave s out (stop k) = stop (refused k s out)
or_leave s out (go a) = go a

-- ---- once the function is known; `given` is the state before it was

-- a response is required, unless the request is a broadcast
abbrev pub answered : Bool → ModbusFrame → ModbusFrame
answered true s = s
answered false s = answering true s

-- the words at 2 and 4 and the byte at 6 of a request
abbrev pub first_word : ModbusFrame → List ℕ → ℕ
first_word s buf = word_at buf (s.frame_start + 2)

abbrev pub second_word : ModbusFrame → List ℕ → ℕ
second_word s buf = word_at buf (s.frame_start + 4)

abbrev pub byte_count : ModbusFrame → List ℕ → ℕ
byte_count s buf = get_or buf (s.frame_start + 6) 0

-- a read of as many cells as the second word says; more than is permitted is answered by code 3
abbrev pub read_accepted : ℕ → ModbusFrame → List ℕ → List ℕ → Step After After
read_accepted most s buf out = do
  need (second_word s buf ≤? most) (well (with_error 3 (counting (second_word s buf) (answering true s))) out)
  go (well (to_process s.readonly (first_word s buf) (counting (second_word s buf) (answering true s))) out)

-- on a broadcast number it is ignored
abbrev pub read_parsed : ℕ → Bool → ModbusFrame → List ℕ → List ℕ → Step After After
read_parsed most true s buf out = go (well s out)
read_parsed most false s buf out = do
  need (s.frame_start + 6 ≤? length buf) (refused FrameBroken s out)
  check ← or_leave s out (check_follows s.proto buf s.frame_start 6)
  read_accepted most s buf out

-- a write of one
abbrev pub one_parsed : Bool → ModbusFrame → List ℕ → List ℕ → Step After After
one_parsed broadcast s buf out = do
  need (s.frame_start + 4 ≤? length buf) (refused FrameBroken s out)
  check ← or_leave s out (check_follows s.proto buf s.frame_start 6)
  go (well (to_process false (first_word s buf) (counting 1 (answered broadcast s))) out)

-- a write of many; that its byte count fits its count is not asked
abbrev pub many_accepted : ℕ → Bool → ModbusFrame → List ℕ → List ℕ → Step After After
many_accepted most broadcast s buf out = do
  need (second_word s buf ≤? most) (well (with_error 3 (counting (second_word s buf) (answered broadcast s))) out)
  need (byte_count s buf ≤? 246) (well (with_error 3 (counting (second_word s buf) (answered broadcast s))) out)
  go (well (to_process false (first_word s buf) (counting (second_word s buf) (answered broadcast s))) out)

-- where 7 + bytes, by which a serial frame's check is taken, does not fit the crate's byte, the state is as given
abbrev pub many_parsed : ℕ → Bool → ModbusFrame → ModbusFrame → List ℕ → List ℕ → Step After After
many_parsed most broadcast given s buf out = do
  need (s.frame_start + 7 ≤? length buf) (refused FrameBroken s out)
  need (countable? s.proto (7 + byte_count s buf)) (refused FrameBroken given out)
  check ← or_leave s out (check_follows s.proto buf s.frame_start (7 + byte_count s buf))
  many_accepted most broadcast s buf out

abbrev pub requested : Ported → Bool → ModbusFrame → ModbusFrame → List ℕ → List ℕ → Step After After
requested (reads t) broadcast given s buf out = read_parsed (most_read (kind_of t)) broadcast s buf out
requested (one k) broadcast given s buf out = one_parsed broadcast s buf out
requested (many k) broadcast given s buf out = many_parsed (most_written k) broadcast given s buf out

-- ---- from the function on

-- an unsupported function is answered by code 1, unless the request is a broadcast
abbrev pub unsupported : Bool → ModbusFrame → ModbusFrame
unsupported true s = s
unsupported false s = with_error 1 (answering true s)

abbrev pub function_byte : ModbusFrame → List ℕ → ℕ
function_byte s buf = get_or buf (s.frame_start + 1) 0

unfoldable pub function_named : Bool → ModbusFrame → List ℕ → List ℕ → After
function_named broadcast s buf out =
    ended (do
      need (s.frame_start + 2 ≤? length buf) (refused FrameBroken s out)
      fn ← find code_of (well (unsupported broadcast (responding_to (function_byte s buf) s)) out) (function_byte s buf) all_ported
      requested fn broadcast s (with_func (func_of fn) (responding_to (function_byte s buf) s)) buf out)

-- ---- from the unit on

-- a TCP response begins with the transaction and the protocol
abbrev pub header : Bool → ModbusProto → List ℕ → List ℕ
header true p buf = []
header false Rtu buf = []
header false Ascii buf = []
header false TcpUdp buf = take 4 buf

abbrev pub copies_header : Bool → ModbusProto → Bool
copies_header true p = false
copies_header false Rtu = false
copies_header false Ascii = false
copies_header false TcpUdp = true

-- a TCP frame has those four bytes
abbrev pub Headed : ModbusProto → List ℕ → Type 0
Headed Rtu buf = Unit {0}
Headed Ascii buf = Unit {0}
Headed TcpUdp buf = 4 ≤ length buf

abbrev pub for_us : Bool → ModbusFrame → List ℕ → List ℕ → Step After After
for_us broadcast s buf out = do
  r ← or_leave s out (extended out s.response_len (header broadcast s.proto buf))
  go (function_named broadcast (grown r.0 s) buf r.1)

abbrev pub unit_byte : ModbusFrame → List ℕ → ℕ
unit_byte s buf = get_or buf s.frame_start 0

unfoldable pub addressed : ModbusFrame → List ℕ → List ℕ → List ℕ → After
addressed s buf list out =
    ended (do
      need (suc s.frame_start ≤? length buf) (refused FrameBroken s out)
      need (listed? (unit_byte s buf) list or? (unit_byte s buf ≟ s.unit_id)) (well s out)
      for_us (choose (listed? (unit_byte s buf) list) true false) s buf out)

-- ---- from the start; a state whose response exceeds the lent slice is refused first

unfoldable pub frame_parsed : ModbusFrame → List ℕ → List ℕ → List ℕ → After
frame_parsed s buf list out =
    ended (do
      need (s.response_len ≤? length out) (refused OOB s out)
      n ← or_leave s out (begins s.proto s.frame_start buf)
      go (addressed (started n s) buf list out))
