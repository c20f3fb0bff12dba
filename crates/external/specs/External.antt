-- The calls by which the firmware carries out a request itself (source 000, `get_external_*`, `process_external_*`,
-- `set_modbus_error_if_unset`). A request's data stand at a place in the frame, a read's in the response.
-- Assumes nothing.
use Rattle.std.specs.Prelude.{List, [], ◌∷◌, ℕ, ◌+◌, length, Option, Some, None, Result, Ok, Err, ⊤}
use Rattle.modbus.specs.Step.{Step, stop, go, ◌>>=◌, ◌>>◌, need, choose, ◌≤?◌, ◌≟◌}
use Rattle.modbus.specs.Table.{Kind, bit, word, kind_of}
use Rattle.modbus.specs.Ported.{Ported, reads, one, many}
use Rattle.modbus.specs.Paper.{number}
use Rattle.modbus.specs.declared.ErrorKind.{ErrorKind}
use Rattle.modbus.specs.declared.ErrorKind.TheVariants.{OOB, FrameBroken, IllegalDataValue, ReadCallOnWriteFrame, WriteCallOnReadFrame}
use Rattle.modbus.specs.declared.ModbusProto.{ModbusProto}
use Rattle.modbus.specs.declared.ModbusProto.TheVariants.{Rtu, Ascii, TcpUdp}
use Rattle.response.specs.Bounded.{resized}
use Rattle.outgoing.specs.Grow.{Response, Short, largest, head}
use Rattle.frame.specs.State.{ported_of, grown, with_error, After, after, well, refused, ended}
use Rattle.frame.specs.Changes.{kind_number}
use Rattle.frame.specs.Parse.{or_leave, second_word}
use Rattle.process.specs.Process.{response_of, data_bytes, write_echoed, legal?, value_of, data_behind}
use Rattle.frame.specs.declared.ModbusFrame.{ModbusFrame}
use Rattle.external.specs.declared.Failure.{Failure}
use Rattle.external.specs.declared.Failure.TheVariants as failure
use Rattle.external.specs.declared.Data.{Data}
use Rattle.external.specs.declared.Data.TheVariants as place
use Rattle.external.specs.declared.Write.{Write}
use Rattle.external.specs.declared.Write.TheVariants as write
use Rattle.external.specs.declared.Read.{Read}
use Rattle.external.specs.declared.Read.TheVariants as read

-- ---- answers in numbers

-- 0 for bits and 1 for words, the first cell, how many, and the data: 0 and the value itself, or 1, where they stand and how many bytes
abbrev pub data_paper : Data → List ℕ
data_paper (place.Value v) = 0 ∷ v ∷ []
data_paper (place.Place at n) = 1 ∷ at ∷ n ∷ []

abbrev pub write_paper : Write → List ℕ
write_paper (write.Bits w) = 0 ∷ w.address ∷ w.count ∷ data_paper w.«data»
write_paper (write.Words w) = 1 ∷ w.address ∷ w.count ∷ data_paper w.«data»

abbrev pub read_paper : Read → List ℕ
read_paper (read.Bits r) = 0 ∷ r.address ∷ r.count ∷ r.at ∷ r.len ∷ []
read_paper (read.Words r) = 1 ∷ r.address ∷ r.count ∷ r.at ∷ r.len ∷ []

-- a refusal's number and no values, or 0 and the values
abbrev pub write_answer_paper : Result Write ErrorKind → ℕ × List ℕ
write_answer_paper (Ok w) = (0, write_paper w)
write_answer_paper (Err k) = (number k, [])

abbrev pub read_answer_paper : Result Read ErrorKind → ℕ × List ℕ
read_answer_paper (Ok r) = (0, read_paper r)
read_answer_paper (Err k) = (number k, [])

-- with the state and the lent slice afterwards
pub record Described : Type 0 where
  pub left : After
  pub numbers : List ℕ

abbrev pub described : ℕ × List ℕ → ModbusFrame → List ℕ → Described
described (k, vs) s out = record { left = after k s out; numbers = vs }

abbrev pub read_described : Result Read ErrorKind → ModbusFrame → List ℕ → Described
read_described r s l = described (read_answer_paper r) s l

abbrev pub write_described : Result Write ErrorKind → ModbusFrame → List ℕ → Described
write_described r s l = described (write_answer_paper r) s l

abbrev pub without : After → Described
without a = record { left = a; numbers = [] }

abbrev pub described_by : Step After Described → Described
described_by (stop a) = without a
described_by (go f) = f

-- a state whose response exceeds the lent slice is refused; then each function has its own
unfoldable pub guarded : (Ported → ModbusFrame → List ℕ → List ℕ → Described) → ModbusFrame → List ℕ → List ℕ → Described
guarded by s buf out =
    described_by (do
      need (s.response_len ≤? length out) (refused OOB s out)
      go (by (ported_of s.func) s buf out))

-- ---- a Modbus error, where none is set: the response is cut or filled to what finalize_response expects

abbrev pub len_to_leave : ModbusProto → ℕ
len_to_leave Rtu = 0
len_to_leave Ascii = 0
len_to_leave TcpUdp = 4

abbrev pub resized_to : ℕ → ModbusFrame → List ℕ → Step ErrorKind (ℕ × List ℕ) → After
resized_to c s out (stop k) = refused k s out
resized_to c s out (go (n, l)) = well (with_error c (grown n s)) l

abbrev pub error_set : Option ℕ → ℕ → ModbusFrame → List ℕ → After
error_set (Some d) c s out = well s out
error_set None c s out = resized_to c s out (resized out s.response_len (len_to_leave s.proto) 0)

-- what the firmware reports of a request: done, or why not
abbrev pub Reported : Type 0
Reported = Result ⊤ Failure

-- the Modbus errors and their codes; 0 for what is none
abbrev pub kind_code : ErrorKind → ℕ
kind_code k = choose (number k ≟ number IllegalDataValue) 3 0

abbrev pub report_code : Reported → ℕ
report_code (Ok done) = 0
report_code (Err (failure.Refused k)) = kind_code k
report_code (Err failure.IllegalFunction) = 1
report_code (Err failure.IllegalDataAddress) = 2

unfoldable pub error_set_if_unset : Reported → ModbusFrame → List ℕ → After
error_set_if_unset e s out =
    ended (do
      need (s.response_len ≤? length out) (refused OOB s out)
      go (choose (report_code e ≟ 0) (well s out) (error_set s.error (report_code e) s out)))

-- ---- what the firmware reports of a request that it carried out

abbrev pub read_done : Ported → ModbusFrame → List ℕ → After
read_done (reads t) s out = well s out
read_done (one k) s out = refused WriteCallOnReadFrame s out
read_done (many k) s out = refused WriteCallOnReadFrame s out

abbrev pub write_done : Ported → ModbusFrame → List ℕ → List ℕ → After
write_done (reads t) s buf out = refused ReadCallOnWriteFrame s out
write_done (one k) s buf out = write_echoed s buf out
write_done (many k) s buf out = write_echoed s buf out

-- a Modbus error is set; any other kind is handed on
abbrev pub failed_by : ErrorKind → ModbusFrame → List ℕ → After
failed_by k s out = choose (kind_code k ≟ 0) (refused k s out) (error_set s.error (kind_code k) s out)

-- what is left of a request that was done is given
abbrev pub reported : Reported → After → ModbusFrame → List ℕ → After
reported (Ok tt) done s out = done
reported (Err (failure.Refused k)) done s out = failed_by k s out
reported (Err failure.IllegalFunction) done s out = error_set s.error 1 s out
reported (Err failure.IllegalDataAddress) done s out = error_set s.error 2 s out

unfoldable pub report_processed : Reported → After → ModbusFrame → List ℕ → After
report_processed e done s out =
    ended (do
      need (s.response_len ≤? length out) (refused OOB s out)
      go (reported e done s out))

abbrev pub external_read_processed : Reported → ModbusFrame → List ℕ → After
external_read_processed e s out = report_processed e (read_done (ported_of s.func) s out) s out

abbrev pub external_write_processed : Reported → ModbusFrame → List ℕ → List ℕ → After
external_write_processed e s buf out = report_processed e (write_done (ported_of s.func) s buf out) s out

-- ---- what the firmware is to read: the response up to its data, and room for them, filled with 0

-- what is left, and where the room begins; 0 where there is none
abbrev pub room_sized : ModbusFrame → Response → Step ErrorKind (ℕ × List ℕ) → After × ℕ
room_sized s r (stop k) = (refused k (grown r.len s) r.out, 0)
room_sized s r (go (n, l)) = (well (grown n s) l, r.len)

abbrev pub roomed : ℕ → ModbusFrame → Step Short Response → After × ℕ
roomed bytes s (stop x) = (refused x.why (grown x.at.len s) x.at.out, 0)
roomed bytes s (go r) = room_sized s r (resized r.out r.len (r.len + bytes) 0)

abbrev pub room_told : Kind → ModbusFrame → After × ℕ → Described
room_told k s (a, at) =
    choose (a.kind ≟ 0) (described (0, kind_number k ∷ s.reg ∷ s.count ∷ at ∷ data_bytes k s.count ∷ []) a.frame a.out) (without a)

abbrev pub wanted : Kind → ModbusFrame → List ℕ → List ℕ → Described
wanted k s buf out =
    room_told k s (roomed (data_bytes k s.count) s (head s.proto buf s.frame_start (data_bytes k s.count) (response_of s out)))

abbrev pub read_described_by : Ported → ModbusFrame → List ℕ → List ℕ → Described
read_described_by (reads t) s buf out = wanted (kind_of t) s buf out
read_described_by (one k) s buf out = without (refused WriteCallOnReadFrame s out)
read_described_by (many k) s buf out = without (refused WriteCallOnReadFrame s out)

abbrev pub external_read : ModbusFrame → List ℕ → List ℕ → Described
external_read s buf out = guarded read_described_by s buf out

-- ---- what the firmware is to write

-- the bytes up to e are there; a sum that overflows is one of up to a
unfoldable pub indexed : List ℕ → ℕ → ℕ → ℕ → Step ErrorKind ℕ
indexed buf start a e = do
  need (start + a ≤? largest) OOB
  need (start + e ≤? length buf) FrameBroken
  go 0

-- a coil's value that is neither FF00 nor 0000 sets its error, where that has room, and is refused
abbrev pub value_refused : After → Described
value_refused a = choose (a.kind ≟ 0) (without (after (number IllegalDataValue) a.frame a.out)) (without a)

unfoldable pub coil_described : ModbusFrame → List ℕ → List ℕ → Described
coil_described s buf out =
    described_by (do
      there ← or_leave s out (indexed buf s.frame_start 4 6)
      go (choose (legal? bit (second_word s buf)) (described (0, 0 ∷ s.reg ∷ 1 ∷ 0 ∷ value_of bit (second_word s buf) ∷ []) s out)
          (value_refused (error_set s.error 3 s out))))

unfoldable pub holding_described : ModbusFrame → List ℕ → List ℕ → Described
holding_described s buf out =
    described_by (do
      there ← or_leave s out (indexed buf s.frame_start 6 6)
      go (described (0, 1 ∷ s.reg ∷ 1 ∷ 1 ∷ (s.frame_start + 4) ∷ 2 ∷ []) s out))

-- how many data bytes a write of many has
unfoldable pub data_len : ModbusFrame → List ℕ → Step ErrorKind ℕ
data_len s buf = do
  there ← indexed buf s.frame_start 6 7
  data_behind buf s.frame_start

unfoldable pub many_described : Kind → ModbusFrame → List ℕ → List ℕ → Described
many_described k s buf out =
    described_by (do
      n ← or_leave s out (data_len s buf)
      go (described (0, kind_number k ∷ s.reg ∷ s.count ∷ 1 ∷ (s.frame_start + 7) ∷ n ∷ []) s out))

abbrev pub write_described_by : Ported → ModbusFrame → List ℕ → List ℕ → Described
write_described_by (reads t) s buf out = without (refused ReadCallOnWriteFrame s out)
write_described_by (one bit) s buf out = coil_described s buf out
write_described_by (one word) s buf out = holding_described s buf out
write_described_by (many k) s buf out = many_described k s buf out

abbrev pub external_write : ModbusFrame → List ℕ → List ℕ → Described
external_write s buf out = guarded write_described_by s buf out
