-- Document 01's numbers: the kind of each refusal, and every answer as a kind and a value, where kind 0 says that the
-- value holds and a refusal's value is 0.
-- Assumes nothing.
use Rattle.std.specs.Prelude.{Bool, true, false, List, [], ◌∷◌, ℕ, zero, suc, Result, Ok, Err, ⊤}
use Rattle.modbus.specs.Step.{Step, stop, go, choose, ◌≤?◌}
use Rattle.modbus.specs.Table.{Kind, bit, word, Range}
use Rattle.modbus.specs.Request.{reads, code, tab_of}
use Rattle.modbus.specs.declared.ErrorKind.{ErrorKind}
use Rattle.modbus.specs.declared.ErrorKind.TheVariants.{OOB, OOBContext, FrameBroken, FrameCRCError, IllegalDataValue, ReadCallOnWriteFrame, WriteCallOnReadFrame}
use Rattle.modbus.specs.declared.ModbusProto.{ModbusProto}
use Rattle.modbus.specs.declared.ModbusProto.TheVariants.{Rtu, Ascii, TcpUdp}
use Rattle.modbus.specs.declared.BadSetup.{BadSetup}
use Rattle.modbus.specs.declared.CellKind.{CellKind}
use Rattle.modbus.specs.declared.CellKind.TheVariants.{Bits, Words}
use Rattle.modbus.specs.declared.Digit.{Digit}
use Rattle.modbus.specs.declared.Digit.TheVariants.{Number, Capital, Small}

abbrev pub number : ErrorKind → ℕ
number OOB = 21
number OOBContext = 22
number FrameBroken = 23
number FrameCRCError = 24
number IllegalDataValue = 25
number ReadCallOnWriteFrame = 26
number WriteCallOnReadFrame = 27

abbrev pub transport : ModbusProto → ℕ
transport Rtu = 0
transport Ascii = 1
transport TcpUdp = 2

abbrev pub proto_of : ℕ → ModbusProto
proto_of zero = Rtu
proto_of (suc zero) = Ascii
proto_of (suc (suc n)) = TcpUdp

-- the kind of cells, as the code names it
abbrev pub kind_in : CellKind → Kind
kind_in Bits = bit
kind_in Words = word

-- what a definition that may stop says, in numbers
abbrev pub told : Step ErrorKind ℕ → ℕ × ℕ
told (go v) = (0, v)
told (stop k) = (number k, 0)

-- what the code answers, in numbers: a value by its number, a refusal by its kind's
abbrev pub paper_by : {A : Type 0} → (A → ℕ) → Result A ErrorKind → ℕ × ℕ
paper_by f (Ok v) = (0, f v)
paper_by f (Err k) = (number k, 0)

abbrev pub paper : Result ℕ ErrorKind → ℕ × ℕ
paper = paper_by (λ n. n)

-- a bit is 0 or 1
abbrev pub digit_of : Bool → ℕ
digit_of true = 1
digit_of false = 0

abbrev pub bit_paper : Result Bool ErrorKind → ℕ × ℕ
bit_paper = paper_by digit_of

-- a call that only changes what it was lent has no value
abbrev pub done_paper : Result ⊤ ErrorKind → ℕ × ℕ
done_paper = paper_by (λ done. 0)

-- a digit has a kind beside its value: 0 a number, 1 a capital, 2 a small letter
abbrev pub told_kind : Step ErrorKind (ℕ × ℕ) → ℕ × ℕ × ℕ
told_kind (go (v, kind)) = (0, v, kind)
told_kind (stop k) = (number k, 0, 0)

abbrev pub hex_paper : Result Digit ErrorKind → ℕ × ℕ × ℕ
hex_paper (Ok (Number v)) = (0, v, 0)
hex_paper (Ok (Capital v)) = (0, v, 1)
hex_paper (Ok (Small v)) = (0, v, 2)
hex_paper (Err k) = (number k, 0, 0)

-- BadSetup, which no ported call answers: its number is the driver's outcome
abbrev pub bad_transport : ℕ × ℕ
bad_transport = (10, 0)

abbrev pub proto_paper : Result ModbusProto BadSetup → ℕ × ℕ
proto_paper (Ok p) = (0, transport p)
proto_paper (Err e) = bad_transport

-- a setup's transport: 0 RTU, 1 ASCII, 2 TCP, and BadSetup above
abbrev pub proto_asked : ℕ → ℕ × ℕ
proto_asked n = choose (n ≤? 2) (0, n) bad_transport

-- an answer, and what a lent buffer then holds: a refusal leaves it as given
abbrev pub told_with : List ℕ → Step ErrorKind (ℕ × List ℕ) → (ℕ × ℕ) × List ℕ
told_with l (go (v, m)) = ((0, v), m)
told_with l (stop k) = ((number k, 0), l)

-- ---- the cells that a request wrote (document 02, 2026-07)

-- the table by the number of the function that reads it, so 1 for coils and 3 for holdings; the first cell; how many. Without a range all are 0
abbrev pub range_paper : List Range → ℕ × ℕ × ℕ
range_paper [] = (0, 0, 0)
range_paper (r ∷ l) = (code (reads r.tab), r.first, r.count)

-- the range that these numbers tell
abbrev pub range_told : ℕ → ℕ → ℕ → List Range
range_told zero first count = []
range_told (suc n) first count = record { tab = tab_of (suc n); first = first; count = count } ∷ []
