-- Document 01, module 7, its numbers and both sides of each, by computation over the whole list: what a report comes to, what an error leaves of
-- a response, where a request's data stand, how many bytes a frame must have.
-- Assumes nothing.
use mathlib.Core.Path.{◌≡◌, refl}
use mathlib.Core.Bool.{true}
use mathlib.Core.List.{List, [], ◌∷◌, ◌++◌, map}
use Prim.Native.Nat.{ℕ}
use native.Mathlib.Decide.{dec_le, ℕ_discrete}
use lib.ListN.{take, replicate}
use Rattle.modbus.specs.Step.{◌>>=◌, ◌>>◌, need, choose, ◌or?◌}
use Rattle.modbus.specs.declared.ErrorKind.TheVariants.{OOB, OOBContext, FrameBroken, FrameCRCError, IllegalDataValue, ReadCallOnWriteFrame, WriteCallOnReadFrame}
use Rattle.modbus.specs.declared.ModbusProto.{ModbusProto}
use Rattle.modbus.specs.declared.ModbusProto.TheVariants.{Rtu, Ascii, TcpUdp}
use Rattle.response.specs.Bounded.{extended, resized}
use Rattle.outgoing.specs.Grow.{or_short, begun}
use Rattle.frame.specs.State.{state_of, After}
use Rattle.frame.specs.Parse.{or_leave}
use Rattle.frame.proofs.Boundaries.{error_of}
use Rattle.process.specs.Process.{legal?}
use Rattle.frame.specs.declared.ModbusFunction.{ModbusFunction}
use Rattle.frame.specs.declared.ModbusFunction.TheVariants.{GetCoils, GetDiscretes, GetHoldings, GetInputs, SetCoil, SetHolding, SetCoilsBulk, SetHoldingsBulk}
use Rattle.std.specs.Prelude.{Option, Some, None, Ok, Err}
use Rattle.frame.specs.declared.ModbusFrame.{ModbusFrame}
use Rattle.external.specs.External.{Described, Reported, report_code, error_set_if_unset, report_processed, external_read_processed, external_write_processed, guarded, indexed, coil_described, holding_described, data_len, many_described, external_read, external_write}
use Rattle.external.specs.declared.Failure.TheVariants as failure

-- a state whose frame starts at the first byte, from cell 9 on with this count, whose response has n bytes
abbrev asking : ModbusProto → ModbusFunction → ℕ → Option ℕ → ℕ → ModbusFrame
asking p f count e n = state_of 1 p true true 0 true 0 f 9 count e n

-- the kind, the code, the bytes of the response
abbrev left : After → ℕ × ℕ × List ℕ
left a = (a.kind, error_of a.frame.error, take a.frame.response_len a.out)

-- ---- reports

abbrev reports : List Reported
reports =
    Ok tt ∷ Err failure.IllegalFunction ∷ Err failure.IllegalDataAddress ∷ Err (failure.Refused OOB) ∷ Err (failure.Refused OOBContext) ∷ Err (failure.Refused FrameBroken)
    ∷ Err (failure.Refused FrameCRCError) ∷ Err (failure.Refused IllegalDataValue) ∷ Err (failure.Refused ReadCallOnWriteFrame) ∷ Err (failure.Refused WriteCallOnReadFrame) ∷ []

pub codes : map report_code reports ≡ 0 ∷ 1 ∷ 2 ∷ 0 ∷ 0 ∷ 0 ∷ 0 ∷ 3 ∷ 0 ∷ 0 ∷ []
unfolding ℕ_discrete choose
codes = refl

-- of a read, on a response of five bytes: done leaves it; a Modbus error leaves four bytes of it on TCP and none on a serial line; any other kind
-- is handed on by its number
abbrev reading : ModbusProto → Reported → ℕ × ℕ × List ℕ
reading p e = left (external_read_processed e (asking p GetCoils 1 None 5) (1 ∷ 2 ∷ 3 ∷ 4 ∷ 5 ∷ []))

pub reported :
    ◌≡◌ {A = List (List (ℕ × ℕ × List ℕ))} (map (reading TcpUdp) reports ∷ map (reading Rtu) (take 4 reports) ∷ map (reading Ascii) (take 3 reports) ∷ [])
    (((0, 0, 1 ∷ 2 ∷ 3 ∷ 4 ∷ 5 ∷ [])
    ∷ (0, 1, 1 ∷ 2 ∷ 3 ∷ 4 ∷ [])
    ∷ (0, 2, 1 ∷ 2 ∷ 3 ∷ 4 ∷ [])
    ∷ (21, 0, 1 ∷ 2 ∷ 3 ∷ 4 ∷ 5 ∷ [])
    ∷ (22, 0, 1 ∷ 2 ∷ 3 ∷ 4 ∷ 5 ∷ [])
    ∷ (23, 0, 1 ∷ 2 ∷ 3 ∷ 4 ∷ 5 ∷ [])
    ∷ (24, 0, 1 ∷ 2 ∷ 3 ∷ 4 ∷ 5 ∷ [])
    ∷ (0, 3, 1 ∷ 2 ∷ 3 ∷ 4 ∷ [])
    ∷ (26, 0, 1 ∷ 2 ∷ 3 ∷ 4 ∷ 5 ∷ [])
    ∷ (27, 0, 1 ∷ 2 ∷ 3 ∷ 4 ∷ 5 ∷ [])
    ∷ [])
    ∷ ((0, 0, 1 ∷ 2 ∷ 3 ∷ 4 ∷ 5 ∷ []) ∷ (0, 1, []) ∷ (0, 2, []) ∷ (21, 0, 1 ∷ 2 ∷ 3 ∷ 4 ∷ 5 ∷ []) ∷ [])
    ∷ ((0, 0, 1 ∷ 2 ∷ 3 ∷ 4 ∷ 5 ∷ []) ∷ (0, 1, []) ∷ (0, 2, []) ∷ [])
    ∷ [])
unfolding dec_le ℕ_discrete ◌>>◌ need choose resized report_processed
reported = refl

-- an error to set on TCP where two bytes stand: four are left, or there is no room for them; where one is set it stays, and so does the response;
-- what is no Modbus error sets nothing
abbrev setting : Reported → Option ℕ → ℕ → ℕ × ℕ × List ℕ
setting r e room = left (error_set_if_unset r (asking TcpUdp GetCoils 1 e 2) (replicate room 9))

pub errors :
    ◌≡◌ {A = List (ℕ × ℕ × List ℕ)}
    (setting (Err failure.IllegalFunction) None 4
    ∷ setting (Err failure.IllegalFunction) None 3
    ∷ setting (Err failure.IllegalFunction) (Some 4) 4
    ∷ setting (Err (failure.Refused IllegalDataValue)) None 4
    ∷ setting (Err (failure.Refused OOB)) None 4
    ∷ setting (Ok tt) None 4
    ∷ setting (Err failure.IllegalDataAddress) None 1
    ∷ [])
    ((0, 1, 9 ∷ 9 ∷ 0 ∷ 0 ∷ [])
    ∷ (21, 0, 9 ∷ 9 ∷ [])
    ∷ (0, 4, 9 ∷ 9 ∷ [])
    ∷ (0, 3, 9 ∷ 9 ∷ 0 ∷ 0 ∷ [])
    ∷ (0, 0, 9 ∷ 9 ∷ [])
    ∷ (0, 0, 9 ∷ 9 ∷ [])
    ∷ (21, 0, 9 ∷ [])
    ∷ [])
unfolding dec_le ℕ_discrete ◌>>◌ need choose resized error_set_if_unset
errors = refl

-- a write that was done is echoed, six bytes; a read that was reported as a write, and the other way round
abbrev request : List ℕ
request = 1 ∷ 5 ∷ 0 ∷ 9 ∷ 0xFF ∷ 0 ∷ []

abbrev writing : ModbusFunction → Reported → List ℕ → ℕ × ℕ × List ℕ
writing f e buf = left (external_write_processed e (asking Rtu f 1 None 0) buf (replicate 6 0))

pub echoes :
    ◌≡◌ {A = List (ℕ × ℕ × List ℕ)}
    (writing SetCoil (Ok tt) request
    ∷ writing SetCoil (Ok tt) (take 5 request)
    ∷ writing SetHoldingsBulk (Err failure.IllegalDataAddress) request
    ∷ writing GetCoils (Ok tt) request
    ∷ left (external_read_processed (Ok tt) (asking Rtu SetCoil 1 None 0) [])
    ∷ [])
    ((0, 0, request) ∷ (23, 0, []) ∷ (0, 2, []) ∷ (26, 0, []) ∷ (27, 0, []) ∷ [])
unfolding dec_le ℕ_discrete ◌>>=◌ ◌>>◌ need choose resized extended or_short begun report_processed
echoes = refl

-- ---- what the firmware is to read: the kind, the numbers, the response

abbrev described : Described → (ℕ × ℕ × List ℕ) × List ℕ
described d = (left d.left, d.numbers)

abbrev wanting : ModbusProto → ModbusFunction → ℕ → ℕ → ℕ → (ℕ × ℕ × List ℕ) × List ℕ
wanting p f count n room = described (external_read (asking p f count None n) (1 ∷ 7 ∷ []) (replicate room 8))

-- bits and words, the place behind what stands there, the length, filled with 0; room for all of it and one byte less; a count whose byte count
-- wraps; a write
pub rooms :
    ◌≡◌ {A = List ((ℕ × ℕ × List ℕ) × List ℕ)}
    (wanting Rtu GetCoils 9 0 5
    ∷ wanting Rtu GetCoils 9 0 4
    ∷ wanting TcpUdp GetDiscretes 8 4 10
    ∷ wanting Rtu GetHoldings 2 1 8
    ∷ wanting Ascii GetInputs 1 0 5
    ∷ wanting Rtu GetInputs 32769 0 5
    ∷ wanting Rtu GetHoldings 128 0 5
    ∷ wanting Rtu SetHolding 1 0 5
    ∷ [])
    (((0, 0, 1 ∷ 7 ∷ 2 ∷ 0 ∷ 0 ∷ []), 0 ∷ 9 ∷ 9 ∷ 3 ∷ 2 ∷ [])
    ∷ ((21, 0, 1 ∷ 7 ∷ 2 ∷ []), [])
    ∷ ((0, 0, 8 ∷ 8 ∷ 8 ∷ 8 ∷ 0 ∷ 4 ∷ 1 ∷ 7 ∷ 1 ∷ 0 ∷ []), 0 ∷ 9 ∷ 8 ∷ 9 ∷ 1 ∷ [])
    ∷ ((0, 0, 8 ∷ 1 ∷ 7 ∷ 4 ∷ 0 ∷ 0 ∷ 0 ∷ 0 ∷ []), 1 ∷ 9 ∷ 2 ∷ 4 ∷ 4 ∷ [])
    ∷ ((0, 0, 1 ∷ 7 ∷ 2 ∷ 0 ∷ 0 ∷ []), 1 ∷ 9 ∷ 1 ∷ 3 ∷ 2 ∷ [])
    ∷ ((0, 0, 1 ∷ 7 ∷ 2 ∷ 0 ∷ 0 ∷ []), 1 ∷ 9 ∷ 32769 ∷ 3 ∷ 2 ∷ [])
    ∷ ((21, 0, 1 ∷ 7 ∷ []), [])
    ∷ ((27, 0, []), [])
    ∷ [])
unfolding dec_le ℕ_discrete ◌>>=◌ ◌>>◌ need choose resized extended or_short begun guarded
rooms = refl

-- ---- what it is to write

abbrev given : ModbusFunction → ℕ → List ℕ → (ℕ × ℕ × List ℕ) × List ℕ
given f count buf = described (external_write (asking TcpUdp f count None 4) buf (7 ∷ 7 ∷ 7 ∷ 7 ∷ []))

abbrev coil : ℕ → ℕ → List ℕ
coil high low = 1 ∷ 5 ∷ 0 ∷ 9 ∷ high ∷ low ∷ []

-- a coil's value itself, 1 or 0, else code 3 and the kind 25; a register's two bytes from 4 on; many from 7 on, as many as the byte count says; each
-- frame one byte short
pub places :
    ◌≡◌ {A = List ((ℕ × ℕ × List ℕ) × List ℕ)}
    (given SetCoil 5 (coil 0xFF 0)
    ∷ given SetCoil 5 (coil 0 0)
    ∷ given SetCoil 5 (coil 0 1)
    ∷ given SetCoil 5 (take 5 (coil 0 0))
    ∷ given SetHolding 5 (coil 0 1)
    ∷ given SetHolding 5 (take 5 (coil 0 1))
    ∷ given SetCoilsBulk 5 (coil 0 5 ++ 1 ∷ 0x15 ∷ [])
    ∷ given SetCoilsBulk 5 (coil 0 5 ++ 1 ∷ [])
    ∷ given SetHoldingsBulk 5 (coil 0 5 ++ 2 ∷ 0 ∷ 0 ∷ 0 ∷ [])
    ∷ given SetHoldingsBulk 5 (coil 0 5)
    ∷ given GetInputs 5 (coil 0 5)
    ∷ [])
    (((0, 0, 7 ∷ 7 ∷ 7 ∷ 7 ∷ []), 0 ∷ 9 ∷ 1 ∷ 0 ∷ 1 ∷ [])
    ∷ ((0, 0, 7 ∷ 7 ∷ 7 ∷ 7 ∷ []), 0 ∷ 9 ∷ 1 ∷ 0 ∷ 0 ∷ [])
    ∷ ((25, 3, 7 ∷ 7 ∷ 7 ∷ 7 ∷ []), [])
    ∷ ((23, 0, 7 ∷ 7 ∷ 7 ∷ 7 ∷ []), [])
    ∷ ((0, 0, 7 ∷ 7 ∷ 7 ∷ 7 ∷ []), 1 ∷ 9 ∷ 1 ∷ 1 ∷ 4 ∷ 2 ∷ [])
    ∷ ((23, 0, 7 ∷ 7 ∷ 7 ∷ 7 ∷ []), [])
    ∷ ((0, 0, 7 ∷ 7 ∷ 7 ∷ 7 ∷ []), 0 ∷ 9 ∷ 5 ∷ 1 ∷ 7 ∷ 1 ∷ [])
    ∷ ((23, 0, 7 ∷ 7 ∷ 7 ∷ 7 ∷ []), [])
    ∷ ((0, 0, 7 ∷ 7 ∷ 7 ∷ 7 ∷ []), 1 ∷ 9 ∷ 5 ∷ 1 ∷ 7 ∷ 2 ∷ [])
    ∷ ((23, 0, 7 ∷ 7 ∷ 7 ∷ 7 ∷ []), [])
    ∷ ((26, 0, 7 ∷ 7 ∷ 7 ∷ 7 ∷ []), [])
    ∷ [])
unfolding dec_le ℕ_discrete ◌>>=◌ ◌>>◌ need choose ◌or?◌ resized or_leave legal? indexed coil_described holding_described data_len many_described guarded
places = refl

-- sums up to the largest usize are an index beyond the frame, larger ones overflow: 4 is added for a coil, 6 for the others
abbrev far : ModbusFunction → ℕ → ℕ
far f start = (external_write (state_of 1 Rtu true true 0 true start f 0 1 None 0) [] []).left.kind

pub sums :
    ◌≡◌ {A = List (ℕ × ℕ)}
    ((far SetCoil 18446744073709551611, far SetCoil 18446744073709551612)
    ∷ (far SetHolding 18446744073709551609, far SetHolding 18446744073709551610)
    ∷ (far SetCoilsBulk 18446744073709551609, far SetCoilsBulk 18446744073709551610)
    ∷ [])
    ((23, 21) ∷ (23, 21) ∷ (23, 21) ∷ [])
unfolding dec_le ℕ_discrete ◌>>=◌ ◌>>◌ need choose or_leave indexed coil_described holding_described data_len many_described guarded
sums = refl
