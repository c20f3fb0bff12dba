-- Document 01, modules 5 and 7, its numbers and both sides of each: a fresh state, frames at parse, `changes`, by computation over the whole
-- list.
-- Assumes nothing.
use mathlib.Core.Path.{◌≡◌, refl}
use mathlib.Core.List.{List, [], ◌∷◌, ◌++◌, map}
use mathlib.Core.Logic.Dec
use Prim.Native.Nat.{ℕ}
use native.Mathlib.Decide.{dec_le, ℕ_discrete}
use lib.ListN.{take, replicate}
use Rattle.modbus.specs.Step.{◌>>=◌, ◌>>◌, need, choose, ◌or?◌, cons?, same?}
use Rattle.modbus.specs.Bytes.{two}
use Rattle.modbus.specs.Check.{shift, shifts, crc_byte, crc_from, crc, sum, lrc}
use Rattle.modbus.specs.Ported.{code_of}
use Rattle.modbus.specs.Unit.{listed?}
use Rattle.modbus.specs.Decode.{crc_bytes}
use Rattle.modbus.specs.Drive.{find}
use Rattle.modbus.specs.Paper.{transport, digit_of}
use Rattle.modbus.specs.declared.ModbusProto.{ModbusProto}
use Rattle.modbus.specs.declared.ModbusProto.TheVariants.{Rtu, Ascii, TcpUdp}
use Rattle.response.specs.Bounded.{extended}
use Rattle.incoming.specs.Envelope.{begins, follows, check_follows, countable?}
use Rattle.frame.specs.State.{ported_of, function_of, fresh, After}
use Rattle.frame.specs.Parse.{or_leave, function_named, addressed, frame_parsed}
use Rattle.frame.specs.Changes.{changes_by}
use Rattle.frame.specs.declared.ModbusFunction.{ModbusFunction}
use Rattle.frame.specs.declared.ModbusFunction.TheVariants.{GetCoils, GetDiscretes, GetHoldings, GetInputs, SetCoil, SetHolding, SetCoilsBulk, SetHoldingsBulk}
use Rattle.std.specs.Prelude.{Option, Some, None}
use Rattle.frame.specs.declared.ModbusFrame.{ModbusFrame}

-- what computing a call opens
unfoldable pub computing : Unit {0}
unfolding Dec.and dec_le ℕ_discrete ◌>>=◌ ◌>>◌ need choose ◌or?◌ cons? same? shift shifts crc_byte crc_from crc sum lrc listed? find extended begins follows check_follows countable? or_leave function_named addressed frame_parsed function_of
computing = tt

-- ---- a state in numbers, in the order of its fields; 0 where no error is set

abbrev pub error_of : Option ℕ → ℕ
error_of None = 0
error_of (Some c) = c

abbrev pub state_numbers : ModbusFrame → List ℕ
state_numbers s =
    s.unit_id ∷ transport s.proto ∷ digit_of s.processing_required ∷ digit_of s.response_required ∷ s.responding_to_fn
    ∷ digit_of s.readonly ∷ s.frame_start ∷ code_of (ported_of s.func) ∷ s.reg ∷ s.count ∷ error_of s.error ∷ s.response_len ∷ []

-- the kind, the state, the bytes of the response
abbrev pub after_numbers : After → ℕ × List ℕ × List ℕ
after_numbers a = (a.kind, state_numbers a.frame, take a.frame.response_len a.out)

pub freshness :
    map (λ (p : ModbusProto). state_numbers (fresh 17 p)) (Rtu ∷ Ascii ∷ TcpUdp ∷ [])
    ≡ (17 ∷ 0 ∷ 0 ∷ 0 ∷ 0 ∷ 1 ∷ 0 ∷ 1 ∷ 0 ∷ 1 ∷ 0 ∷ 0 ∷ [])
    ∷ (17 ∷ 1 ∷ 0 ∷ 0 ∷ 0 ∷ 1 ∷ 0 ∷ 1 ∷ 0 ∷ 1 ∷ 0 ∷ 0 ∷ [])
    ∷ (17 ∷ 2 ∷ 0 ∷ 0 ∷ 0 ∷ 1 ∷ 0 ∷ 1 ∷ 0 ∷ 1 ∷ 0 ∷ 0 ∷ [])
    ∷ []
freshness = refl

-- ---- the functions, each with its neighbours

pub functions :
    map function_of (0 ∷ 1 ∷ 2 ∷ 3 ∷ 4 ∷ 5 ∷ 6 ∷ 7 ∷ 14 ∷ 15 ∷ 16 ∷ 17 ∷ 129 ∷ [])
    ≡ (1, 0) ∷ (0, 1) ∷ (0, 2) ∷ (0, 3) ∷ (0, 4) ∷ (0, 5) ∷ (0, 6) ∷ (1, 0) ∷ (1, 0) ∷ (0, 15) ∷ (0, 16) ∷ (1, 0) ∷ (1, 0) ∷ []
unfolding computing
functions = refl

-- ---- parse: unit 1, list [0], room for the header

abbrev parsing : ModbusProto → List ℕ → After
parsing p buf = frame_parsed (fresh 1 p) buf (0 ∷ []) (replicate 4 0)

-- a TCP header with its length, and what follows it
abbrev tcp : List ℕ → After
tcp l = parsing TcpUdp (0 ∷ 7 ∷ 0 ∷ 0 ∷ 0 ∷ 6 ∷ l)

abbrev rtu : List ℕ → After
rtu l = parsing Rtu (l ++ crc_bytes l)

abbrev asks : ℕ → ℕ → List ℕ
asks fn n = 1 ∷ fn ∷ 0 ∷ 2 ∷ two n

-- the kind, the code, whether it is to be processed, and the count
abbrev brief : After → ℕ × ℕ × ℕ × ℕ
brief a = (a.kind, error_of a.frame.error, digit_of a.frame.processing_required, a.frame.count)

-- the whole of what is left: six bytes and no unit, a unit, a function that needs two; a foreign unit; reads with five bytes and with six, writes
-- of one with three and with four, of many with six and with seven; an unsupported function; a broadcast write
pub parsed :
    map after_numbers
    (tcp []
    ∷ tcp (1 ∷ [])
    ∷ tcp (1 ∷ 7 ∷ [])
    ∷ tcp (2 ∷ 3 ∷ [])
    ∷ tcp (1 ∷ 3 ∷ 0 ∷ 2 ∷ 0 ∷ [])
    ∷ tcp (asks 3 5)
    ∷ tcp (1 ∷ 5 ∷ 0 ∷ [])
    ∷ tcp (1 ∷ 5 ∷ 0 ∷ 2 ∷ [])
    ∷ tcp (asks 16 1)
    ∷ tcp (asks 16 1 ++ 2 ∷ [])
    ∷ rtu (0 ∷ 6 ∷ 0 ∷ 2 ∷ 0 ∷ 9 ∷ [])
    ∷ [])
    ≡ ((23, 1 ∷ 2 ∷ 0 ∷ 0 ∷ 0 ∷ 1 ∷ 6 ∷ 1 ∷ 0 ∷ 1 ∷ 0 ∷ 0 ∷ [], [])
    ∷ (23, 1 ∷ 2 ∷ 0 ∷ 0 ∷ 0 ∷ 1 ∷ 6 ∷ 1 ∷ 0 ∷ 1 ∷ 0 ∷ 4 ∷ [], 0 ∷ 7 ∷ 0 ∷ 0 ∷ [])
    ∷ (0, 1 ∷ 2 ∷ 0 ∷ 1 ∷ 7 ∷ 1 ∷ 6 ∷ 1 ∷ 0 ∷ 1 ∷ 1 ∷ 4 ∷ [], 0 ∷ 7 ∷ 0 ∷ 0 ∷ [])
    ∷ (0, 1 ∷ 2 ∷ 0 ∷ 0 ∷ 0 ∷ 1 ∷ 6 ∷ 1 ∷ 0 ∷ 1 ∷ 0 ∷ 0 ∷ [], [])
    ∷ (23, 1 ∷ 2 ∷ 0 ∷ 0 ∷ 3 ∷ 1 ∷ 6 ∷ 3 ∷ 0 ∷ 1 ∷ 0 ∷ 4 ∷ [], 0 ∷ 7 ∷ 0 ∷ 0 ∷ [])
    ∷ (0, 1 ∷ 2 ∷ 1 ∷ 1 ∷ 3 ∷ 1 ∷ 6 ∷ 3 ∷ 2 ∷ 5 ∷ 0 ∷ 4 ∷ [], 0 ∷ 7 ∷ 0 ∷ 0 ∷ [])
    ∷ (23, 1 ∷ 2 ∷ 0 ∷ 0 ∷ 5 ∷ 1 ∷ 6 ∷ 5 ∷ 0 ∷ 1 ∷ 0 ∷ 4 ∷ [], 0 ∷ 7 ∷ 0 ∷ 0 ∷ [])
    ∷ (0, 1 ∷ 2 ∷ 1 ∷ 1 ∷ 5 ∷ 0 ∷ 6 ∷ 5 ∷ 2 ∷ 1 ∷ 0 ∷ 4 ∷ [], 0 ∷ 7 ∷ 0 ∷ 0 ∷ [])
    ∷ (23, 1 ∷ 2 ∷ 0 ∷ 0 ∷ 16 ∷ 1 ∷ 6 ∷ 16 ∷ 0 ∷ 1 ∷ 0 ∷ 4 ∷ [], 0 ∷ 7 ∷ 0 ∷ 0 ∷ [])
    ∷ (0, 1 ∷ 2 ∷ 1 ∷ 1 ∷ 16 ∷ 0 ∷ 6 ∷ 16 ∷ 2 ∷ 1 ∷ 0 ∷ 4 ∷ [], 0 ∷ 7 ∷ 0 ∷ 0 ∷ [])
    ∷ (0, 1 ∷ 0 ∷ 1 ∷ 0 ∷ 6 ∷ 0 ∷ 0 ∷ 6 ∷ 2 ∷ 1 ∷ 0 ∷ 0 ∷ [], [])
    ∷ [])
unfolding computing
parsed = refl

-- counts, each at its most and one more: the code, whether it is to be processed, the count that is kept. 124 registers are refused though their
-- byte count is the largest that is taken
pub counts :
    ◌≡◌ {A = List ((ℕ × ℕ × ℕ × ℕ) × (ℕ × ℕ × ℕ × ℕ))}
    ((brief (tcp (asks 1 2000)), brief (tcp (asks 1 2001)))
    ∷ (brief (tcp (asks 2 2000)), brief (tcp (asks 2 2001)))
    ∷ (brief (tcp (asks 3 125)), brief (tcp (asks 3 126)))
    ∷ (brief (tcp (asks 4 125)), brief (tcp (asks 4 126)))
    ∷ (brief (tcp (asks 15 1968 ++ 246 ∷ [])), brief (tcp (asks 15 1969 ++ 246 ∷ [])))
    ∷ (brief (tcp (asks 16 123 ++ 246 ∷ [])), brief (tcp (asks 16 124 ++ 246 ∷ [])))
    ∷ (brief (tcp (asks 3 0)), brief (tcp (asks 16 0 ++ 0 ∷ [])))
    ∷ (brief (tcp (asks 16 123 ++ 247 ∷ [])), brief (tcp (asks 15 1 ++ 255 ∷ [])))
    ∷ [])
    (((0, 0, 1, 2000), (0, 3, 0, 2001))
    ∷ ((0, 0, 1, 2000), (0, 3, 0, 2001))
    ∷ ((0, 0, 1, 125), (0, 3, 0, 126))
    ∷ ((0, 0, 1, 125), (0, 3, 0, 126))
    ∷ ((0, 0, 1, 1968), (0, 3, 0, 1969))
    ∷ ((0, 0, 1, 123), (0, 3, 0, 124))
    ∷ ((0, 0, 1, 0), (0, 0, 1, 0))
    ∷ ((0, 3, 0, 123), (0, 3, 0, 1))
    ∷ [])
unfolding computing
counts = refl

-- byte counts on a serial line, with all their data and without: 246 is taken and 247 is answered by code 3; 248, too short, is refused with the
-- function set, 249 with all as given
abbrev long : ℕ → List ℕ
long n = asks 15 1 ++ n ∷ replicate n 0

pub longest :
    map after_numbers
    (rtu (long 246) ∷ rtu (long 247) ∷ rtu (long 248) ∷ parsing Rtu (take 255 (long 248)) ∷ parsing Ascii (take 255 (long 248)) ∷ rtu (long 249) ∷ parsing Ascii (take 7 (long 249)) ∷ [])
    ≡ ((0, 1 ∷ 0 ∷ 1 ∷ 1 ∷ 15 ∷ 0 ∷ 0 ∷ 15 ∷ 2 ∷ 1 ∷ 0 ∷ 0 ∷ [], [])
    ∷ (0, 1 ∷ 0 ∷ 0 ∷ 1 ∷ 15 ∷ 1 ∷ 0 ∷ 15 ∷ 0 ∷ 1 ∷ 3 ∷ 0 ∷ [], [])
    ∷ (0, 1 ∷ 0 ∷ 0 ∷ 1 ∷ 15 ∷ 1 ∷ 0 ∷ 15 ∷ 0 ∷ 1 ∷ 3 ∷ 0 ∷ [], [])
    ∷ (23, 1 ∷ 0 ∷ 0 ∷ 0 ∷ 15 ∷ 1 ∷ 0 ∷ 15 ∷ 0 ∷ 1 ∷ 0 ∷ 0 ∷ [], [])
    ∷ (23, 1 ∷ 1 ∷ 0 ∷ 0 ∷ 15 ∷ 1 ∷ 0 ∷ 15 ∷ 0 ∷ 1 ∷ 0 ∷ 0 ∷ [], [])
    ∷ (23, 1 ∷ 0 ∷ 0 ∷ 0 ∷ 0 ∷ 1 ∷ 0 ∷ 1 ∷ 0 ∷ 1 ∷ 0 ∷ 0 ∷ [], [])
    ∷ (23, 1 ∷ 1 ∷ 0 ∷ 0 ∷ 0 ∷ 1 ∷ 0 ∷ 1 ∷ 0 ∷ 1 ∷ 0 ∷ 0 ∷ [], [])
    ∷ [])
unfolding computing
longest = refl

-- the length field of TCP, 250 and one more; and a slice without room for the header
pub headers :
    ◌≡◌ {A = List (ℕ × ℕ × ℕ × ℕ)}
    (brief (parsing TcpUdp (0 ∷ 7 ∷ 0 ∷ 0 ∷ 0 ∷ 250 ∷ asks 3 5))
    ∷ brief (parsing TcpUdp (0 ∷ 7 ∷ 0 ∷ 0 ∷ 0 ∷ 251 ∷ asks 3 5))
    ∷ brief (frame_parsed (fresh 1 TcpUdp) (0 ∷ 7 ∷ 0 ∷ 0 ∷ 0 ∷ 6 ∷ asks 3 5) [] (replicate 3 0))
    ∷ [])
    ((0, 0, 1, 5) ∷ (23, 0, 0, 1) ∷ (21, 0, 0, 1) ∷ [])
unfolding computing
headers = refl

-- ---- `changes` of each function, from cell 9 on with a count of 5: 0 for coils and 1 for holdings, the first cell, how many

abbrev changing : ModbusFunction → List ℕ
changing f = changes_by (ported_of f) 9 5

pub changes :
    map changing (GetCoils ∷ GetDiscretes ∷ GetHoldings ∷ GetInputs ∷ SetCoil ∷ SetHolding ∷ SetCoilsBulk ∷ SetHoldingsBulk ∷ [])
    ≡ [] ∷ [] ∷ [] ∷ [] ∷ (0 ∷ 9 ∷ 1 ∷ []) ∷ (1 ∷ 9 ∷ 1 ∷ []) ∷ (0 ∷ 9 ∷ 5 ∷ []) ∷ (1 ∷ 9 ∷ 5 ∷ []) ∷ []
changes = refl
