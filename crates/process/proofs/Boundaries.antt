-- Document 01, module 6, its numbers and both sides of each, by computation over the whole list: byte counts, the last cell and one beyond, what a
-- response is cut by, a coil's values, the place of the data, the codes, an error that was set before, the end of a response.
-- Assumes nothing.
use mathlib.Core.Path.{◌≡◌, refl}
use mathlib.Core.Bool.{true}
use mathlib.Core.List.{List, [], ◌∷◌, ◌++◌, map}
use Prim.Native.Nat.{ℕ, ◌+◌}
use lib.ListN.{take, replicate}
use Rattle.modbus.specs.Bytes.{twos, pack}
use Rattle.modbus.specs.Table.{bit, word, part}
use Rattle.modbus.specs.Storage.{coil_at, with_bit, put_coil, register_at, put_register, store, size}
use Rattle.modbus.specs.declared.ModbusProto.{ModbusProto}
use Rattle.modbus.specs.declared.ModbusProto.TheVariants.{Rtu, Ascii, TcpUdp}
use Rattle.tables.specs.Calls.{added, changed, stored, stored_whole}
use Rattle.tables.specs.Lent.{Lent, lent_of}
use Rattle.outgoing.specs.Grow.{reached, or_short, begun, except, seal}
use Rattle.frame.specs.State.{state_of, After}
use Rattle.frame.proofs.Boundaries.{computing, error_of}
use Rattle.frame.specs.declared.ModbusFunction.{ModbusFunction}
use Rattle.frame.specs.declared.ModbusFunction.TheVariants.{GetCoils, GetDiscretes, GetHoldings, GetInputs, SetCoil, SetHolding, SetCoilsBulk, SetHoldingsBulk}
use Rattle.std.specs.Prelude.{Option, Some, None}
use Rattle.frame.specs.declared.ModbusFrame.{ModbusFrame}
use Rattle.process.specs.Process.{data_bytes, legal?, read_processed, one_written, data_held, many_written, Wrote, write_processed, finalized}

-- ---- how many data bytes: bits eight to a byte, registers in 16 bits

pub bytes :
    ◌≡◌ {A = List (List ℕ)}
    (map (data_bytes bit) (0 ∷ 1 ∷ 8 ∷ 9 ∷ 2040 ∷ 2041 ∷ 65535 ∷ []) ∷ map (data_bytes word) (0 ∷ 1 ∷ 127 ∷ 128 ∷ 32767 ∷ 32768 ∷ 32769 ∷ 65535 ∷ []) ∷ [])
    ((0 ∷ 1 ∷ 1 ∷ 2 ∷ 255 ∷ 256 ∷ 8192 ∷ []) ∷ (0 ∷ 2 ∷ 254 ∷ 256 ∷ 65534 ∷ 0 ∷ 2 ∷ 65534 ∷ []) ∷ [])
bytes = refl

-- ---- a state with this function, first cell and count, whose response has n bytes

abbrev asking : ModbusProto → ModbusFunction → ℕ → ℕ → Option ℕ → ℕ → ModbusFrame
asking p f reg count e n = state_of 1 p true true 0 true 0 f reg count e n

-- the kind, the code, the bytes of the response
abbrev left : After → ℕ × ℕ × List ℕ
left a = (a.kind, error_of a.frame.error, take a.frame.response_len a.out)

-- ten coils, nine discretes, two holdings, one input
abbrev lent : Lent
lent = lent_of (0x6F ∷ 0x02 ∷ []) 10 (0xFF ∷ 0xFF ∷ []) 9 (1 ∷ 2 ∷ 3 ∷ 4 ∷ []) 2 (5 ∷ 6 ∷ []) 1

abbrev reading : ModbusProto → ModbusFunction → ℕ → ℕ → ℕ → ℕ × ℕ × List ℕ
reading p f reg count n = left (read_processed (asking p f reg count None n) (1 ∷ 7 ∷ []) lent (replicate (n + 9) 0))

-- each table to its last cell, and one beyond: code 2, and five bytes fewer than stood there, or none; counts that no byte count holds, where unit
-- and function stand already; TCP's length field at 65,535, and one more; a write
pub reads :
    ◌≡◌ {A = List (ℕ × ℕ × List ℕ)}
    (reading Rtu GetCoils 0 10 0
    ∷ reading Rtu GetCoils 1 10 0
    ∷ reading Rtu GetDiscretes 0 9 0
    ∷ reading Rtu GetDiscretes 8 2 4
    ∷ reading Rtu GetHoldings 0 2 0
    ∷ reading Rtu GetHoldings 1 2 2
    ∷ reading Rtu GetInputs 0 1 0
    ∷ reading TcpUdp GetInputs 1 1 4
    ∷ reading Rtu GetHoldings 0 32768 0
    ∷ reading Rtu GetCoils 0 2040 0
    ∷ reading Rtu GetCoils 0 2041 0
    ∷ reading TcpUdp GetHoldings 0 32766 0
    ∷ reading TcpUdp GetHoldings 0 32767 0
    ∷ reading Rtu SetCoil 0 1 0
    ∷ [])
    ((0, 0, 1 ∷ 7 ∷ 2 ∷ 0x6F ∷ 0x02 ∷ [])
    ∷ (0, 2, [])
    ∷ (0, 0, 1 ∷ 7 ∷ 2 ∷ 0xFF ∷ 0x01 ∷ [])
    ∷ (0, 2, 0 ∷ 0 ∷ [])
    ∷ (0, 0, 1 ∷ 7 ∷ 4 ∷ 1 ∷ 2 ∷ 3 ∷ 4 ∷ [])
    ∷ (0, 2, [])
    ∷ (0, 0, 1 ∷ 7 ∷ 2 ∷ 5 ∷ 6 ∷ [])
    ∷ (0, 2, 0 ∷ 0 ∷ 0 ∷ 0 ∷ [])
    ∷ (0, 2, [])
    ∷ (0, 2, [])
    ∷ (21, 0, 1 ∷ 7 ∷ [])
    ∷ (21, 0, 255 ∷ 255 ∷ 1 ∷ 7 ∷ [])
    ∷ (21, 0, [])
    ∷ (27, 0, [])
    ∷ [])
unfolding computing twos pack part coil_at register_at size added or_short begun read_processed
reads = refl

-- ---- writes

-- what is left, and the bytes of both tables
abbrev written : Wrote → (ℕ × ℕ × List ℕ) × List ℕ × List ℕ
written w = (left w.left, w.coil_bytes, w.holding_bytes)

-- ten coils that are set, with the six bits behind them, and two holdings
abbrev writing : ModbusFunction → ℕ → ℕ → Option ℕ → List ℕ → (ℕ × ℕ × List ℕ) × List ℕ × List ℕ
writing f reg count e buf =
    written (write_processed (asking Rtu f reg count e 0) buf (0xFF ∷ 0xFF ∷ []) 10 (1 ∷ 2 ∷ 3 ∷ 4 ∷ []) 2 (replicate 6 0))

-- bytes of a request as they are echoed, with a value or a count
abbrev said : ℕ → ℕ → List ℕ
said high low = 1 ∷ 5 ∷ 0 ∷ 9 ∷ high ∷ low ∷ []

-- a coil off and on, the last one and one beyond, values beside 0 and FF00, a frame one byte short; a register; an error that was set before is
-- overwritten by code 2 and by code 3; a read
pub ones :
    ◌≡◌ {A = List ((ℕ × ℕ × List ℕ) × List ℕ × List ℕ)}
    (writing SetCoil 9 1 None (said 0 0)
    ∷ writing SetCoil 9 1 None (said 0xFF 0)
    ∷ writing SetCoil 10 1 None (said 0xFF 0)
    ∷ writing SetCoil 9 1 None (said 0 1)
    ∷ writing SetCoil 9 1 (Some 4) (said 0xFE 0xFF)
    ∷ writing SetCoil 9 1 None (said 0xFF 1)
    ∷ writing SetCoil 9 1 None (take 5 (said 0 0))
    ∷ writing SetHolding 1 1 None (said 0xAB 0xCD)
    ∷ writing SetHolding 2 1 (Some 4) (said 0xAB 0xCD)
    ∷ writing GetCoils 0 1 None (said 0 0)
    ∷ [])
    (((0, 0, said 0 0), 0xFF ∷ 0xFD ∷ [], 1 ∷ 2 ∷ 3 ∷ 4 ∷ [])
    ∷ ((0, 0, said 0xFF 0), 0xFF ∷ 0xFF ∷ [], 1 ∷ 2 ∷ 3 ∷ 4 ∷ [])
    ∷ ((0, 2, []), 0xFF ∷ 0xFF ∷ [], 1 ∷ 2 ∷ 3 ∷ 4 ∷ [])
    ∷ ((0, 3, []), 0xFF ∷ 0xFF ∷ [], 1 ∷ 2 ∷ 3 ∷ 4 ∷ [])
    ∷ ((0, 3, []), 0xFF ∷ 0xFF ∷ [], 1 ∷ 2 ∷ 3 ∷ 4 ∷ [])
    ∷ ((0, 3, []), 0xFF ∷ 0xFF ∷ [], 1 ∷ 2 ∷ 3 ∷ 4 ∷ [])
    ∷ ((23, 0, []), 0xFF ∷ 0xFF ∷ [], 1 ∷ 2 ∷ 3 ∷ 4 ∷ [])
    ∷ ((0, 0, said 0xAB 0xCD), 0xFF ∷ 0xFF ∷ [], 1 ∷ 2 ∷ 0xAB ∷ 0xCD ∷ [])
    ∷ ((0, 2, []), 0xFF ∷ 0xFF ∷ [], 1 ∷ 2 ∷ 3 ∷ 4 ∷ [])
    ∷ ((26, 0, []), 0xFF ∷ 0xFF ∷ [], 1 ∷ 2 ∷ 3 ∷ 4 ∷ [])
    ∷ [])
unfolding computing twos pack part coil_at with_bit put_coil register_at put_register store size added changed stored stored_whole reached or_short begun legal? one_written data_held many_written write_processed
ones = refl

-- with a byte count and data behind it
abbrev data' : ℕ → List ℕ → List ℕ
data' n d = said 0 2 ++ n ∷ d

-- the data begin at the eighth byte: all there, one short, one more than is told, a frame of six bytes; bytes too many and too few for the count;
-- the last register and one beyond, an odd byte count
pub manys :
    ◌≡◌ {A = List ((ℕ × ℕ × List ℕ) × List ℕ × List ℕ)}
    (writing SetCoilsBulk 8 2 None (data' 1 (0x01 ∷ []))
    ∷ writing SetCoilsBulk 8 2 None (data' 1 [])
    ∷ writing SetCoilsBulk 8 2 None (data' 1 (0x02 ∷ 0x00 ∷ []))
    ∷ writing SetCoilsBulk 8 2 None (said 0 2)
    ∷ writing SetCoilsBulk 8 2 None (data' 2 (0x00 ∷ 0x00 ∷ []))
    ∷ writing SetCoilsBulk 0 9 None (data' 1 (0x00 ∷ []))
    ∷ writing SetCoilsBulk 9 2 None (data' 1 (0x00 ∷ []))
    ∷ writing SetHoldingsBulk 1 7 None (data' 2 (0xAB ∷ 0xCD ∷ []))
    ∷ writing SetHoldingsBulk 1 7 None (data' 4 (0xAB ∷ 0xCD ∷ 0 ∷ 0 ∷ []))
    ∷ writing SetHoldingsBulk 0 1 (Some 4) (data' 3 (0xAB ∷ 0xCD ∷ 0 ∷ []))
    ∷ [])
    (((0, 0, said 0 2), 0xFF ∷ 0xFD ∷ [], 1 ∷ 2 ∷ 3 ∷ 4 ∷ [])
    ∷ ((23, 0, []), 0xFF ∷ 0xFF ∷ [], 1 ∷ 2 ∷ 3 ∷ 4 ∷ [])
    ∷ ((0, 0, said 0 2), 0xFF ∷ 0xFE ∷ [], 1 ∷ 2 ∷ 3 ∷ 4 ∷ [])
    ∷ ((23, 0, []), 0xFF ∷ 0xFF ∷ [], 1 ∷ 2 ∷ 3 ∷ 4 ∷ [])
    ∷ ((0, 2, []), 0xFF ∷ 0xFF ∷ [], 1 ∷ 2 ∷ 3 ∷ 4 ∷ [])
    ∷ ((0, 2, []), 0xFF ∷ 0xFF ∷ [], 1 ∷ 2 ∷ 3 ∷ 4 ∷ [])
    ∷ ((0, 2, []), 0xFF ∷ 0xFF ∷ [], 1 ∷ 2 ∷ 3 ∷ 4 ∷ [])
    ∷ ((0, 0, said 0 2), 0xFF ∷ 0xFF ∷ [], 1 ∷ 2 ∷ 0xAB ∷ 0xCD ∷ [])
    ∷ ((0, 2, []), 0xFF ∷ 0xFF ∷ [], 1 ∷ 2 ∷ 3 ∷ 4 ∷ [])
    ∷ ((0, 2, []), 0xFF ∷ 0xFF ∷ [], 1 ∷ 2 ∷ 3 ∷ 4 ∷ [])
    ∷ [])
unfolding computing twos pack part coil_at with_bit put_coil register_at put_register store size added changed stored stored_whole reached or_short begun legal? one_written data_held many_written write_processed
manys = refl

-- ---- the end of a response that holds two bytes: an exception of function 3 where one is set, and the check; TCP has no check

abbrev ending : ModbusProto → Option ℕ → ℕ × ℕ × List ℕ
ending p e = left (finalized (state_of 1 p true true 3 true 0 GetCoils 0 1 e 2) (1 ∷ 9 ∷ replicate 5 0))

pub ends :
    ◌≡◌ {A = List (ℕ × ℕ × List ℕ)}
    (ending TcpUdp None ∷ ending TcpUdp (Some 2) ∷ ending Ascii None ∷ ending Ascii (Some 3) ∷ ending Rtu None ∷ [])
    ((0, 0, 1 ∷ 9 ∷ [])
    ∷ (0, 2, 1 ∷ 9 ∷ 0 ∷ 3 ∷ 1 ∷ 131 ∷ 2 ∷ [])
    ∷ (0, 0, 1 ∷ 9 ∷ 246 ∷ [])
    ∷ (0, 3, 1 ∷ 9 ∷ 1 ∷ 131 ∷ 3 ∷ 111 ∷ [])
    ∷ (0, 0, 1 ∷ 9 ∷ 0xC0 ∷ 0x26 ∷ [])
    ∷ [])
unfolding computing or_short except seal finalized
ends = refl
