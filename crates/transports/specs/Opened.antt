-- What opening a frame answers, and where its body stands.
-- Assumes nothing.
use Rattle.std.specs.Prelude.{◌≡◌, ℕ, ◌≤◌, List, length, take, slice_index, Result, Ok, Err}
use Rattle.modbus.specs.Step.{Step, stop, go}
use Rattle.modbus.specs.Frame.{tag_of}
use Rattle.modbus.specs.Decode.{Message, Silent, read_ignored_quiet, foreign, frame_broken_quiet, frame_check_quiet, wrong_length_quiet, bad_function_quiet, no_room_quiet, bad_setup_quiet}
use Rattle.modbus.specs.declared.ModbusProto.{ModbusProto}
use Rattle.modbus.specs.declared.ModbusProto.TheVariants.{Rtu, Ascii, TcpUdp}
use Rattle.transports.specs.declared.Fault.{Fault}
use Rattle.transports.specs.declared.Fault.TheVariants.{Broken, WrongCheck}

-- a body's length, or why there is none: unwrap stops at nothing else
abbrev pub opened : Step Silent Message → Result ℕ Fault
opened (go m) = Ok (length m.body)
opened (stop frame_check_quiet) = Err WrongCheck
opened (stop frame_broken_quiet) = Err Broken
opened (stop read_ignored_quiet) = Err Broken
opened (stop foreign) = Err Broken
opened (stop wrong_length_quiet) = Err Broken
opened (stop bad_function_quiet) = Err Broken
opened (stop no_room_quiet) = Err Broken
opened (stop bad_setup_quiet) = Err Broken

-- which outcome a fault is
abbrev pub fault_of : Fault → Silent
fault_of Broken = frame_broken_quiet
fault_of WrongCheck = frame_check_quiet

-- where a body stands: ASCII is decoded to `raw`
abbrev pub source : ModbusProto → List ℕ → List ℕ → List ℕ
source Rtu frame raw = frame
source Ascii frame raw = raw
source TcpUdp frame raw = frame

-- the body of a message stands at the front of these bytes; where there is none, anything may
abbrev pub Fronted : Step Silent Message → List ℕ → Type 0
Fronted (go m) l = take (length m.body) l ≡ m.body
Fronted (stop o) l = Unit {0}

-- a frame is taken apart to this body, which has a unit and a function; the tag stands at the front of the frame
abbrev pub Holds : ModbusProto → List ℕ → List ℕ → Step Silent Message → Type 0
Holds p frame body s =
    (s ≡ go (record { tag = tag_of p (slice_index frame 0) (slice_index frame 1); body = body })) × (2 ≤ length body) × (2 ≤ length frame)
