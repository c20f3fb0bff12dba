-- The state of a frame (source 000, `ModbusFrame`), and what a call leaves. The definitions use the code's own types; their numbers stand here.
-- Assumes nothing.
use Rattle.std.specs.Prelude.{Bool, true, false, List, ℕ, Option, Some, None, Result, Ok, Err, ⊤}
use Rattle.modbus.specs.Step.{Step, stop, go}
use Rattle.modbus.specs.Table.{coils, discretes, holdings, inputs, bit, word}
use Rattle.modbus.specs.Ported.{Ported, reads, one, many, code_of, all_ported}
use Rattle.modbus.specs.Drive.{find}
use Rattle.modbus.specs.Paper.{number, done_paper}
use Rattle.modbus.specs.declared.ErrorKind.{ErrorKind}
use Rattle.modbus.specs.declared.ModbusProto.{ModbusProto}
use Rattle.frame.specs.declared.ModbusFunction.{ModbusFunction}
use Rattle.frame.specs.declared.ModbusFunction.TheVariants.{GetCoils, GetDiscretes, GetHoldings, GetInputs, SetCoil, SetHolding, SetCoilsBulk, SetHoldingsBulk}
use Rattle.frame.specs.declared.Unsupported.{Unsupported}
use Rattle.frame.specs.declared.ModbusFrame.{ModbusFrame}

-- ---- the functions by their names, whose numbers are `code_of`'s

abbrev pub func_of : Ported → ModbusFunction
func_of (reads coils) = GetCoils
func_of (reads discretes) = GetDiscretes
func_of (reads holdings) = GetHoldings
func_of (reads inputs) = GetInputs
func_of (one bit) = SetCoil
func_of (one word) = SetHolding
func_of (many bit) = SetCoilsBulk
func_of (many word) = SetHoldingsBulk

abbrev pub ported_of : ModbusFunction → Ported
ported_of GetCoils = reads coils
ported_of GetDiscretes = reads discretes
ported_of GetHoldings = reads holdings
ported_of GetInputs = reads inputs
ported_of SetCoil = one bit
ported_of SetHolding = one word
ported_of SetCoilsBulk = many bit
ported_of SetHoldingsBulk = many word

-- an answer in numbers: 0 and the function's, or the code of an unsupported function
abbrev pub function_paper : Result ModbusFunction Unsupported → ℕ × ℕ
function_paper (Ok f) = (0, code_of (ported_of f))
function_paper (Err e) = (1, 0)

abbrev pub function_told : Step ℕ Ported → ℕ × ℕ
function_told (go fn) = (0, code_of fn)
function_told (stop c) = (c, 0)

-- the function of a number, if it is served
unfoldable pub function_of : ℕ → ℕ × ℕ
function_of n = function_told (find code_of 1 n all_ported)

-- ---- a state by its fields, in the order of the record

abbrev pub state_of : ℕ → ModbusProto → Bool → Bool → ℕ → Bool → ℕ → ModbusFunction → ℕ → ℕ → Option ℕ → ℕ → ModbusFrame
state_of unit p processing response function readonly start f first n e len =
    record {
      unit_id = unit;
      proto = p;
      processing_required = processing;
      response_required = response;
      responding_to_fn = function;
      readonly = readonly;
      frame_start = start;
      func = f;
      reg = first;
      count = n;
      error = e;
      response_len = len;
    }

-- the state that `new` makes: the response is cleared
abbrev pub fresh : ℕ → ModbusProto → ModbusFrame
fresh unit p = state_of unit p false false 0 true 0 GetCoils 0 1 None 0

-- ---- a state with one thing changed

abbrev pub started : ℕ → ModbusFrame → ModbusFrame
started n s =
    state_of s.unit_id s.proto s.processing_required s.response_required s.responding_to_fn s.readonly
    n s.func s.reg s.count s.error s.response_len

abbrev pub grown : ℕ → ModbusFrame → ModbusFrame
grown n s =
    state_of s.unit_id s.proto s.processing_required s.response_required s.responding_to_fn s.readonly
    s.frame_start s.func s.reg s.count s.error n

abbrev pub responding_to : ℕ → ModbusFrame → ModbusFrame
responding_to n s =
    state_of s.unit_id s.proto s.processing_required s.response_required n s.readonly
    s.frame_start s.func s.reg s.count s.error s.response_len

abbrev pub with_func : ModbusFunction → ModbusFrame → ModbusFrame
with_func f s =
    state_of s.unit_id s.proto s.processing_required s.response_required s.responding_to_fn s.readonly
    s.frame_start f s.reg s.count s.error s.response_len

-- an exception's code set
abbrev pub with_error : ℕ → ModbusFrame → ModbusFrame
with_error c s =
    state_of s.unit_id s.proto s.processing_required s.response_required s.responding_to_fn s.readonly
    s.frame_start s.func s.reg s.count (Some c) s.response_len

-- whether a response is required
abbrev pub answering : Bool → ModbusFrame → ModbusFrame
answering b s =
    state_of s.unit_id s.proto s.processing_required b s.responding_to_fn s.readonly
    s.frame_start s.func s.reg s.count s.error s.response_len

abbrev pub counting : ℕ → ModbusFrame → ModbusFrame
counting n s =
    state_of s.unit_id s.proto s.processing_required s.response_required s.responding_to_fn s.readonly
    s.frame_start s.func s.reg n s.error s.response_len

-- to be processed, read-only or not, from a first cell on
abbrev pub to_process : Bool → ℕ → ModbusFrame → ModbusFrame
to_process b n s =
    state_of s.unit_id s.proto true s.response_required s.responding_to_fn b
    s.frame_start s.func n s.count s.error s.response_len

-- ---- what a call leaves: 0 or the number of a refusal, the state, the lent slice of the response

pub record After : Type 0 where
  pub kind : ℕ
  pub frame : ModbusFrame
  pub out : List ℕ

abbrev pub after : ℕ → ModbusFrame → List ℕ → After
after k s l = record { kind = k; frame = s; out = l }

abbrev pub well : ModbusFrame → List ℕ → After
well s l = after 0 s l

abbrev pub refused : ErrorKind → ModbusFrame → List ℕ → After
refused k s l = after (number k) s l

-- as the code says it, with the state and the slice afterwards
abbrev pub left_paper : Result ⊤ ErrorKind → ModbusFrame → List ℕ → After
left_paper r s l = after (done_paper r).0 s l

-- a call that ended at a line, or went through
abbrev pub ended : Step After After → After
ended (stop a) = a
ended (go a) = a
