-- A verdict as it is carried out, before its reply is put into a frame: for the contracts of private functions.
-- Assumes nothing.
use Rattle.std.specs.Prelude.{Bool, true, false, ◌≡◌, List, [], ◌∷◌, Option, None, Some, Result, Ok, Err, ℕ, zero, suc, ◌+◌, ◌*◌, ◌/◌, ◌%◌, ◌≤◌, length, take, drop, get_or}
use Rattle.std.proofs.lemmas.List.Edits.{sets}
use Rattle.modbus.specs.Table.{Kind, bit, word, Tab, coils, discretes, holdings, inputs, kind_of, target, Range, part}
use Rattle.modbus.specs.Request.{tab_of, octets, masked, shown, exception, most_read}
use Rattle.modbus.specs.Storage.{Sound, packed, registers, register_at, put_register, storage, store, values}
use Rattle.modbus.specs.Setup.{Setup}
use Rattle.modbus.specs.Frame.{wrap, start_of, around}
use Rattle.modbus.specs.Drive.{from_unit}
use Rattle.modbus.specs.declared.ModbusProto.{ModbusProto}
use Rattle.tables.specs.Lent.{Lent, table_of, tables_of, cells_of}
use Rattle.requests.specs.declared.ReadCells.{ReadCells}
use Rattle.requests.specs.declared.Cells.{Cells}
use Rattle.requests.specs.declared.Mask.{Mask}
use Rattle.requests.specs.declared.Exchange.{Exchange}
use Rattle.requests.specs.declared.Request.TheVariants as request
use Rattle.requests.specs.declared.Code.{Code}
use Rattle.requests.specs.declared.Refusal.{Refusal}
use Rattle.requests.specs.Judged.{Verdict, refusal_paper, code_number, spoken}
use Rattle.driver.specs.declared.Setup.{Setup as Numbers}
use Rattle.driver.specs.declared.Driven.{Driven}
use Rattle.driver.specs.Driven.{Call, setup_of, making, resulting, Leaves, settled}

-- a setup with these numbers of cells
abbrev pub Counted : Setup → Numbers → Type 0
Counted s n =
    (s.cells coils ≡ n.coil_cells) × (s.cells discretes ≡ n.discrete_cells) × (s.cells holdings ≡ n.holding_cells)
    × (s.cells inputs ≡ n.input_cells)

-- no table that BadSetup would refuse
abbrev pub Sized : Lent → Type 0
Sized l = (t : Tab) → Sound (storage t) (table_of l t) (cells_of l t)

-- bytes put into the reply from a place on, and how many
abbrev pub put_at : ℕ → List ℕ → List ℕ → ℕ × List ℕ
put_at start reply l = (length l, sets reply start l)

-- ---- what a verdict needs: its cells inside the tables, its data in the body

pub record ReadReady (l : Lent) (b : List ℕ) (q : ReadCells) : Type 0 where
  pub numbered : get_or b 1 0 ≡ q.function
  pub first : 1 ≤ q.function
  pub last : q.function ≤ 4
  pub most : q.count ≤ most_read (kind_of (tab_of q.function))
  pub inside : q.address + q.count ≤ cells_of l (tab_of q.function)
  pub whole : 2 ≤ length b

pub record WriteReady (k : Kind) (l : Lent) (b : List ℕ) (c : Cells) : Type 0 where
  pub inside : c.address + c.count ≤ cells_of l (target k)
  pub held : c.at + octets k c.count ≤ length b
  pub single : c.at ≡ 4 → c.count ≡ 1
  pub whole : 6 ≤ length b

pub record MaskReady (l : Lent) (b : List ℕ) (m : Mask) : Type 0 where
  pub inside : m.address + 1 ≤ l.holding_cells
  pub whole : 8 ≤ length b

pub record BothReady (l : Lent) (b : List ℕ) (x : Exchange) : Type 0 where
  pub most : x.read_count ≤ most_read word
  pub inside : x.read_address + x.read_count ≤ l.holding_cells
  pub within : x.write_address + x.write_count ≤ l.holding_cells
  pub held : 11 + 2 * x.write_count ≤ length b

abbrev pub SaysReady : List ℕ → Option Code → Type 0
SaysReady b None = Unit {0}
SaysReady b (Some c) = (2 ≤ length b) × (get_or b 1 0 ≤ 127)

abbrev pub Ready : Lent → List ℕ → Verdict → Type 0
Ready l b (Ok (request.Read q)) = ReadReady l b q
Ready l b (Ok (request.WriteBits c)) = WriteReady bit l b c
Ready l b (Ok (request.WriteWords c)) = WriteReady word l b c
Ready l b (Ok (request.Mask m)) = MaskReady l b m
Ready l b (Ok (request.Exchange x)) = BothReady l b x
Ready l b (Err r) = SaysReady b (spoken r)

-- ---- what it tells: outcome, code and the cells that it writes

pub record Telling : Type 0 where
  pub outcome : ℕ
  pub code : ℕ
  pub changed : List Range

abbrev pub tells : ℕ → ℕ → List Range → Telling
tells o x w = record { outcome = o; code = x; changed = w }

abbrev pub done_by : Bool → ℕ
done_by true = 1
done_by false = 0

abbrev pub run : Tab → ℕ → ℕ → List Range
run t first count = record { tab = t; first = first; count = count } ∷ []

abbrev pub telling : Bool → Verdict → Telling
telling broadcast (Ok (request.Read q)) = tells 0 0 []
telling broadcast (Ok (request.WriteBits c)) = tells (done_by broadcast) 0 (run coils c.address c.count)
telling broadcast (Ok (request.WriteWords c)) = tells (done_by broadcast) 0 (run holdings c.address c.count)
telling broadcast (Ok (request.Mask m)) = tells (done_by broadcast) 0 (run holdings m.address 1)
telling broadcast (Ok (request.Exchange x)) = tells 0 0 (run holdings x.write_address x.write_count)
telling broadcast (Err r) = tells (refusal_paper r).0 (refusal_paper r).2 []

-- the result, once the length of the reply is known
abbrev pub result_by : Telling → ℕ → Driven
result_by t n = resulting t.outcome t.code n t.changed

-- the same from one number, which has them lowest byte first: a byte each for outcome, code and table, one that is left out, two bytes each for the
-- first cell and for how many
abbrev pub unpacked : ℕ → ℕ → Driven
unpacked w n = making n (w % 256) (w / 256 % 256) (w / 65536 % 256) (w / 4294967296 % 65536) (w / 281474976710656)

-- ---- what it leaves

-- a read's reply: the unit, the function and the byte count come before the cells
abbrev pub read_body : Lent → Tab → List ℕ → ℕ → ℕ → List ℕ
read_body l t b address count =
    get_or b 0 0 ∷ get_or b 1 0 ∷ octets (kind_of t) count ∷ shown (kind_of t) (part (tables_of l t) address count)

-- the values of a write stand in the body
abbrev pub data_of : Kind → List ℕ → Cells → List ℕ
data_of k b c = values k c.count (take (octets k c.count) (drop c.at b))

-- a register by its masks
abbrev pub masked_by : Mask → List ℕ → List ℕ
masked_by m l = put_register l m.address (masked (register_at l m.address) m.and_mask m.or_mask)

-- a write and read: the registers written, whose values stand at 11, and the reply, which is read off these
abbrev pub swapped_by : Exchange → List ℕ → List ℕ → List ℕ
swapped_by x b l = store registers l x.write_address (values word x.write_count (take (2 * x.write_count) (drop 11 b)))

abbrev pub swap_body : Exchange → List ℕ → List ℕ → List ℕ
swap_body x b l =
    get_or b 0 0 ∷ get_or b 1 0 ∷ (2 * x.read_count) ∷ shown word (part (register_at (swapped_by x b l)) x.read_address x.read_count)

-- the first bytes of a write are echoed, but not to a broadcast number
abbrev pub echoed : Bool → ℕ → List ℕ → List ℕ
echoed true n b = []
echoed false n b = take n b

-- the reply's body from the unit on; the coils and the holdings
pub record Turn : Type 0 where
  pub body : List ℕ
  pub coil_bytes : List ℕ
  pub holding_bytes : List ℕ

abbrev pub turn : List ℕ → List ℕ → List ℕ → Turn
turn b c h = record { body = b; coil_bytes = c; holding_bytes = h }

abbrev pub saying : List ℕ → Option Code → List ℕ
saying b None = []
saying b (Some c) = get_or b 0 0 ∷ exception (get_or b 1 0) (code_number c)

abbrev pub serving : Lent → Bool → List ℕ → Verdict → Turn
serving l broadcast b (Ok (request.Read q)) = turn (read_body l (tab_of q.function) b q.address q.count) l.coil_bytes l.holding_bytes
serving l broadcast b (Ok (request.WriteBits c)) =
    turn (echoed broadcast 6 b) (store packed l.coil_bytes c.address (data_of bit b c)) l.holding_bytes
serving l broadcast b (Ok (request.WriteWords c)) =
    turn (echoed broadcast 6 b) l.coil_bytes (store registers l.holding_bytes c.address (data_of word b c))
serving l broadcast b (Ok (request.Mask m)) = turn (echoed broadcast 8 b) l.coil_bytes (masked_by m l.holding_bytes)
serving l broadcast b (Ok (request.Exchange x)) = turn (swap_body x b l.holding_bytes) l.coil_bytes (swapped_by x b l.holding_bytes)
serving l broadcast b (Err r) = turn (saying b (spoken r)) l.coil_bytes l.holding_bytes

-- the reply's body laid into the reply from its start on, and its length
pub record Laid : Type 0 where
  pub body_length : ℕ
  pub reply_bytes : List ℕ
  pub coil_bytes : List ℕ
  pub holding_bytes : List ℕ

abbrev pub laying : ℕ → List ℕ → List ℕ → List ℕ → Laid
laying n o c h = record { body_length = n; reply_bytes = o; coil_bytes = c; holding_bytes = h }

abbrev pub laid : ℕ → List ℕ → Turn → Laid
laid start reply t = laying (length t.body) (sets reply start t.body) t.coil_bytes t.holding_bytes

-- ---- and closed: the frame around the body, where there is one

abbrev pub closing : ModbusProto → List ℕ → List ℕ → ℕ → ℕ × List ℕ
closing p tag reply zero = (0, reply)
closing p tag reply (suc n) = (around p (suc n), sets reply 0 (wrap p tag (take (suc n) (drop (start_of p) reply))))

-- ---- the setup's test, in the order in which it is made

abbrev pub Few : Numbers → Type 0
Few n = (n.coil_cells ≤ 65536) × (n.discrete_cells ≤ 65536) × (n.holding_cells ≤ 65536) × (n.input_cells ≤ 65536)

abbrev pub Long : Numbers → ℕ → ℕ → ℕ → ℕ → Type 0
Long n c d h i =
    (octets bit n.coil_cells ≤ c) × (octets bit n.discrete_cells ≤ d) × (octets word n.holding_cells ≤ h)
    × (octets word n.input_cells ≤ i)

abbrev pub Good : Numbers → ℕ → ℕ → ℕ → ℕ → Type 0
Good n c d h i = (n.transport ≤ 2) × (n.hex ≤ 1) × Few n × Long n c d h i

-- a call whose frame is taken apart to this body
abbrev pub handled : Call → List ℕ → List ℕ → Leaves
handled l tag b = settled l (from_unit (setup_of l) (record { tag = tag; body = b }))

-- a refusal before there is a body tells its outcome and code, and nothing is sent
abbrev pub driven_by : Result (ℕ × ℕ) Refusal → Driven
driven_by (Ok (told, sent)) = unpacked told sent
driven_by (Err r) = resulting (refusal_paper r).0 (refusal_paper r).2 0 []
