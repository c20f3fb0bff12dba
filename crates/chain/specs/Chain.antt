-- The crate's calls in a row, as its example has them (source 000, head of server/mod.rs): parse; where processing is
-- required, process_read or process_write; where a response is required, finalize_response. A refused call ends the
-- chain, and nothing is sent.
-- Assumes nothing.
use Rattle.std.specs.Prelude.{Bool, true, false, ◌⊎◌, ◌≢◌, ◌≡◌, List, [], ◌∷◌, ℕ, zero, suc, ◌+◌, ◌-◌, ◌/◌, ◌%◌, ◌≤◌, ◌<◌, length, take, drop, get_or}
use Rattle.modbus.specs.Step.{Step, stop, go}
use Rattle.modbus.specs.Bytes.{word_at}
use Rattle.modbus.specs.Hex.{untext}
use Rattle.modbus.specs.Table.{bit, word}
use Rattle.modbus.specs.Ported.{Ported, reads, one, many}
use Rattle.modbus.specs.Request as driver
use Rattle.modbus.specs.Request.{Fn, code, most_written, octets}
use Rattle.modbus.specs.Frame.{line}
use Rattle.modbus.specs.Setup.{proto}
use Rattle.modbus.specs.Decode.{Valued}
use Rattle.modbus.specs.Drive.{drive}
use Rattle.modbus.specs.declared.ErrorKind.{ErrorKind}
use Rattle.modbus.specs.declared.ModbusProto.{ModbusProto}
use Rattle.modbus.specs.declared.ModbusProto.TheVariants.{Rtu, Ascii, TcpUdp}
use Rattle.tables.specs.Lent.{Lent, tables_of, cells_of}
use Rattle.driver.specs.Driven.{Call, setup_of, called}
use Rattle.frame.specs.State.{fresh, After, well}
use Rattle.frame.specs.Parse.{frame_parsed}
use Rattle.process.specs.Process.{read_processed, Wrote, wrote, write_processed, finalized}
use Rattle.frame.specs.declared.ModbusFrame.{ModbusFrame}

-- what the calls come to: 0 or the number of the refusal, the response to be sent, the bytes of the coils and of the
-- holdings
pub record Chained : Type 0 where
  pub kind : ℕ
  pub reply : List ℕ
  pub coil_bytes : List ℕ
  pub holding_bytes : List ℕ

abbrev pub chained_to : ℕ → List ℕ → List ℕ → List ℕ → Chained
chained_to k r c h = record { kind = k; reply = r; coil_bytes = c; holding_bytes = h }

-- whether a call was done, by its kind
abbrev pub if_done : {A : Type 0} → ℕ → A → A → A
if_done zero a b = a
if_done (suc k) a b = b

-- ---- the end: whether a response is required

abbrev pub to_send : After → ℕ × List ℕ
to_send a = if_done a.kind (0, take a.frame.response_len a.out) (a.kind, [])

abbrev pub finished : Bool → ModbusFrame → List ℕ → ℕ × List ℕ
finished false s out = (0, [])
finished true s out = to_send (finalized s out)

abbrev pub from_processed : After → ℕ × List ℕ
from_processed a = if_done a.kind (finished a.frame.response_required a.frame a.out) (a.kind, [])

abbrev pub with_tables : Wrote → ℕ × List ℕ → Chained
with_tables w (k, r) = chained_to k r w.coil_bytes w.holding_bytes

-- ---- between: whether processing is required, and whether the request is read-only

abbrev pub processed : Bool → Bool → ModbusFrame → List ℕ → Lent → List ℕ → Wrote
processed false readonly s buf l out = wrote (well s out) l.coil_bytes l.holding_bytes
processed true true s buf l out = wrote (read_processed s buf l out) l.coil_bytes l.holding_bytes
processed true false s buf l out =
    write_processed s buf l.coil_bytes l.coil_cells l.holding_bytes l.holding_cells out

abbrev pub from_wrote : Wrote → Chained
from_wrote w = with_tables w (from_processed w.left)

abbrev pub from_parsed : After → List ℕ → Lent → Chained
from_parsed a buf l =
    if_done a.kind (from_wrote
    (processed a.frame.processing_required a.frame.readonly a.frame buf l a.out))
    (chained_to a.kind [] l.coil_bytes l.holding_bytes)

-- ---- the whole: unit, transport, list of broadcast numbers, tables, the bytes, the slice for the response

unfoldable pub chained : ℕ → ModbusProto → List ℕ → Lent → List ℕ → List ℕ → Chained
chained unit p list l buf out = from_parsed (frame_parsed (fresh unit p) buf list out) buf l

-- ---- between the chain's bytes and the line: the crate is given and gives bytes, which ASCII sends as text

-- text that is none stands for nothing
abbrev pub decoded : Step ErrorKind (List ℕ) → List ℕ
decoded (go l) = l
decoded (stop k) = []

-- the frame itself, or what stands between colon and CR LF
unfoldable pub handed : ModbusProto → List ℕ → List ℕ
handed Rtu f = f
handed Ascii f = decoded (untext (drop 1 (take (length f - 2) f)))
handed TcpUdp f = f

-- the response itself, or its line; nothing is no line
abbrev pub on_line : ModbusProto → List ℕ → List ℕ
on_line Rtu r = r
on_line Ascii [] = []
on_line Ascii (x ∷ r) = line (x ∷ r)
on_line TcpUdp r = r

-- ---- beside the driver

-- each of the crate's eight functions as the driver's
abbrev pub as_fn : Ported → Fn
as_fn (reads t) = driver.reads t
as_fn (one k) = driver.one k
as_fn (many k) = driver.many k

-- the driver serves this number as one of the eight, or not at all
abbrev pub Shared : ℕ → Type 0
Shared n = (fn : Fn) → n ≡ code fn → (p : Ported) × (fn ≡ as_fn p)

-- RTU and ASCII, whose frames have a check
abbrev pub Serial : ModbusProto → Type 0
Serial Rtu = Unit {0}
Serial Ascii = Unit {0}
Serial TcpUdp = ⊥

-- the bodies that parse takes: over TCP its length field is 6 to 250 (source 000), where the driver's is 2 to 254
abbrev pub Bounded : ModbusProto → List ℕ → Type 0
Bounded Rtu b = Unit {0}
Bounded Ascii b = Unit {0}
Bounded TcpUdp b = (6 ≤ length b) × (length b ≤ 250)

-- the longest response: 253 bytes from the unit on, the check of a serial line, the header of TCP; the crate's own
-- buffer of 256 bytes has room for it on a serial line, but not on TCP
abbrev pub fullest : ModbusProto → ℕ
fullest Rtu = 255
fullest Ascii = 254
fullest TcpUdp = 259

-- no call is refused, the line gets this frame or nothing, and the tables hold these bytes
pub record Gives (p : ModbusProto) (c : Chained) (frame coils holdings : List ℕ) : Type 0 where
  pub done : c.kind ≡ 0
  pub replied : on_line p c.reply ≡ frame
  pub coils_hold : c.coil_bytes ≡ coils
  pub holdings_hold : c.holding_bytes ≡ holdings

-- nothing goes on the line of a broadcast
abbrev pub spoken : Bool → List ℕ → List ℕ
spoken true l = []
spoken false l = l

-- the calls on what the driver is lent, and a slice for the response
abbrev pub chained_on : Call → List ℕ → Chained
chained_on lent out =
    let s = setup_of lent in
    chained s.unit (proto s) s.broadcasts lent.tables (handed (proto s) lent.frame) out

-- they give what the driver gives
abbrev pub AsDriven : Call → List ℕ → Type 0
AsDriven lent out =
    let s = setup_of lent in
    Gives (proto s) (chained_on lent out) (drive s (tables_of lent.tables) lent.frame).reply (called lent).coil_bytes (called lent).holding_bytes

-- where the two differ on a good frame: a count of 0, or a byte count that its count does not tell, which
-- the crate does not test
abbrev pub Untested : Ported → List ℕ → Type 0
Untested (reads t) b = word_at b 4 ≡ 0
Untested (one k) b = ⊥
Untested (many k) b = (word_at b 4 ≤ most_written k) × (get_or b 6 0 ≤ 246) × (¬ Valued (as_fn (many k)) b)

-- of these, the requests that the crate refuses by code 2: cells outside the table, or data bytes that do not match
abbrev pub Misfit : Lent → Ported → List ℕ → Type 0
Misfit l (reads t) b = cells_of l t < word_at b 2
Misfit l (one k) b = ⊥
Misfit l (many bit) b = (get_or b 6 0 ≢ octets bit (word_at b 4)) ⊎ (l.coil_cells < word_at b 2 + word_at b 4)
Misfit l (many word) b = (get_or b 6 0 % 2 ≡ 1) ⊎ (l.holding_cells < word_at b 2 + get_or b 6 0 / 2)
