-- `process_read`, `process_write` and `finalize_response` (source 000). What has no room is OOB at that point, and what
-- came before it stands.
-- Assumes nothing.
use Rattle.std.specs.Prelude.{◌⊎◌, ◌≡◌, List, ℕ, ◌+◌, ◌-◌, ◌*◌, ◌/◌, ◌%◌, length, get_or, take, drop, Option, Some, None}
use Rattle.modbus.specs.Step.{Step, stop, go, ◌>>=◌, ◌>>◌, need, choose, ◌≤?◌, ◌≟◌, ◌or?◌}
use Rattle.modbus.specs.Table.{Kind, bit, word, target}
use Rattle.modbus.specs.Ported.{Ported, reads, one, many}
use Rattle.modbus.specs.Request.{octets}
use Rattle.modbus.specs.Storage.{Storage, packed, storage}
use Rattle.modbus.specs.Paper.{number}
use Rattle.modbus.specs.declared.ErrorKind.{ErrorKind}
use Rattle.modbus.specs.declared.ErrorKind.TheVariants.{OOB, OOBContext, FrameBroken, ReadCallOnWriteFrame, WriteCallOnReadFrame}
use Rattle.tables.specs.Calls.{added, changed, stored, stored_whole}
use Rattle.tables.specs.Lent.{Lent, table_of, cells_of}
use Rattle.outgoing.specs.Grow.{Response, response, Short, growth, reached, head, echo, except, seal}
use Rattle.frame.specs.State.{ported_of, grown, with_error, After, after, well, refused, ended}
use Rattle.frame.specs.Parse.{or_leave, second_word}
use Rattle.frame.specs.declared.ModbusFrame.{ModbusFrame}

-- ---- a state's response, and the state after something was added to it

abbrev pub response_of : ModbusFrame → List ℕ → Response
response_of s l = response s.response_len l

-- what was added to the response
abbrev pub adding : ModbusFrame → ℕ × Response → After
adding s (k, r) = after k (grown r.len s) r.out

-- ---- reads

-- how many data bytes the crate reckons: registers in 16 bits, so that the highest bit of the count falls away
abbrev pub data_bytes : Kind → ℕ → ℕ
data_bytes bit n = octets bit n
data_bytes word n = 2 * n % 65536

-- cells outside the table are answered by code 2, and the last five bytes of the response are dropped
abbrev pub data_added : ModbusFrame → List ℕ → Step ErrorKind (ℕ × List ℕ) → After
data_added s out (go (n, l)) = well (grown n s) l
data_added s out (stop k) =
    choose (number k ≟ number OOBContext) (well (with_error 2 (grown (s.response_len - 5) s)) out) (refused k s out)

abbrev pub cells_added : Storage → List ℕ → ℕ → ModbusFrame → Step Short Response → After
cells_added S table cells s (stop x) = refused x.why (grown x.at.len s) x.at.out
cells_added S table cells s (go r) =
    data_added (grown r.len s) r.out (added S table cells s.reg s.count r.out r.len)

abbrev pub table_read : Storage → List ℕ → ℕ → ModbusFrame → List ℕ → List ℕ → After
table_read S table cells s buf out =
    cells_added S table cells s
    (head s.proto buf s.frame_start (data_bytes S.kind s.count) (response_of s out))

abbrev pub read_by : Ported → ModbusFrame → List ℕ → Lent → List ℕ → After
read_by (reads t) s buf l out = table_read (storage t) (table_of l t) (cells_of l t) s buf out
read_by (one k) s buf l out = refused WriteCallOnReadFrame s out
read_by (many k) s buf l out = refused WriteCallOnReadFrame s out

unfoldable pub read_processed : ModbusFrame → List ℕ → Lent → List ℕ → After
read_processed s buf l out =
    ended (do
      need (s.response_len ≤? length out) (refused OOB s out)
      go (read_by (ported_of s.func) s buf l out))

-- ---- writes

-- what is left, and the table's bytes
abbrev pub ended_with : List ℕ → Step After (After × List ℕ) → After × List ℕ
ended_with table (stop a) = (a, table)
ended_with table (go p) = p

-- the first six bytes are echoed
abbrev pub write_echoed : ModbusFrame → List ℕ → List ℕ → After
write_echoed s buf out = adding s (growth (echo s.proto buf s.frame_start (response_of s out)))

-- cells outside the table are answered by code 2
abbrev pub confirmed : ModbusFrame → List ℕ → List ℕ → List ℕ → Step ErrorKind (ℕ × List ℕ) → After × List ℕ
confirmed s buf out table (go (v, m)) = (write_echoed s buf out, m)
confirmed s buf out table (stop k) = (well (with_error 2 s) out, table)

-- one value: a coil is FF00 or 0000
abbrev pub Legal : Kind → ℕ → Type 0
Legal bit v = (v ≡ 0xFF00) ⊎ (v ≡ 0)
Legal word v = Unit {0}

unfoldable pub legal? : (k : Kind) (v : ℕ) → Dec (Legal k v)
legal? bit v = (v ≟ 0xFF00) or? (v ≟ 0)
legal? word v = yes tt

abbrev pub value_of : Kind → ℕ → ℕ
value_of bit v = v / 0xFF00
value_of word v = v

unfoldable pub one_written : Kind → List ℕ → ℕ → ModbusFrame → List ℕ → List ℕ → After × List ℕ
one_written k table cells s buf out =
    ended_with table (do
      there ← or_leave s out (reached buf s.frame_start 6)
      need (legal? k (second_word s buf)) (well (with_error 3 s) out)
      go (confirmed s buf out table (changed (storage (target k)) table cells s.reg (value_of k (second_word s buf)))))

-- many values: as many data bytes as the byte count says; registers tell their count by them
abbrev pub stored_many : Kind → List ℕ → ℕ → ModbusFrame → List ℕ → Step ErrorKind (ℕ × List ℕ)
stored_many bit table cells s d = stored packed table cells s.reg s.count d
stored_many word table cells s d = stored_whole table cells s.reg d

-- how many data bytes stand behind its first seven, if the frame holds them
abbrev pub data_behind : List ℕ → ℕ → Step ErrorKind ℕ
data_behind buf start = do
  need (start + 7 + get_or buf (start + 6) 0 ≤? length buf) FrameBroken
  go (get_or buf (start + 6) 0)

unfoldable pub data_held : List ℕ → ℕ → Step ErrorKind ℕ
data_held buf start = do
  there ← reached buf start 7
  data_behind buf start

unfoldable pub many_written : Kind → List ℕ → ℕ → ModbusFrame → List ℕ → List ℕ → After × List ℕ
many_written k table cells s buf out =
    ended_with table (do
      n ← or_leave s out (data_held buf s.frame_start)
      go (confirmed s buf out table (stored_many k table cells s (take n (drop (s.frame_start + 7) buf)))))

-- what is left, and both tables' bytes
pub record Wrote : Type 0 where
  pub left : After
  pub coil_bytes : List ℕ
  pub holding_bytes : List ℕ

abbrev pub wrote : After → List ℕ → List ℕ → Wrote
wrote a c h = record { left = a; coil_bytes = c; holding_bytes = h }

-- a write of bits goes to the coils, one of words to the holdings
abbrev pub wrote_to : Kind → List ℕ → List ℕ → After × List ℕ → Wrote
wrote_to bit c h p = wrote p.0 p.1 h
wrote_to word c h p = wrote p.0 c p.1

abbrev pub table_for : Kind → List ℕ → List ℕ → List ℕ
table_for bit c h = c
table_for word c h = h

abbrev pub cells_for : Kind → ℕ → ℕ → ℕ
cells_for bit cn hn = cn
cells_for word cn hn = hn

abbrev pub write_by : Ported → ModbusFrame → List ℕ → List ℕ → ℕ → List ℕ → ℕ → List ℕ → Wrote
write_by (reads t) s buf c cn h hn out = wrote (refused ReadCallOnWriteFrame s out) c h
write_by (one k) s buf c cn h hn out = wrote_to k c h (one_written k (table_for k c h) (cells_for k cn hn) s buf out)
write_by (many k) s buf c cn h hn out = wrote_to k c h (many_written k (table_for k c h) (cells_for k cn hn) s buf out)

unfoldable pub write_processed : ModbusFrame → List ℕ → List ℕ → ℕ → List ℕ → ℕ → List ℕ → Wrote
write_processed s buf c cn h hn out =
    choose (s.response_len ≤? length out) (write_by (ported_of s.func) s buf c cn h hn out)
    (wrote (refused OOB s out) c h)

-- ---- the end of a response: an exception where one is set, and a serial line's check

abbrev pub excepted : Option ℕ → ModbusFrame → Response → Step Short Response
excepted None s r = go r
excepted (Some c) s r = except s.proto s.unit_id s.responding_to_fn c r

unfoldable pub finalized : ModbusFrame → List ℕ → After
finalized s out = adding s (growth (excepted s.error s (response_of s out) >>= seal s.proto))
