-- What a call of the driver gives, on bytes: the definitions of document 01's driver through the storage of the lent tables.
-- Assumes nothing.
use Rattle.std.specs.Prelude.{List, [], ◌∷◌, ℕ, length}
use Rattle.std.proofs.lemmas.List.Edits.{sets}
use Rattle.modbus.specs.Step.{Step, stop, go, choose}
use Rattle.modbus.specs.Table.{Tab, tab?, coils, holdings, Range}
use Rattle.modbus.specs.Request.{Ask, writing, given}
use Rattle.modbus.specs.Storage.{storage, store}
use Rattle.modbus.specs.Paper.{range_paper}
use Rattle.modbus.specs.Setup.{Setup}
use Rattle.modbus.specs.Decode.{Message}
use Rattle.modbus.specs.Drive.{Fault, Result, judge, settle}
use Rattle.tables.specs.Lent.{Lent, lent_of, table_of, tables_of, cells_of, bytes_of}
use Rattle.driver.specs.declared.Setup.{Setup as Numbers}
use Rattle.driver.specs.declared.Driven.{Driven}

-- the lent tables, with as many cells as the setup's numbers say
abbrev pub lent_in : Numbers → List ℕ → List ℕ → List ℕ → List ℕ → Lent
lent_in n c d h i = lent_of c n.coil_cells d n.discrete_cells h n.holding_cells i n.input_cells

-- what a call is lent: the setup's numbers, the list of broadcast numbers, the tables, the frame, the reply buffer
pub record Call : Type 0 where
  pub numbers : Numbers
  pub list : List ℕ
  pub tables : Lent
  pub frame : List ℕ
  pub reply : List ℕ

-- from the parameters in their order: the numbers, the list, the bytes of coils, discretes, holdings and inputs, the frame, the reply buffer
abbrev pub lending : Numbers → List ℕ → List ℕ → List ℕ → List ℕ → List ℕ → List ℕ → List ℕ → Call
lending n list c d h i frame reply = record { numbers = n; list = list; tables = lent_in n c d h i; frame = frame; reply = reply }

-- the same with this frame
abbrev pub framing : Call → List ℕ → Call
framing l f = record { numbers = l.numbers; list = l.list; tables = l.tables; frame = f; reply = l.reply }

-- the setup: its numbers, the list, the sizes of the tables and the room for the reply
abbrev pub setup_of : Call → Setup
setup_of l =
    record {
      transport = l.numbers.transport;
      unit = l.numbers.unit;
      hex = l.numbers.hex;
      broadcasts = l.list;
      cells = cells_of l.tables;
      bytes = bytes_of l.tables;
      room = length l.reply;
    }

-- a table's bytes after a request: the cells that it writes there take its values, as the table keeps them
abbrev pub stored_in : Tab → List Range → List ℕ → List ℕ → List ℕ
stored_in t [] vs l = l
stored_in t (r ∷ rs) vs l = choose (tab? t r.tab) (store (storage t) l r.first vs) l

abbrev pub bytes_after : Lent → Ask → Tab → List ℕ
bytes_after l a t = stored_in t (writing a) (given a (tables_of l)) (table_of l t)

-- and after a judgement: only what is served changes bytes
abbrev pub bytes_by : Lent → Step Fault (Message × Ask) → Tab → List ℕ
bytes_by l (stop x) t = table_of l t
bytes_by l (go (m, a)) t = bytes_after l a t

-- a record of these numbers: the reply's length; document 01's outcome and code; the table, the first and the number of the cells written
abbrev pub making : ℕ → ℕ → ℕ → ℕ → ℕ → ℕ → Driven
making n outcome code table first count =
    record { length = n; outcome = outcome; code = code; table = table; first = first; count = count }

abbrev pub resulting : ℕ → ℕ → ℕ → List Range → Driven
resulting outcome code n w = making n outcome code (range_paper w).0 (range_paper w).1 (range_paper w).2

abbrev pub result_of : Result → Driven
result_of r = resulting r.outcome r.exception_code (length r.reply) r.changed

-- the result, and the reply buffer, the coils and the holdings as bytes: a reply stands at the front of its buffer
pub record Leaves : Type 0 where
  pub result : Driven
  pub reply_bytes : List ℕ
  pub coil_bytes : List ℕ
  pub holding_bytes : List ℕ

abbrev pub leaving : Driven → List ℕ → List ℕ → List ℕ → Leaves
leaving r o c h = record { result = r; reply_bytes = o; coil_bytes = c; holding_bytes = h }

abbrev pub settled : Call → Step Fault (Message × Ask) → Leaves
settled l j =
    let r = settle (setup_of l) (tables_of l.tables) j in
    leaving (result_of r) (sets l.reply 0 r.reply) (bytes_by l.tables j coils) (bytes_by l.tables j holdings)

-- what a call leaves of what it is lent
unfoldable pub called : Call → Leaves
called l = settled l (judge (setup_of l) l.frame)
