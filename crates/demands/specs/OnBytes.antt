-- What a call of the driver shows on bytes, read as a result on cells, and what it leaves as lent.
-- Assumes nothing.
use Rattle.std.specs.Prelude.{◌≡◌, List, [], ◌++◌, ℕ, ◌*◌, ◌/◌, ◌≤◌, length, take, drop, get_or}
use Rattle.modbus.specs.Table.{Tab, coils, holdings}
use Rattle.modbus.specs.Request.{writing}
use Rattle.modbus.specs.Paper.{range_told}
use Rattle.modbus.specs.Storage.{coil_at}
use Rattle.modbus.specs.Setup.{Setup}
use Rattle.modbus.specs.Drive.{Result}
use Rattle.tables.specs.Lent.{Lent, lent_of, tables_of}
use Rattle.driver.specs.Driven.{Call, setup_of, resulting, Leaves, leaving}
use Rattle.demands.specs.Demand.{Request, Serves}
use Rattle.demands.specs.Changed.{Outside}

-- the lent tables after a call: the coils and the holdings have its bytes, the discretes and the inputs are only read
abbrev pub lent_after : Lent → Leaves → Lent
lent_after l g =
    lent_of
    g.coil_bytes l.coil_cells
    l.discrete_bytes l.discrete_cells
    g.holding_bytes l.holding_cells
    l.input_bytes l.input_cells

-- what a call showed: its outcome and code, as many bytes from the front of the reply buffer as it said, the cells of the bytes, and the range that its
-- numbers tell
abbrev pub showed : Lent → Leaves → Result
showed l g =
    record {
      outcome = g.result.outcome;
      exception_code = g.result.code;
      reply = take g.result.length g.reply_bytes;
      after = tables_of (lent_after l g);
      changed = range_told g.result.table g.result.first g.result.count;
    }

-- a call that refused: its outcome and code, no cell written, its reply in front of the buffer, and every other byte as lent
abbrev pub refusing : Call → ℕ → ℕ → List ℕ → Leaves
refusing l o c r =
    leaving (resulting o c (length r) []) (r ++ drop (length r) l.reply) l.tables.coil_bytes l.tables.holding_bytes

-- no request that the frame is to be served as writes this cell
abbrev pub Unwritten : Setup → List ℕ → Tab → ℕ → Type 0
Unwritten s f tab i = (q : Request) → Serves s f q → Outside (writing q.ask) tab i

-- what every call leaves
pub record Kept (l : Call) (g : Leaves) : Type 0 where
  -- no slice grows or shrinks
  pub coil_length : length g.coil_bytes ≡ length l.tables.coil_bytes
  pub holding_length : length g.holding_bytes ≡ length l.tables.holding_bytes
  pub reply_length : length g.reply_bytes ≡ length l.reply
  -- the reply fits its buffer, and the bytes from its length on are as lent
  pub reply_fits : g.result.length ≤ length l.reply
  pub reply_rest : drop g.result.length g.reply_bytes ≡ drop g.result.length l.reply
  -- outside a served write every coil keeps its bit and every holding its bytes; byte b of the holdings is in register b / 2
  pub coils_outside : (i : ℕ) → Unwritten (setup_of l) l.frame coils i → coil_at g.coil_bytes i ≡ coil_at l.tables.coil_bytes i
  pub holdings_outside : (b : ℕ) → Unwritten (setup_of l) l.frame holdings (b / 2) → get_or g.holding_bytes b 0 ≡ get_or l.tables.holding_bytes b 0
  -- so all that is spare: the bits and bytes after the last coil, and the bytes after the last holding
  pub spare_bits : (i : ℕ) → l.tables.coil_cells ≤ i → coil_at g.coil_bytes i ≡ coil_at l.tables.coil_bytes i
  pub spare_coil_bytes : (b : ℕ) → l.tables.coil_cells ≤ 8 * b → get_or g.coil_bytes b 0 ≡ get_or l.tables.coil_bytes b 0
  pub spare_holding_bytes : (b : ℕ) → 2 * l.tables.holding_cells ≤ b → get_or g.holding_bytes b 0 ≡ get_or l.tables.holding_bytes b 0
