-- The four lent tables: their bytes, how many cells each is said to have, and what the cells hold.
-- Assumes nothing.
use Rattle.std.specs.Prelude.{List, ℕ, length}
use Rattle.modbus.specs.Table.{Tab, coils, discretes, holdings, inputs, Tables, Sizes}
use Rattle.modbus.specs.Storage.{storage}

pub record Lent : Type 0 where
  pub coil_bytes : List ℕ
  pub coil_cells : ℕ
  pub discrete_bytes : List ℕ
  pub discrete_cells : ℕ
  pub holding_bytes : List ℕ
  pub holding_cells : ℕ
  pub input_bytes : List ℕ
  pub input_cells : ℕ

abbrev pub lent_of : List ℕ → ℕ → List ℕ → ℕ → List ℕ → ℕ → List ℕ → ℕ → Lent
lent_of c cn d dn h hn i in' =
    record {
      coil_bytes = c;
      coil_cells = cn;
      discrete_bytes = d;
      discrete_cells = dn;
      holding_bytes = h;
      holding_cells = hn;
      input_bytes = i;
      input_cells = in';
    }

-- one by one
abbrev pub table_of : Lent → Tab → List ℕ
table_of l coils = l.coil_bytes
table_of l discretes = l.discrete_bytes
table_of l holdings = l.holding_bytes
table_of l inputs = l.input_bytes

abbrev pub cells_of : Lent → Sizes
cells_of l coils = l.coil_cells
cells_of l discretes = l.discrete_cells
cells_of l holdings = l.holding_cells
cells_of l inputs = l.input_cells

abbrev pub bytes_of : Lent → Sizes
bytes_of l t = length (table_of l t)

-- what their cells hold
abbrev pub tables_of : Lent → Tables
tables_of l t = (storage t).cell (table_of l t)
