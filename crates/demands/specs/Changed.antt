-- What a result tells of the cells that were written (document 02, 2026-07): at most one range of coils or holdings, and all outside it is as it was.
-- Of who was served, and as what, nothing is said: whoever redraws a display by the result has nothing else.
-- Assumes nothing.
use Rattle.std.specs.Prelude.{◌≡◌, ℕ, ◌+◌, ◌/◌, ◌≤◌, ◌<◌, length, get_or}
use mathlib.Core.List.{List, Memᴰ}
use Rattle.modbus.specs.Table.{Tab, coils, holdings, Sizes, Tables, Range, Hits}
use Rattle.modbus.specs.Paper.{range_paper}
use Rattle.modbus.specs.Storage.{coil_at}
use Rattle.modbus.specs.Drive.{Result}
use Rattle.tables.specs.Lent.{Lent, cells_of}
use Rattle.driver.specs.declared.Driven.{Driven}
use Rattle.driver.specs.Driven.{Leaves}

-- ---- on cells

-- no range has this cell
abbrev pub Outside : List Range → Tab → ℕ → Type 0
Outside l tab i = (r : Range) → Memᴰ r l → ¬ Hits r tab i

-- then it is the same before and after
abbrev pub Steady : Tables → Result → Type 0
Steady t r = (tab : Tab) (i : ℕ) → Outside r.changed tab i → r.after tab i ≡ t tab i

-- the numbers of what was written: none; 1 to 1968 coils; 1 to 123 holdings; inside the table
pub data Told (cells : Sizes) : ℕ → ℕ → ℕ → Type 0 where
  nothing : Told cells 0 0 0
  some_coils : (first count : ℕ) → 1 ≤ count → count ≤ 1968 → first + count ≤ cells coils → Told cells 1 first count
  some_holdings : (first count : ℕ) → 1 ≤ count → count ≤ 123 → first + count ≤ cells holdings → Told cells 3 first count

-- and there is one range at most
abbrev pub OneRange : Sizes → List Range → Type 0
OneRange cells l = (length l ≤ 1) × Told cells (range_paper l).0 (range_paper l).1 (range_paper l).2

-- ---- on bytes

-- the result names this cell of the table with this number
abbrev pub Names : Driven → ℕ → ℕ → Type 0
Names d table i = (d.table ≡ table) × ((d.first ≤ i) × (i < d.first + d.count))

-- every coil that is not named keeps its bit, and every holding its bytes; byte b of the holdings is in register b / 2. What is spare is never named,
-- and so covered
pub record Held (l : Lent) (g : Leaves) : Type 0 where
  pub told : Told (cells_of l) g.result.table g.result.first g.result.count
  pub bits : (i : ℕ) → ¬ Names g.result 1 i → coil_at g.coil_bytes i ≡ coil_at l.coil_bytes i
  pub words : (b : ℕ) → ¬ Names g.result 3 (b / 2) → get_or g.holding_bytes b 0 ≡ get_or l.holding_bytes b 0
