-- The four tables (APP 4.3): coils and discrete inputs of one bit a cell, holding and input registers of 16 bits a cell. A table is
-- a function from cell numbers to values, so that what is said of every cell covers the spare ones; how many cells count is in the setup.
-- Assumes nothing.
use Rattle.std.specs.Prelude.{◌≡◌, List, [], ◌∷◌, ℕ, zero, suc, ◌+◌, ◌-◌, ◌≤◌, ◌<◌, get_or}
use Rattle.modbus.specs.Step.{choose, ◌≤?◌, ◌and?◌, same_as?}

pub data Kind : Type 0 where
  bit word : Kind

pub data Tab : Type 0 where
  coils discretes holdings inputs : Tab
  deriving Discrete as tab?

abbrev pub kind_of : Tab → Kind
kind_of coils = bit
kind_of discretes = bit
kind_of holdings = word
kind_of inputs = word

-- what holds of each table holds of all
abbrev pub every : (P : Tab → Type 0) → P coils × (P discretes × (P holdings × P inputs)) → (tab : Tab) → P tab
every P h coils = h.0
every P h discretes = h.1.0
every P h holdings = h.1.1.0
every P h inputs = h.1.1.1

unfoldable pub every? : (P : Tab → Type 0) → ((tab : Tab) → Dec (P tab)) → Dec ((tab : Tab) → P tab)
every? P d = same_as? (d coils and? d discretes and? d holdings and? d inputs) (every P) (λ h. (h coils, (h discretes, (h holdings, h inputs))))

-- what a cell of this kind can hold
abbrev pub Fits : Kind → ℕ → Type 0
Fits bit v = v ≤ 1
Fits word v = v < 65536

-- a write of bits goes to the coils, one of words to the holdings
abbrev pub target : Kind → Tab
target bit = coils
target word = holdings

abbrev pub Tables : Type 0
Tables = Tab → ℕ → ℕ

-- a number for each table
abbrev pub Sizes : Type 0
Sizes = Tab → ℕ

-- the values of n cells from a first one on
unfoldable pub part : (ℕ → ℕ) → ℕ → ℕ → List ℕ
part f s zero = []
part f s (suc n) = f s ∷ part f (suc s) n

-- cells of a table from a first one on
pub record Range : Type 0 where
  pub tab : Tab
  pub first : ℕ
  pub count : ℕ

abbrev pub Hits : Range → Tab → ℕ → Type 0
Hits r tab i = (tab ≡ r.tab) × ((r.first ≤ i) × (i < r.first + r.count))

unfoldable pub hits? : (r : Range) (tab : Tab) (i : ℕ) → Dec (Hits r tab i)
hits? r tab i = tab? tab r.tab and? (r.first ≤? i) and? (suc i ≤? r.first + r.count)

-- the cells of a range take the values
abbrev pub assign : Range → List ℕ → Tables → Tables
assign r vs t tab i = choose (hits? r tab i) (get_or vs (i - r.first) 0) (t tab i)
