-- What a cell's value is in lent bytes, and storing at that level (document 01, "Tables and setup"). Every definition is total, so that it
-- speaks of the spare bits and bytes after the last cell as well.
-- Assumes nothing.
use Rattle.std.specs.Prelude.{List, [], ◌∷◌, ℕ, suc, ◌+◌, ◌*◌, ◌/◌, ◌%◌, ◌^◌, ◌≤◌, length, get_or, set}
use Rattle.modbus.specs.Step.{choose, ◌≤?◌, ◌and?◌}
use Rattle.modbus.specs.Bytes.{word_at}
use Rattle.modbus.specs.Table.{Kind, bit, word, Tab, coils, discretes, holdings, inputs, part}
use Rattle.modbus.specs.Request.{octets}

-- ---- one cell

-- cell n is bit n mod 8, lowest first, of byte n / 8
unfoldable pub coil_at : List ℕ → ℕ → ℕ
coil_at l n = get_or l (n / 8) 0 / 2 ^ (n % 8) % 2

-- a byte with its bit k made v: the bits above, v, the bits below
unfoldable pub with_bit : ℕ → ℕ → ℕ → ℕ
with_bit b k v = (b / 2 ^ k / 2 * 2 + v) * 2 ^ k + b % 2 ^ k

unfoldable pub put_coil : List ℕ → ℕ → ℕ → List ℕ
put_coil l n v = set l (n / 8) (with_bit (get_or l (n / 8) 0) (n % 8) v)

-- two bytes a cell, high byte first
unfoldable pub register_at : List ℕ → ℕ → ℕ
register_at l n = word_at l (2 * n)

unfoldable pub put_register : List ℕ → ℕ → ℕ → List ℕ
put_register l n v = set (set l (2 * n) (v / 256)) (suc (2 * n)) (v % 256)

-- ---- a way of keeping cells in bytes

pub record Storage : Type 0 where
  pub kind : Kind
  pub cell : List ℕ → ℕ → ℕ
  pub put : List ℕ → ℕ → ℕ → List ℕ
  pub bytes : ℕ → ℕ  -- how many bytes n cells take

abbrev pub packed : Storage
packed = record { kind = bit; cell = coil_at; put = put_coil; bytes = octets bit }

abbrev pub registers : Storage
registers = record { kind = word; cell = register_at; put = put_register; bytes = octets word }

-- values put into the cells from a first one on, one after the other
unfoldable pub store : Storage → List ℕ → ℕ → List ℕ → List ℕ
store S l s [] = l
store S l s (v ∷ vs) = store S (S.put l s v) (suc s) vs

-- a table has 0 to 65,536 cells, and its bytes hold them
abbrev pub Sound : Storage → List ℕ → ℕ → Type 0
Sound S l cells = (cells ≤ 65536) × (S.bytes cells ≤ length l)

abbrev pub sound? : (S : Storage) (l : List ℕ) (cells : ℕ) → Dec (Sound S l cells)
sound? S l cells = (cells ≤? 65536) and? (S.bytes cells ≤? length l)

-- outside the driver, a table that BadSetup would refuse counts as one of 0 cells
unfoldable pub size : Storage → List ℕ → ℕ → ℕ
size S l cells = choose (sound? S l cells) cells 0

-- how each table is kept
abbrev pub storage : Tab → Storage
storage coils = packed
storage discretes = packed
storage holdings = registers
storage inputs = registers

-- ---- data bytes on the line (APP 6.11: coils eight to a byte, the first lowest; APP 6.12: registers high byte first), and the values they hold

abbrev pub datum : Kind → List ℕ → ℕ → ℕ
datum bit = coil_at
datum word = register_at

abbrev pub values : Kind → ℕ → List ℕ → List ℕ
values k n d = part (datum k d) 0 n
