-- What a master can ask (APP 6.1 to 6.6, 6.11, 6.12, 6.16 and 6.17): what of it is permitted, its published encoding, the cells it reads and
-- writes, its effect and its answer.
-- Assumes nothing.
use Rattle.std.specs.Prelude.{◌≡◌, List, [], ◌∷◌, ◌++◌, ℕ, zero, suc, ◌+◌, ◌-◌, ◌*◌, ◌/◌, ◌≤◌, length, replicate}
use Rattle.std.specs.Int.Bits.{bit_and, bit_or}
use Rattle.modbus.specs.Bytes.{All, two, twos, pack}
use Rattle.modbus.specs.declared.ModbusProto.{ModbusProto}
use Rattle.modbus.specs.Table.{Kind, bit, word, Tab, coils, discretes, holdings, inputs, kind_of, target, Fits, Tables, part, Range, assign}

-- the functions of the requests, and their numbers
pub data Fn : Type 0 where
  reads : Tab → Fn
  one many : Kind → Fn
  mask both : Fn  -- mask write; a write of holdings and a read of holdings at once

abbrev pub code : Fn → ℕ
code (reads coils) = 1
code (reads discretes) = 2
code (reads holdings) = 3
code (reads inputs) = 4
code (one bit) = 5
code (one word) = 6
code (many bit) = 15
code (many word) = 16
code mask = 22
code both = 23

-- the table that a read's number names
abbrev pub tab_of : ℕ → Tab
tab_of zero = inputs
tab_of (suc zero) = coils
tab_of (suc (suc zero)) = discretes
tab_of (suc (suc (suc zero))) = holdings
tab_of (suc (suc (suc (suc n)))) = inputs

-- those that a server offers on a transport (document 01, "Functions served"; document 02, 2026-05)
abbrev pub offered : ModbusProto → List Fn
offered p = reads coils ∷ reads discretes ∷ reads holdings ∷ reads inputs ∷ one bit ∷ one word ∷ many bit ∷ many word ∷ mask ∷ both ∷ []

pub data Ask : Type 0 where
  read : Tab → ℕ → ℕ → Ask  -- table, first cell, how many
  write : Kind → ℕ → ℕ → Ask  -- coil or holding, its value
  writes : Kind → ℕ → List ℕ → Ask  -- coils or holdings from a first cell on, their values
  masks : ℕ → ℕ → ℕ → Ask  -- a holding, the AND mask, the OR mask
  swaps : ℕ → ℕ → ℕ → List ℕ → Ask  -- holdings to read: first cell, how many; holdings to write before that: first cell, their values

abbrev pub fn_of : Ask → Fn
fn_of (read t s n) = reads t
fn_of (write k a v) = one k
fn_of (writes k s vs) = many k
fn_of (masks a x y) = mask
fn_of (swaps r n s vs) = both

-- ---- what is permitted (document 01, "Value rules"; document 02, 2026-05)

abbrev pub most_read : Kind → ℕ
most_read bit = 2000
most_read word = 125

abbrev pub most_written : Kind → ℕ
most_written bit = 1968
most_written word = 123

-- of a write that comes with a read
abbrev pub most_swapped : ℕ
most_swapped = 121

abbrev pub Permitted : Ask → Type 0
Permitted (read t s n) = (1 ≤ n) × (n ≤ most_read (kind_of t))
Permitted (write k a v) = Fits k v
Permitted (writes k s vs) = (1 ≤ length vs) × (length vs ≤ most_written k) × All (Fits k) vs
Permitted (masks a x y) = Fits word x × Fits word y
Permitted (swaps r n s vs) = (1 ≤ n) × (n ≤ most_read word) × (1 ≤ length vs) × (length vs ≤ most_swapped) × All (Fits word) vs

-- ---- the cells it reads, the cells it writes

abbrev pub reading : Ask → List Range
reading (read t s n) = record { tab = t; first = s; count = n } ∷ []
reading (write k a v) = []
reading (writes k s vs) = []
reading (masks a x y) = []
reading (swaps r n s vs) = record { tab = holdings; first = r; count = n } ∷ []

abbrev pub writing : Ask → List Range
writing (read t s n) = []
writing (write k a v) = record { tab = target k; first = a; count = 1 } ∷ []
writing (writes k s vs) = record { tab = target k; first = s; count = length vs } ∷ []
writing (masks a x y) = record { tab = holdings; first = a; count = 1 } ∷ []
writing (swaps r n s vs) = record { tab = holdings; first = s; count = length vs } ∷ []

-- ---- the published encoding

-- one value in two bytes: a coil is FF00 or 0000
abbrev pub wire : Kind → ℕ → ℕ
wire bit v = 0xFF00 * v
wire word v = v

-- many values; bits are filled up with pad bits
abbrev pub cargo : Kind → List ℕ → List ℕ → List ℕ
cargo bit vs pad = pack (vs ++ pad)
cargo word vs pad = twos vs

-- how many bytes n values take
abbrev pub octets : Kind → ℕ → ℕ
octets bit n = (n + 7) / 8
octets word n = 2 * n

-- pad bits may be anything, and are as many as fill the last byte
abbrev pub Fills : Kind → List ℕ → List ℕ → Type 0
Fills bit vs pad = All (λ b. b ≤ 1) pad × (length vs + length pad ≡ 8 * octets bit (length vs))
Fills word vs pad = pad ≡ []

abbrev pub Pads : Ask → List ℕ → Type 0
Pads (read t s n) pad = pad ≡ []
Pads (write k a v) pad = pad ≡ []
Pads (writes k s vs) pad = Fills k vs pad
Pads (masks a x y) pad = pad ≡ []
Pads (swaps r n s vs) pad = pad ≡ []

-- the request, with its pad bits
abbrev pub pdu : Ask → List ℕ → List ℕ
pdu (read t s n) pad = code (reads t) ∷ two s ++ two n
pdu (write k a v) pad = code (one k) ∷ two a ++ two (wire k v)
pdu (writes k s vs) pad = code (many k) ∷ two s ++ two (length vs) ++ (octets k (length vs) ∷ cargo k vs pad)
pdu (masks a x y) pad = code mask ∷ two a ++ two x ++ two y
pdu (swaps r n s vs) pad = code both ∷ two r ++ two n ++ two s ++ two (length vs) ++ (octets word (length vs) ∷ twos vs)

abbrev pub Encodes : Ask → List ℕ → Type 0
Encodes a l = (pad : List ℕ) × Pads a pad × (l ≡ pdu a pad)

-- ---- effect and answer

-- a mask write (APP 6.16): (old AND A) OR (B AND NOT A), bit by bit, in 16 bits
unfoldable pub masked : ℕ → ℕ → ℕ → ℕ
masked old x y = bit_or (bit_and old x) (bit_and y (65535 - x))

-- the values it writes, where the tables before it are T
abbrev pub given : Ask → Tables → List ℕ
given (read t s n) T = []
given (write k a v) T = v ∷ []
given (writes k s vs) T = vs
given (masks a x y) T = masked (T holdings a) x y ∷ []
given (swaps r n s vs) T = vs

abbrev pub assigned : List Range → List ℕ → Tables → Tables
assigned [] vs T = T
assigned (r ∷ l) vs T = assign r vs T

abbrev pub apply : Ask → Tables → Tables
apply a T = assigned (writing a) (given a T) T

-- what an answer is read off
pub record Seen : Type 0 where
  pub tables : Tables

abbrev pub seen : Tables → Seen
seen T = record { tables = T }

-- the values of the cells it reads
abbrev pub found : Ask → Seen → List ℕ
found (read t s n) w = part (w.tables t) s n
found (write k a v) w = []
found (writes k s vs) w = []
found (masks a x y) w = []
found (swaps r n s vs) w = part (w.tables holdings) r n

-- values as a reply shows them, pad bits zero
abbrev pub shown : Kind → List ℕ → List ℕ
shown k vs = cargo k vs (replicate (8 * octets bit (length vs) - length vs) 0)

-- the answer, where vs are the values of the cells read
abbrev pub answer : Ask → List ℕ → List ℕ
answer (read t s n) vs = code (reads t) ∷ octets (kind_of t) (length vs) ∷ shown (kind_of t) vs
answer (write k a v) vs = code (one k) ∷ two a ++ two (wire k v)
answer (writes k s ws) vs = code (many k) ∷ two s ++ two (length ws)
answer (masks a x y) vs = code mask ∷ two a ++ two x ++ two y
answer (swaps r n s ws) vs = code both ∷ octets word (length vs) ∷ shown word vs

-- the exception (APP 7): the function's number with its highest bit set, and a code
abbrev pub exception : ℕ → ℕ → List ℕ
exception fn c = (fn + 128) ∷ c ∷ []
