-- The numbers that the driver and the demand both cite, pinned from outside: a frame on each side of every one, with its outcome and code; and
-- the order of the faults, by frames and setups that have two of them. A number that changed would change one of these. All cells are zero,
-- and we are unit 1 with the broadcast number 0. What a call replies and stores is pinned by literal frames, in the cases of `demands`.
-- Assumes nothing.
use Rattle.std.specs.Prelude.{List, [], ◌∷◌, ◌++◌, ℕ, replicate}
use Rattle.modbus.specs.Bytes.{two}
use Rattle.modbus.specs.Paper.{proto_of}
use Rattle.modbus.specs.Table.{coils, discretes, holdings, inputs, Tables, Sizes}
use Rattle.modbus.specs.Frame.{wrap}
use Rattle.modbus.specs.Setup.{Setup}
use Rattle.modbus.specs.Drive.{drive}

pub record Bound : Type 0 where
  pub transport : ℕ
  pub hex : ℕ
  pub cells : Sizes
  pub bytes : Sizes
  pub room : ℕ
  pub frame : List ℕ
  pub outcome : ℕ
  pub code : ℕ

abbrev pub zeros : Tables
zeros tab n = 0

abbrev pub bench : Bound → Setup
bench b = record { transport = b.transport; unit = 1; hex = b.hex; broadcasts = 0 ∷ []; cells = b.cells; bytes = b.bytes; room = b.room }

abbrev pub measured : Bound → Bound
measured b =
    record {
      transport = b.transport;
      hex = b.hex;
      cells = b.cells;
      bytes = b.bytes;
      room = b.room;
      frame = b.frame;
      outcome = (drive (bench b) zeros b.frame).outcome;
      code = (drive (bench b) zeros b.frame).exception_code;
    }

-- as many for every table, and the numbers one by one
abbrev pub each : ℕ → Sizes
each n tab = n

abbrev pub sizes : ℕ → ℕ → ℕ → ℕ → Sizes
sizes c d h i coils = c
sizes c d h i discretes = d
sizes c d h i holdings = h
sizes c d h i inputs = i

-- under a switch, every table with so many cells, in slices that would hold 65,537 of them
abbrev pub under : ℕ → ℕ → ℕ → ℕ → List ℕ → ℕ → ℕ → Bound
under h n k room f o x =
    record { transport = n; hex = h; cells = each k; bytes = each 131074; room = room; frame = f; outcome = o; code = x }

-- the same, strict
abbrev pub sized : ℕ → ℕ → ℕ → List ℕ → ℕ → ℕ → Bound
sized n k room f o x = under 0 n k room f o x

-- a whole frame, all cells and room enough
abbrev pub plain : ℕ → List ℕ → ℕ → ℕ → Bound
plain n f o x = sized n 65536 511 f o x

-- a body in the frame of its transport, its transaction number 0
abbrev pub sent : ℕ → List ℕ → List ℕ
sent n body = wrap (proto_of n) (0 ∷ 0 ∷ []) body

-- unit 1, a function, an address and a count or value
abbrev pub six : ℕ → ℕ → ℕ → List ℕ
six fn a n = 1 ∷ fn ∷ two a ++ two n

-- the same with k data bytes of zero
abbrev pub more : ℕ → ℕ → ℕ → ℕ → List ℕ
more fn a n k = six fn a n ++ (k ∷ replicate k 0)

-- unit 1, function 22 with its two masks, and function 23: cells to read, cells to write, and k data bytes of zero
abbrev pub mask : ℕ → ℕ → ℕ → List ℕ
mask a x y = 1 ∷ 22 ∷ two a ++ two x ++ two y

abbrev pub swap : ℕ → ℕ → ℕ → ℕ → ℕ → List ℕ
swap r n s m k = 1 ∷ 23 ∷ two r ++ two n ++ two s ++ two m ++ (k ∷ replicate k 0)

-- counts: 1 to 2000 for 1 and 2, 1 to 125 for 3 and 4, 1 to 1968 for 15, 1 to 123 for 16
abbrev pub counts : List Bound
counts =
    plain 2 (sent 2 (six 1 0 0)) 2 3
    ∷ plain 2 (sent 2 (six 1 0 1)) 0 0
    ∷ plain 2 (sent 2 (six 1 0 2000)) 0 0
    ∷ plain 2 (sent 2 (six 1 0 2001)) 2 3
    ∷ plain 2 (sent 2 (six 2 0 2000)) 0 0
    ∷ plain 2 (sent 2 (six 2 0 2001)) 2 3
    ∷ plain 2 (sent 2 (six 3 0 0)) 2 3
    ∷ plain 2 (sent 2 (six 3 0 125)) 0 0
    ∷ plain 2 (sent 2 (six 3 0 126)) 2 3
    ∷ plain 2 (sent 2 (six 4 0 125)) 0 0
    ∷ plain 2 (sent 2 (six 4 0 126)) 2 3
    ∷ plain 0 (sent 0 (more 15 0 0 0)) 2 3
    ∷ plain 0 (sent 0 (more 15 0 1 1)) 0 0
    ∷ plain 0 (sent 0 (more 15 0 1968 246)) 0 0
    ∷ plain 0 (sent 0 (more 15 0 1969 247)) 2 3
    ∷ plain 2 (sent 2 (more 15 0 1968 246)) 0 0
    ∷ plain 2 (sent 2 (more 15 0 1969 247)) 2 3
    ∷ plain 0 (sent 0 (more 16 0 0 0)) 2 3
    ∷ plain 0 (sent 0 (more 16 0 1 2)) 0 0
    ∷ plain 0 (sent 0 (more 16 0 123 246)) 0 0
    ∷ plain 0 (sent 0 (more 16 0 124 246)) 2 3
    ∷ plain 2 (sent 2 (more 16 0 123 246)) 0 0
    ∷ plain 2 (sent 2 (more 16 0 124 246)) 2 3
    ∷ []

-- byte counts: count / 8 rounded up for 15, twice the count for 16; lengths to the byte
abbrev pub byte_counts : List Bound
byte_counts =
    plain 2 (sent 2 (more 15 0 8 1)) 0 0
    ∷ plain 2 (sent 2 (more 15 0 8 2)) 2 3
    ∷ plain 2 (sent 2 (more 15 0 9 1)) 2 3
    ∷ plain 2 (sent 2 (more 15 0 9 2)) 0 0
    ∷ plain 2 (sent 2 (more 16 0 2 3)) 2 3
    ∷ plain 2 (sent 2 (more 16 0 2 4)) 0 0
    ∷ plain 2 (sent 2 (more 16 0 2 5)) 2 3
    ∷ plain 2 (sent 2 (more 16 0 2 4 ++ (0 ∷ []))) 7 0
    ∷ plain 2 (sent 2 (six 16 0 2)) 7 0
    ∷ plain 2 (sent 2 (six 3 0 2 ++ (0 ∷ []))) 7 0
    ∷ plain 0 (sent 0 (1 ∷ 3 ∷ 0 ∷ 0 ∷ 0 ∷ [])) 7 0
    ∷ []

-- 22: 8 bytes, any masks
abbrev pub masks : List Bound
masks =
    plain 2 (sent 2 (mask 0 0 0)) 0 0
    ∷ plain 2 (sent 2 (mask 0 0xFFFF 0xFFFF)) 0 0
    ∷ plain 2 (sent 2 (six 22 0 0xFFFF ++ (0 ∷ []))) 7 0
    ∷ plain 2 (sent 2 (mask 0 0 0 ++ (0 ∷ []))) 7 0
    ∷ plain 2 (sent 2 (mask 65535 0 0)) 0 0
    ∷ sized 2 10 260 (sent 2 (mask 9 0 0)) 0 0
    ∷ sized 2 10 260 (sent 2 (mask 10 0 0)) 2 2
    ∷ []

-- 23: read 1 to 125, write 1 to 121, byte count twice the write count, 11 bytes and those of the byte count
abbrev pub swaps : List Bound
swaps =
    plain 2 (sent 2 (swap 0 0 0 1 2)) 2 3
    ∷ plain 2 (sent 2 (swap 0 1 0 1 2)) 0 0
    ∷ plain 2 (sent 2 (swap 0 125 0 1 2)) 0 0
    ∷ plain 2 (sent 2 (swap 0 126 0 1 2)) 2 3
    ∷ plain 2 (sent 2 (swap 0 1 0 0 0)) 2 3
    ∷ plain 2 (sent 2 (swap 0 1 0 121 242)) 0 0
    ∷ plain 0 (sent 0 (swap 0 125 0 121 242)) 0 0
    ∷ plain 1 (sent 1 (swap 0 125 0 121 242)) 0 0
    ∷ plain 2 (sent 2 (swap 0 1 0 122 242)) 2 3
    ∷ plain 2 (sent 2 (swap 0 1 0 2 3)) 2 3
    ∷ plain 2 (sent 2 (swap 0 1 0 2 4)) 0 0
    ∷ plain 2 (sent 2 (swap 0 1 0 2 5)) 2 3
    ∷ plain 2 (sent 2 (1 ∷ 23 ∷ two 0 ++ two 1 ++ two 0 ++ two 1)) 7 0
    ∷ plain 2 (sent 2 (swap 0 1 0 2 4 ++ (0 ∷ []))) 7 0
    ∷ plain 2 (sent 2 (swap 65535 1 65535 1 2)) 0 0
    ∷ plain 2 (sent 2 (swap 65535 2 0 1 2)) 2 2
    ∷ plain 2 (sent 2 (swap 0 1 65535 2 4)) 2 2
    ∷ sized 2 10 260 (sent 2 (swap 9 1 9 1 2)) 0 0
    ∷ sized 2 10 260 (sent 2 (swap 9 2 9 1 2)) 2 2
    ∷ sized 2 10 260 (sent 2 (swap 9 1 9 2 4)) 2 2
    ∷ []

-- values of 5: 0xFF00 or 0
abbrev pub coil_values : List Bound
coil_values =
    plain 2 (sent 2 (six 5 0 0)) 0 0
    ∷ plain 2 (sent 2 (six 5 0 1)) 2 3
    ∷ plain 2 (sent 2 (six 5 0 0xFEFF)) 2 3
    ∷ plain 2 (sent 2 (six 5 0 0xFF00)) 0 0
    ∷ plain 2 (sent 2 (six 5 0 0xFF01)) 2 3
    ∷ plain 2 (sent 2 (six 6 0 0xFFFF)) 0 0
    ∷ []

-- addresses and cells: start + count at most the cells, and 65,535 + 1 does not wrap
abbrev pub addresses : List Bound
addresses =
    plain 2 (sent 2 (six 3 65535 1)) 0 0
    ∷ plain 2 (sent 2 (six 3 65535 2)) 2 2
    ∷ plain 2 (sent 2 (six 6 65535 0)) 0 0
    ∷ sized 2 65535 260 (sent 2 (six 3 65535 1)) 2 2
    ∷ sized 2 65535 260 (sent 2 (six 6 65535 0)) 2 2
    ∷ sized 2 10 260 (sent 2 (six 1 9 1)) 0 0
    ∷ sized 2 10 260 (sent 2 (six 1 9 2)) 2 2
    ∷ sized 2 10 260 (sent 2 (six 5 10 0)) 2 2
    ∷ sized 2 10 260 (sent 2 (more 16 9 2 4)) 2 2
    ∷ []

-- the setup: transports 0 to 2, up to 65,536 cells, room of 260 and 511
abbrev pub setups : List Bound
setups =
    sized 2 65536 260 (sent 2 (six 3 0 1)) 0 0
    ∷ sized 2 65537 260 (sent 2 (six 3 0 1)) 10 0
    ∷ sized 3 65536 260 (sent 2 (six 3 0 1)) 10 0
    ∷ sized 2 65536 259 (sent 2 (six 3 0 1)) 9 0
    ∷ sized 0 65536 260 (sent 0 (six 3 0 1)) 0 0
    ∷ sized 0 65536 259 (sent 0 (six 3 0 1)) 9 0
    ∷ sized 1 65536 511 (sent 1 (six 3 0 1)) 0 0
    ∷ sized 1 65536 510 (sent 1 (six 3 0 1)) 9 0
    ∷ []

-- a table's slice: as long as its cells need and one byte less, and 65,537 cells in a slice that would hold them; the frame reads the first
-- cell of that table
abbrev pub lent : Sizes → Sizes → ℕ → ℕ → Bound
lent c b fn o = record { transport = 2; hex = 0; cells = c; bytes = b; room = 260; frame = sent 2 (six fn 0 1); outcome = o; code = 0 }

abbrev pub slices : List Bound
slices =
    lent (sizes 65536 0 0 0) (sizes 8192 0 0 0) 1 0
    ∷ lent (sizes 65536 0 0 0) (sizes 8191 0 0 0) 1 10
    ∷ lent (sizes 65537 0 0 0) (sizes 8193 0 0 0) 1 10
    ∷ lent (sizes 8 0 0 0) (sizes 1 0 0 0) 1 0
    ∷ lent (sizes 9 0 0 0) (sizes 1 0 0 0) 1 10
    ∷ lent (sizes 9 0 0 0) (sizes 2 0 0 0) 1 0
    ∷ lent (sizes 0 65536 0 0) (sizes 0 8192 0 0) 2 0
    ∷ lent (sizes 0 65536 0 0) (sizes 0 8191 0 0) 2 10
    ∷ lent (sizes 0 65537 0 0) (sizes 0 8193 0 0) 2 10
    ∷ lent (sizes 0 8 0 0) (sizes 0 1 0 0) 2 0
    ∷ lent (sizes 0 9 0 0) (sizes 0 1 0 0) 2 10
    ∷ lent (sizes 0 9 0 0) (sizes 0 2 0 0) 2 0
    ∷ lent (sizes 0 0 65536 0) (sizes 0 0 131072 0) 3 0
    ∷ lent (sizes 0 0 65536 0) (sizes 0 0 131071 0) 3 10
    ∷ lent (sizes 0 0 65537 0) (sizes 0 0 131074 0) 3 10
    ∷ lent (sizes 0 0 2 0) (sizes 0 0 4 0) 3 0
    ∷ lent (sizes 0 0 2 0) (sizes 0 0 3 0) 3 10
    ∷ lent (sizes 0 0 0 65536) (sizes 0 0 0 131072) 4 0
    ∷ lent (sizes 0 0 0 65536) (sizes 0 0 0 131071) 4 10
    ∷ lent (sizes 0 0 0 65537) (sizes 0 0 0 131074) 4 10
    ∷ lent (sizes 0 0 0 2) (sizes 0 0 0 4) 4 0
    ∷ lent (sizes 0 0 0 2) (sizes 0 0 0 3) 4 10
    ∷ []

-- function numbers: 127 has a code, 128 does not
abbrev pub function_numbers : List Bound
function_numbers =
    plain 2 (sent 2 (six 0 0 1)) 2 1
    ∷ plain 2 (sent 2 (six 7 0 1)) 2 1
    ∷ plain 2 (sent 2 (six 14 0 1)) 2 1
    ∷ plain 2 (sent 2 (six 17 0 1)) 2 1
    ∷ plain 2 (sent 2 (six 21 0 1)) 2 1
    ∷ plain 2 (sent 2 (six 24 0 1)) 2 1
    ∷ plain 2 (sent 2 (six 127 0 1)) 2 1
    ∷ plain 2 (sent 2 (six 128 0 1)) 8 0
    ∷ plain 2 (sent 2 (six 255 0 1)) 8 0
    ∷ []

-- frame bounds: RTU 4 to 256 bytes, ASCII 6 to 508 digits, TCP 8 to 260 bytes with a length field of 2 to 254
abbrev pub frame_bounds : List Bound
frame_bounds =
    plain 0 (sent 0 (1 ∷ [])) 5 0
    ∷ plain 0 (sent 0 (1 ∷ 7 ∷ [])) 2 1
    ∷ plain 0 (sent 0 (1 ∷ 7 ∷ replicate 252 0)) 2 1
    ∷ plain 0 (sent 0 (1 ∷ 7 ∷ replicate 253 0)) 5 0
    ∷ plain 1 (sent 1 (1 ∷ [])) 5 0
    ∷ plain 1 (sent 1 (1 ∷ 7 ∷ [])) 2 1
    ∷ plain 1 (sent 1 (1 ∷ 7 ∷ replicate 251 0)) 2 1
    ∷ plain 1 (sent 1 (1 ∷ 7 ∷ replicate 252 0)) 5 0
    ∷ plain 2 (sent 2 (1 ∷ [])) 5 0
    ∷ plain 2 (sent 2 (1 ∷ 7 ∷ [])) 2 1
    ∷ plain 2 (sent 2 (1 ∷ 3 ∷ [])) 7 0
    ∷ plain 2 (sent 2 (1 ∷ 7 ∷ replicate 252 0)) 2 1
    ∷ plain 2 (sent 2 (1 ∷ 7 ∷ replicate 253 0)) 5 0
    ∷ plain 2 (0 ∷ 0 ∷ 1 ∷ 0 ∷ 0 ∷ 6 ∷ six 3 0 1) 5 0
    ∷ plain 2 (0 ∷ 0 ∷ 0 ∷ 1 ∷ 0 ∷ 6 ∷ six 3 0 1) 5 0
    ∷ plain 2 (0 ∷ 0 ∷ 0 ∷ 0 ∷ 0 ∷ 7 ∷ six 3 0 1) 5 0
    ∷ []

-- who is meant: unit 1 is ours, 0 is a broadcast number, 2 is another's; a broadcast read is ignored, and so are coded faults on a broadcast
abbrev pub units : List Bound
units =
    plain 2 (sent 2 (2 ∷ 3 ∷ two 0 ++ two 1)) 4 0
    ∷ plain 2 (sent 2 (0 ∷ 3 ∷ two 0 ++ two 1)) 3 0
    ∷ plain 2 (sent 2 (0 ∷ 6 ∷ two 0 ++ two 1)) 1 0
    ∷ plain 2 (sent 2 (0 ∷ 7 ∷ two 0 ++ two 1)) 3 1
    ∷ plain 2 (sent 2 (0 ∷ 5 ∷ two 0 ++ two 1)) 3 3
    ∷ plain 2 (sent 2 (0 ∷ 16 ∷ two 65535 ++ two 2 ++ (4 ∷ 0 ∷ 0 ∷ 0 ∷ 0 ∷ []))) 3 2
    ∷ plain 2 (sent 2 (0 ∷ 128 ∷ two 0 ++ two 1)) 8 0
    ∷ plain 2 (sent 2 (0 ∷ 22 ∷ two 0 ++ two 1 ++ two 0)) 1 0
    ∷ plain 2 (sent 2 (0 ∷ 23 ∷ two 0 ++ two 1 ++ two 0 ++ two 1 ++ (2 ∷ 0 ∷ 0 ∷ []))) 3 0
    ∷ []

-- ASCII's characters: `:01030000000` with one more for the count and two for the LRC, CR and LF; 0 to 9 and A to F are digits, their
-- neighbours and the small letters are none; and an even number of them
abbrev pub counting : ℕ → ℕ → ℕ → List ℕ
counting n a b = 58 ∷ 48 ∷ 49 ∷ 48 ∷ 51 ∷ 48 ∷ 48 ∷ 48 ∷ 48 ∷ 48 ∷ 48 ∷ 48 ∷ n ∷ a ∷ b ∷ 13 ∷ 10 ∷ []

abbrev pub characters : List Bound
characters =
    plain 1 (counting 47 70 68) 5 0
    ∷ plain 1 (counting 48 70 67) 2 3
    ∷ plain 1 (counting 57 70 51) 0 0
    ∷ plain 1 (counting 58 70 50) 5 0
    ∷ plain 1 (counting 64 70 51) 5 0
    ∷ plain 1 (counting 65 70 50) 0 0
    ∷ plain 1 (counting 70 69 68) 0 0
    ∷ plain 1 (counting 71 69 67) 5 0
    ∷ plain 1 (counting 96 70 51) 5 0
    ∷ plain 1 (counting 97 70 50) 5 0
    ∷ plain 1 (counting 102 69 68) 5 0
    ∷ plain 1 (counting 103 69 67) 5 0
    ∷ plain 1 (59 ∷ 48 ∷ 49 ∷ 48 ∷ 55 ∷ 70 ∷ 56 ∷ 13 ∷ 10 ∷ []) 5 0
    ∷ plain 1 (58 ∷ 48 ∷ 49 ∷ 48 ∷ 55 ∷ 70 ∷ 56 ∷ 13 ∷ 10 ∷ []) 2 1
    ∷ plain 1 (58 ∷ 48 ∷ 49 ∷ 48 ∷ 55 ∷ 70 ∷ 56 ∷ 10 ∷ 10 ∷ []) 5 0
    ∷ plain 1 (58 ∷ 48 ∷ 49 ∷ 48 ∷ 55 ∷ 70 ∷ 56 ∷ 13 ∷ 13 ∷ []) 5 0
    ∷ plain 1 (58 ∷ 48 ∷ 49 ∷ 48 ∷ 55 ∷ 70 ∷ 56 ∷ 48 ∷ 13 ∷ 10 ∷ []) 5 0
    ∷ []

-- the same lenient: the small letters a to f are digits, in the LRC too, and their neighbours are none
abbrev pub lenient : List ℕ → ℕ → ℕ → Bound
lenient f o x = under 1 1 65536 511 f o x

abbrev pub small_letters : List Bound
small_letters =
    lenient (counting 47 70 68) 5 0
    ∷ lenient (counting 48 70 67) 2 3
    ∷ lenient (counting 57 70 51) 0 0
    ∷ lenient (counting 58 70 50) 5 0
    ∷ lenient (counting 64 70 51) 5 0
    ∷ lenient (counting 65 70 50) 0 0
    ∷ lenient (counting 70 69 68) 0 0
    ∷ lenient (counting 71 69 67) 5 0
    ∷ lenient (counting 96 70 51) 5 0
    ∷ lenient (counting 97 70 50) 0 0
    ∷ lenient (counting 98 70 49) 0 0
    ∷ lenient (counting 97 70 49) 6 0
    ∷ lenient (counting 102 69 68) 0 0
    ∷ lenient (counting 102 101 100) 0 0
    ∷ lenient (counting 70 101 68) 0 0
    ∷ lenient (counting 103 69 67) 5 0
    ∷ lenient (58 ∷ 48 ∷ 49 ∷ 48 ∷ 55 ∷ 102 ∷ 56 ∷ 13 ∷ 10 ∷ []) 2 1
    ∷ lenient (90 ∷ 48 ∷ 49 ∷ 48 ∷ 55 ∷ 102 ∷ 56 ∷ 13 ∷ 10 ∷ []) 5 0
    ∷ lenient (58 ∷ 48 ∷ 49 ∷ 48 ∷ 55 ∷ 102 ∷ 56 ∷ 48 ∷ 13 ∷ 10 ∷ []) 5 0
    ∷ []

-- the switch: 0 and 1 on every transport, and BadSetup from 2 on; RTU and TCP frames are no text, and stand under both as they are
abbrev pub switches : List Bound
switches =
    under 0 0 65536 260 (sent 0 (six 3 0 97)) 0 0
    ∷ under 1 0 65536 260 (sent 0 (six 3 0 97)) 0 0
    ∷ under 2 0 65536 260 (sent 0 (six 3 0 97)) 10 0
    ∷ under 0 1 65536 511 (sent 1 (six 3 0 1)) 0 0
    ∷ under 1 1 65536 511 (sent 1 (six 3 0 1)) 0 0
    ∷ under 2 1 65536 511 (sent 1 (six 3 0 1)) 10 0
    ∷ under 0 2 65536 260 (sent 2 (six 3 0 97)) 0 0
    ∷ under 1 2 65536 260 (sent 2 (six 3 0 97)) 0 0
    ∷ under 2 2 65536 260 (sent 2 (six 3 0 97)) 10 0
    ∷ under 255 2 65536 260 (sent 2 (six 3 0 97)) 10 0
    -- a number of cells of which a lenient reading would make another
    ∷ under 1 0 96 260 (sent 0 (six 3 0 97)) 2 2
    ∷ under 1 2 96 260 (sent 2 (six 3 0 97)) 2 2
    ∷ []

-- the order of the faults: each row has the two that it names, and the first one decides
abbrev pub order : List Bound
order =
    -- BadSetup, NoRoom
    sized 2 65537 259 (sent 2 (six 3 0 1)) 10 0
    ∷ sized 3 65536 259 (sent 2 (six 3 0 1)) 10 0
    ∷ under 2 2 65536 259 (sent 2 (six 3 0 1)) 10 0
    -- BadSetup, FrameBroken
    ∷ sized 2 65537 260 [] 10 0
    ∷ sized 3 65536 260 [] 10 0
    ∷ under 2 1 65536 511 [] 10 0
    -- NoRoom, FrameBroken
    ∷ sized 0 65536 259 [] 9 0
    ∷ sized 1 65536 510 [] 9 0
    ∷ sized 2 65536 259 [] 9 0
    -- NoRoom, FrameCheck
    ∷ sized 0 65536 259 (1 ∷ 7 ∷ 0 ∷ 0 ∷ []) 9 0
    -- FrameBroken, FrameCheck: RTU with 3 bytes and with 257, ASCII with a character that is no digit
    ∷ plain 0 (1 ∷ 7 ∷ 0 ∷ []) 5 0
    ∷ plain 0 (1 ∷ 7 ∷ 0 ∷ 0 ∷ []) 6 0
    ∷ plain 0 (1 ∷ 7 ∷ replicate 255 0) 5 0
    ∷ plain 0 (1 ∷ 7 ∷ replicate 254 0) 6 0
    ∷ plain 1 (counting 71 48 48) 5 0
    ∷ plain 1 (counting 49 48 48) 6 0
    -- FrameCheck, Foreign
    ∷ plain 0 (2 ∷ 3 ∷ 0 ∷ 0 ∷ 0 ∷ 1 ∷ 0 ∷ 0 ∷ []) 6 0
    ∷ plain 1 (58 ∷ 48 ∷ 50 ∷ 48 ∷ 55 ∷ 48 ∷ 48 ∷ 13 ∷ 10 ∷ []) 6 0
    -- Foreign, BadFunction
    ∷ plain 2 (sent 2 (2 ∷ 128 ∷ two 0 ++ two 1)) 4 0
    -- Foreign, unsupported function
    ∷ plain 2 (sent 2 (2 ∷ 7 ∷ two 0 ++ two 1)) 4 0
    -- unsupported function, WrongLength
    ∷ plain 0 (sent 0 (1 ∷ 7 ∷ [])) 2 1
    ∷ plain 0 (sent 0 (0 ∷ 7 ∷ [])) 3 1
    -- broadcast read, WrongLength
    ∷ plain 0 (sent 0 (0 ∷ 3 ∷ [])) 3 0
    ∷ plain 2 (sent 2 (0 ∷ 1 ∷ two 0 ++ two 1 ++ (0 ∷ []))) 3 0
    ∷ plain 2 (sent 2 (0 ∷ 23 ∷ [])) 3 0
    -- broadcast read, value and address
    ∷ plain 2 (sent 2 (0 ∷ 4 ∷ two 65535 ++ two 0)) 3 0
    -- WrongLength, value
    ∷ plain 2 (sent 2 (six 3 0 0 ++ (0 ∷ []))) 7 0
    ∷ plain 2 (sent 2 (six 16 0 0)) 7 0
    ∷ plain 2 (sent 2 (swap 0 0 0 0 0 ++ (0 ∷ []))) 7 0
    -- WrongLength, address
    ∷ sized 2 10 260 (sent 2 (six 6 10 0 ++ (0 ∷ []))) 7 0
    ∷ sized 2 10 260 (sent 2 (mask 10 0 0 ++ (0 ∷ []))) 7 0
    -- value, address
    ∷ plain 2 (sent 2 (six 3 65535 126)) 2 3
    ∷ sized 2 10 260 (sent 2 (six 1 10 0)) 2 3
    ∷ sized 2 10 260 (sent 2 (six 5 10 1)) 2 3
    ∷ sized 2 10 260 (sent 2 (more 15 10 1 2)) 2 3
    ∷ sized 2 10 260 (sent 2 (more 16 10 1 3)) 2 3
    ∷ sized 2 10 260 (sent 2 (swap 10 0 0 1 2)) 2 3
    ∷ sized 2 10 260 (sent 2 (swap 10 1 10 1 3)) 2 3
    ∷ []

abbrev pub bounds : List Bound
bounds =
    counts
    ++ byte_counts
    ++ masks
    ++ swaps
    ++ coil_values
    ++ addresses
    ++ setups
    ++ slices
    ++ function_numbers
    ++ frame_bounds
    ++ characters
    ++ small_letters
    ++ switches
    ++ units
    ++ order
