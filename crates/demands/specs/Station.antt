-- A server as the cases have it: its unit number, its switch, its list of broadcast numbers and the four tables in lent bytes; and an exchange with it: a frame
-- on a transport, and what comes of it in the reply buffer and the lent bytes. The tables are afresh each time, and there is room for every reply.
-- Assumes nothing.
use Rattle.std.specs.Prelude.{List, [], ◌∷◌, ℕ, take, replicate}
use Rattle.modbus.specs.Setup.{Setup}
use Rattle.tables.specs.Lent.{Lent, lent_of}
use Rattle.driver.specs.Driven.{Call, setup_of, Leaves, called}

pub record Station : Type 0 where
  pub unit : ℕ
  pub hex : ℕ
  pub list : List ℕ
  pub lent : Lent

-- a frame to it on a transport
abbrev pub call_to : Station → ℕ → List ℕ → Call
call_to s transport f =
    record {
      numbers =
          record {
            transport = transport;
            unit = s.unit;
            hex = s.hex;
            coil_cells = s.lent.coil_cells;
            discrete_cells = s.lent.discrete_cells;
            holding_cells = s.lent.holding_cells;
            input_cells = s.lent.input_cells;
          };
      list = s.list;
      tables = s.lent;
      frame = f;
      reply = replicate 511 0;
    }

abbrev pub setup_at : Station → ℕ → Setup
setup_at s transport = setup_of (call_to s transport [])

-- document 01's: unit 1, list [0]; 16 coils in these bytes; holdings 0102 0304 0000 FFFF; no discretes and no inputs; under a switch
abbrev pub bench_under : ℕ → List ℕ → Station
bench_under h c =
    record {
      unit = 1;
      hex = h;
      list = 0 ∷ [];
      lent = lent_of c 16 [] 0 (0x01 ∷ 0x02 ∷ 0x03 ∷ 0x04 ∷ 0x00 ∷ 0x00 ∷ 0xFF ∷ 0xFF ∷ []) 4 [] 0;
    }

-- the same, strict
abbrev pub bench : List ℕ → Station
bench c = bench_under 0 c

-- the same, with our own number in the list
abbrev pub listed : Station
listed = record { unit = 1; hex = 0; list = 0 ∷ 1 ∷ []; lent = (bench (0x00 ∷ 0x00 ∷ [])).lent }

-- unit 17, list [0, 247]; four tables of different numbers of cells and contents, all with spare bits or bytes: 19 coils, 21 discretes, 3
-- holdings, 2 inputs
abbrev pub odd : Station
odd =
    record {
      unit = 17;
      hex = 0;
      list = 0 ∷ 247 ∷ [];
      lent =
          lent_of
          (0xA5 ∷ 0xA5 ∷ 0xA5 ∷ []) 19
          (0x3C ∷ 0x3C ∷ 0x3C ∷ 0x77 ∷ []) 21
          (0x11 ∷ 0x22 ∷ 0x33 ∷ 0x44 ∷ 0x55 ∷ 0x66 ∷ 0x77 ∷ []) 3
          (0x88 ∷ 0x99 ∷ 0xAA ∷ 0xBB ∷ 0xCC ∷ []) 2;
    }

pub record Exchange : Type 0 where
  pub station : Station
  pub transport : ℕ
  pub frame : List ℕ
  pub outcome : ℕ
  pub code : ℕ
  pub reply : List ℕ
  pub coil_bytes : List ℕ
  pub holding_bytes : List ℕ
  pub table : ℕ
  pub first : ℕ
  pub count : ℕ

-- the same as the definitions give it
abbrev pub leaves : Exchange → Leaves
leaves e = called (call_to e.station e.transport e.frame)

abbrev pub exchanged : Exchange → Exchange
exchanged e =
    record {
      station = e.station;
      transport = e.transport;
      frame = e.frame;
      outcome = (leaves e).result.outcome;
      code = (leaves e).result.code;
      reply = take (leaves e).result.length (leaves e).reply_bytes;
      coil_bytes = (leaves e).coil_bytes;
      holding_bytes = (leaves e).holding_bytes;
      table = (leaves e).result.table;
      first = (leaves e).result.first;
      count = (leaves e).result.count;
    }

-- an outcome, code and reply, the coils and the holdings afterwards, and the table, the first and the number of the cells that the result names
abbrev pub changing : Station → ℕ → List ℕ → ℕ → ℕ → List ℕ → List ℕ → List ℕ → ℕ → ℕ → ℕ → Exchange
changing s n f o x r c h table first count =
    record {
      station = s;
      transport = n;
      frame = f;
      outcome = o;
      code = x;
      reply = r;
      coil_bytes = c;
      holding_bytes = h;
      table = table;
      first = first;
      count = count;
    }

-- the same, where nothing is written and nothing named
abbrev pub saying : Station → ℕ → List ℕ → ℕ → ℕ → List ℕ → Exchange
saying s n f o x r = changing s n f o x r s.lent.coil_bytes s.lent.holding_bytes 0 0 0
