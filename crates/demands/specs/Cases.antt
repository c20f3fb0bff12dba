-- Document 01's cases a to l as data: unit 1, list [0]; 16 coils; holdings 0102 0304 0000 FFFF; tables afresh each time.
-- Assumes nothing.
use Rattle.std.specs.Prelude.{List, [], ◌∷◌, map, ℕ}
use Rattle.modbus.specs.Check.{crc}
use Rattle.modbus.specs.Table.{coils, discretes, holdings, inputs, Tables, Sizes, part}
use Rattle.modbus.specs.Paper.{range_paper}
use Rattle.modbus.specs.Setup.{Setup}
use Rattle.modbus.specs.Drive.{Result, drive}
use Rattle.modbus.specs.Bounds.{zeros}
use Rattle.modbus.specs.Cases.{case_l}
use Rattle.tables.specs.Lent.{tables_of}
use Rattle.demands.specs.Station.{bench, setup_at, Exchange, exchanged, changing, saying}

abbrev pub setup : ℕ → Setup
setup n = setup_at (bench (0x00 ∷ 0x00 ∷ [])) n

-- the tables, from these bytes of the coils
abbrev pub start : List ℕ → Tables
start c = tables_of (bench c).lent

-- over TCP, 1968 coils and 123 holdings of zero: what the longest writes are asked of
abbrev wide_cells : Sizes
wide_cells coils = 1968
wide_cells discretes = 0
wide_cells holdings = 123
wide_cells inputs = 0

abbrev wide_setup : Setup
wide_setup = record { transport = 2; unit = 1; hex = 0; broadcasts = 0 ∷ []; cells = wide_cells; bytes = λ tab. 246; room = 260 }

-- what a case says: of a frame what comes of it; of one over those tables the outcome, code and reply, the last nine coils and the last two
-- holdings, and the cells named; or of some bytes their CRC
pub data Case : Type 0 where
  frame : Exchange → Case
  wide : List ℕ → ℕ → ℕ → List ℕ → List ℕ → List ℕ → ℕ × ℕ × ℕ → Case
  check : List ℕ → ℕ → Case

abbrev shown_wide : List ℕ → Result → Case
shown_wide f r =
    wide f r.outcome r.exception_code r.reply (part (r.after coils) 1959 9) (part (r.after holdings) 121 2) (range_paper r.changed)

abbrev pub computed : Case → Case
computed (frame e) = frame (exchanged e)
computed (wide f o x r c h w) = shown_wide f (drive wide_setup zeros f)
computed (check l v) = check l (crc l)

-- from coils 00 00, where nothing changes
abbrev pub tcp : List ℕ → ℕ → ℕ → List ℕ → Case
tcp f o x r = frame (saying (bench (0x00 ∷ 0x00 ∷ [])) 2 f o x r)

abbrev pub ascii : List ℕ → ℕ → List ℕ → Case
ascii f o r = frame (saying (bench (0x00 ∷ 0x00 ∷ [])) 1 f o 0 r)

-- after a write: the coil bytes before, those afterwards, the holdings afterwards, and the table, the first and the number of the cells named
abbrev pub writing : List ℕ → List ℕ → ℕ → List ℕ → List ℕ → List ℕ → ℕ → ℕ → ℕ → Case
writing before f o r c h table first count = frame (changing (bench before) 2 f o 0 r c h table first count)

abbrev pub held : List ℕ
held = 0x01 ∷ 0x02 ∷ 0x03 ∷ 0x04 ∷ 0x00 ∷ 0x00 ∷ 0xFF ∷ 0xFF ∷ []

abbrev pub case_d : List ℕ
case_d = 0x00 ∷ 0x0A ∷ 0x00 ∷ 0x00 ∷ 0x00 ∷ 0x06 ∷ 0x01 ∷ 0x05 ∷ 0x00 ∷ 0x09 ∷ 0xFF ∷ 0x00 ∷ []

abbrev pub case_f : List ℕ
case_f = 0x00 ∷ 0x0C ∷ 0x00 ∷ 0x00 ∷ 0x00 ∷ 0x09 ∷ 0x01 ∷ 0x0F ∷ 0x00 ∷ 0x03 ∷ 0x00 ∷ 0x0A ∷ 0x02 ∷ 0xCD ∷ 0x01 ∷ []

abbrev pub echo_f : List ℕ
echo_f = 0x00 ∷ 0x0C ∷ 0x00 ∷ 0x00 ∷ 0x00 ∷ 0x06 ∷ 0x01 ∷ 0x0F ∷ 0x00 ∷ 0x03 ∷ 0x00 ∷ 0x0A ∷ []

abbrev pub cases : List Case
cases =
    -- a
    tcp (0x00 ∷ 0x07 ∷ 0x00 ∷ 0x00 ∷ 0x00 ∷ 0x06 ∷ 0x01 ∷ 0x03 ∷ 0x00 ∷ 0x00 ∷ 0x00 ∷ 0x02 ∷ []) 0 0
    (0x00 ∷ 0x07 ∷ 0x00 ∷ 0x00 ∷ 0x00 ∷ 0x07 ∷ 0x01 ∷ 0x03 ∷ 0x04 ∷ 0x01 ∷ 0x02 ∷ 0x03 ∷ 0x04 ∷ [])
    -- b
    ∷ tcp (0x00 ∷ 0x08 ∷ 0x00 ∷ 0x00 ∷ 0x00 ∷ 0x06 ∷ 0x01 ∷ 0x03 ∷ 0x00 ∷ 0x03 ∷ 0x00 ∷ 0x02 ∷ []) 2 2
    (0x00 ∷ 0x08 ∷ 0x00 ∷ 0x00 ∷ 0x00 ∷ 0x03 ∷ 0x01 ∷ 0x83 ∷ 0x02 ∷ [])
    -- c
    ∷ tcp (0x00 ∷ 0x09 ∷ 0x00 ∷ 0x00 ∷ 0x00 ∷ 0x06 ∷ 0x01 ∷ 0x03 ∷ 0x00 ∷ 0x00 ∷ 0x00 ∷ 0x00 ∷ []) 2 3
    (0x00 ∷ 0x09 ∷ 0x00 ∷ 0x00 ∷ 0x00 ∷ 0x03 ∷ 0x01 ∷ 0x83 ∷ 0x03 ∷ [])
    -- d
    ∷ writing (0x00 ∷ 0x00 ∷ []) case_d 0 case_d (0x00 ∷ 0x02 ∷ []) held 1 9 1
    -- e
    ∷ tcp (0x00 ∷ 0x0B ∷ 0x00 ∷ 0x00 ∷ 0x00 ∷ 0x06 ∷ 0x01 ∷ 0x05 ∷ 0x00 ∷ 0x09 ∷ 0x00 ∷ 0x01 ∷ []) 2 3
    (0x00 ∷ 0x0B ∷ 0x00 ∷ 0x00 ∷ 0x00 ∷ 0x03 ∷ 0x01 ∷ 0x85 ∷ 0x03 ∷ [])
    -- f, from 00 00 and from FF FF
    ∷ writing (0x00 ∷ 0x00 ∷ []) case_f 0 echo_f (0x68 ∷ 0x0E ∷ []) held 1 3 10
    ∷ writing (0xFF ∷ 0xFF ∷ []) case_f 0 echo_f (0x6F ∷ 0xEE ∷ []) held 1 3 10
    -- g
    ∷ tcp (0x00 ∷ 0x0D ∷ 0x00 ∷ 0x00 ∷ 0x00 ∷ 0x0A ∷ 0x01 ∷ 0x10 ∷ 0x00 ∷ 0x00 ∷ 0x00 ∷ 0x02 ∷ 0x03 ∷ 0x00 ∷ 0x01 ∷ 0x00 ∷ []) 2 3
    (0x00 ∷ 0x0D ∷ 0x00 ∷ 0x00 ∷ 0x00 ∷ 0x03 ∷ 0x01 ∷ 0x90 ∷ 0x03 ∷ [])
    -- h
    ∷ writing (0x00 ∷ 0x00 ∷ []) (0x00 ∷ 0x0E ∷ 0x00 ∷ 0x00 ∷ 0x00 ∷ 0x06 ∷ 0x00 ∷ 0x06 ∷ 0x00 ∷ 0x02 ∷ 0x12 ∷ 0x34 ∷ []) 1 []
    (0x00 ∷ 0x00 ∷ []) (0x01 ∷ 0x02 ∷ 0x03 ∷ 0x04 ∷ 0x12 ∷ 0x34 ∷ 0xFF ∷ 0xFF ∷ []) 3 2 1
    -- i
    ∷ tcp (0x00 ∷ 0x0F ∷ 0x00 ∷ 0x00 ∷ 0x00 ∷ 0x06 ∷ 0x01 ∷ 0x2B ∷ 0x0E ∷ 0x01 ∷ 0x00 ∷ 0x00 ∷ []) 2 1
    (0x00 ∷ 0x0F ∷ 0x00 ∷ 0x00 ∷ 0x00 ∷ 0x03 ∷ 0x01 ∷ 0xAB ∷ 0x01 ∷ [])
    -- j: `:010300000002FA` and `:01030401020304EE`
    ∷ ascii (58 ∷ 48 ∷ 49 ∷ 48 ∷ 51 ∷ 48 ∷ 48 ∷ 48 ∷ 48 ∷ 48 ∷ 48 ∷ 48 ∷ 50 ∷ 70 ∷ 65 ∷ 13 ∷ 10 ∷ []) 0
    (58 ∷ 48 ∷ 49 ∷ 48 ∷ 51 ∷ 48 ∷ 52 ∷ 48 ∷ 49 ∷ 48 ∷ 50 ∷ 48 ∷ 51 ∷ 48 ∷ 52 ∷ 69 ∷ 69 ∷ 13 ∷ 10 ∷ [])
    -- k: the same with FB for FA
    ∷ ascii (58 ∷ 48 ∷ 49 ∷ 48 ∷ 51 ∷ 48 ∷ 48 ∷ 48 ∷ 48 ∷ 48 ∷ 48 ∷ 48 ∷ 50 ∷ 70 ∷ 66 ∷ 13 ∷ 10 ∷ []) 6 []
    -- l
    ∷ map (λ (c : List ℕ × ℕ). check c.0 c.1) case_l
