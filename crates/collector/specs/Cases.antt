-- Cases of the collector as data (document 02, 2026-04): document 01's unit 1, list [0], 16 coils and holdings 0102 0304 0000 FFFF, afresh each
-- time, and an empty collector. A case is what came over the line.
-- Assumes nothing.
use Rattle.std.specs.Prelude.{List, [], ◌∷◌, ◌++◌, ℕ, take, replicate}
use Rattle.modbus.specs.Paper.{told_with}
use Rattle.driver.specs.declared.Setup.{Setup as Numbers}
use Rattle.driver.specs.Driven.{lending, Leaves}
use Rattle.collector.specs.Collected.{offered, quieted, left_by}

-- bytes are offered: how many are held then; or the line falls quiet, on a transport and with room for a reply: the outcome, the code, the reply,
-- the holdings then, and the table, the first and the number of the cells named
pub data Event : Type 0 where
  brings : List ℕ → ℕ → Event
  falls : ℕ → ℕ → ℕ → ℕ → List ℕ → List ℕ → ℕ × ℕ × ℕ → Event

abbrev numbers : ℕ → Numbers
numbers t = record { transport = t; unit = 1; hex = 0; coil_cells = 16; discrete_cells = 0; holding_cells = 4; input_cells = 0 }

abbrev quieted_in : ℕ → ℕ → List ℕ → List ℕ → Leaves × List ℕ
quieted_in t room s h = left_by (quieted s (lending (numbers t) (0 ∷ []) (0 ∷ 0 ∷ []) [] h [] [] (replicate room 0)))

abbrev shown : ℕ → ℕ → Leaves → Event
shown t room g =
    falls t room g.result.outcome g.result.code (take g.result.length g.reply_bytes) g.holding_bytes
    (g.result.table, g.result.first, g.result.count)

-- the same as the definitions give it, and on from the collector and the holdings after it
abbrev on_brought : List ℕ → (ℕ × ℕ) × List ℕ → List ℕ → (List ℕ → List ℕ → List Event) → List Event
on_brought b r h on = brings b r.0.1 ∷ on r.1 h

abbrev on_fallen : ℕ → ℕ → Leaves × List ℕ → (List ℕ → List ℕ → List Event) → List Event
on_fallen t room q on = shown t room q.0 ∷ on q.1 q.0.holding_bytes

abbrev played : List Event → List ℕ → List ℕ → List Event
played [] s h = []
played (brings b n ∷ es) s h = on_brought b (told_with s (offered s b)) h (played es)
played (falls t room o x r after w ∷ es) s h = on_fallen t room (quieted_in t room s h) (played es)

abbrev before : List ℕ
before = 0x01 ∷ 0x02 ∷ 0x03 ∷ 0x04 ∷ 0x00 ∷ 0x00 ∷ 0xFF ∷ 0xFF ∷ []

abbrev pub computed : List Event → List Event
computed es = played es (replicate 259 0) before

-- a write of 1234 to holding 2, and the holdings after it
abbrev good : List ℕ
good = 0x01 ∷ 0x06 ∷ 0x00 ∷ 0x02 ∷ 0x12 ∷ 0x34 ∷ 0x25 ∷ 0x7D ∷ []

abbrev after : List ℕ
after = 0x01 ∷ 0x02 ∷ 0x03 ∷ 0x04 ∷ 0x12 ∷ 0x34 ∷ 0xFF ∷ 0xFF ∷ []

-- function 7 with 252 data bytes of zero and its CRC: the longest frame
abbrev longest : List ℕ
longest = 0x01 ∷ 0x07 ∷ replicate 252 0x00 ++ (0x1F ∷ 0x9D ∷ [])

abbrev pub cases : List (List Event)
cases =
    -- in three groups; and a quiet line afterwards
    (brings (0x01 ∷ []) 1 ∷ brings (0x06 ∷ 0x00 ∷ 0x02 ∷ 0x12 ∷ 0x34 ∷ 0x25 ∷ []) 7 ∷ brings (0x7D ∷ []) 8
    ∷ falls 0 260 0 0 good after (3, 2, 1) ∷ falls 0 260 13 0 [] after (0, 0, 0) ∷ [])
    -- 256 bytes are a frame
    ∷ (brings longest 256 ∷ falls 0 260 2 1 (0x01 ∷ 0x87 ∷ 0x01 ∷ 0x82 ∷ 0x30 ∷ []) before (0, 0, 0) ∷ [])
    -- 257 and 300 are none, and the next frame is served
    ∷ (brings longest 256 ∷ brings (0x00 ∷ []) 257 ∷ falls 0 260 5 0 [] before (0, 0, 0) ∷ brings good 8 ∷ falls 0 260 0 0 good after (3, 2, 1) ∷ [])
    ∷ (brings (replicate 300 0x01) 257 ∷ falls 0 260 5 0 [] before (0, 0, 0) ∷ brings good 8 ∷ falls 0 260 0 0 good after (3, 2, 1) ∷ [])
    -- another transport; too little room; each empties the collector
    ∷ (brings good 8 ∷ falls 2 260 10 0 [] before (0, 0, 0) ∷ falls 0 260 13 0 [] before (0, 0, 0) ∷ [])
    ∷ (brings good 8 ∷ falls 0 259 9 0 [] before (0, 0, 0) ∷ falls 0 260 13 0 [] before (0, 0, 0) ∷ [])
    -- NothingHeld comes before all else
    ∷ (falls 9 0 13 0 [] before (0, 0, 0) ∷ [])
    ∷ []
