-- An RTU frame collected from bytes as the UART brings them (document 02, request 2026-04): bytes are offered, and a quiet line closes the
-- frame and serves it. The collector is 259 lent bytes: how many are held, in two bytes, high first, and then the bytes held, up to 257 of
-- them. So all zero is an empty one. An RTU frame has 256 bytes at most: the 257th is kept, since it makes the frame broken, and none after it.
-- Assumes nothing.
use Rattle.std.specs.Prelude.{List, [], ◌∷◌, ◌++◌, Option, None, Some, ℕ, length, take, drop}
use Rattle.std.proofs.lemmas.List.Edits.{sets}
use Rattle.modbus.specs.Step.{Step, go, ◌>>◌, need, choose, ◌≤?◌, ◌≟◌, ◌and?◌}
use Rattle.modbus.specs.Bytes.{two, word_at}
use Rattle.modbus.specs.declared.ErrorKind.{ErrorKind}
use Rattle.modbus.specs.declared.ErrorKind.TheVariants.{OOB}
use Rattle.driver.specs.declared.Driven.{Driven}
use Rattle.driver.specs.Driven.{Call, framing, resulting, Leaves, leaving, called}

-- the bytes held; a slice too short, or a count that no call leaves, holds nothing
unfoldable pub held_in : List ℕ → List ℕ
held_in s = choose ((259 ≤? length s) and? (word_at s 0 ≤? 257)) (take (word_at s 0) (drop 2 s)) []

-- a collector that holds these bytes
abbrev pub holding : List ℕ → List ℕ → List ℕ
holding s l = sets s 0 (two (length l) ++ l)

-- bytes are offered: how many are held then, and the collector
unfoldable pub offered : List ℕ → List ℕ → Step ErrorKind (ℕ × List ℕ)
offered s b = do
  need (259 ≤? length s) OOB
  go (length (take 257 (held_in s ++ b)), holding s (take 257 (held_in s ++ b)))

-- groups of bytes, all in a row
abbrev pub joined : List (List ℕ) → List ℕ
joined [] = []
joined (b ∷ gs) = b ++ joined gs

-- ---- the quiet signal

abbrev pub emptied : List ℕ → List ℕ
emptied s = holding s []

-- no byte is changed and no reply sent
abbrev pub refusing : ℕ → Call → Leaves
refusing o l = leaving (resulting o 0 0 []) l.reply l.tables.coil_bytes l.tables.holding_bytes

-- a whole frame: the driver's call on transport 0, and BadSetup on any other
unfoldable pub rtu_called : Call → Leaves
rtu_called l = choose (l.numbers.transport ≟ 0) (called l) (refusing 10 l)

-- what a quiet signal leaves: whether a frame was closed and what became of it, the reply buffer, the coils, the holdings, the collector
pub record Quieted : Type 0 where
  pub closed : Option Driven
  pub reply_bytes : List ℕ
  pub coil_bytes : List ℕ
  pub holding_bytes : List ℕ
  pub collector : List ℕ

abbrev pub quieting : Option Driven → List ℕ → List ℕ → List ℕ → List ℕ → Quieted
quieting r o c h s = record { closed = r; reply_bytes = o; coil_bytes = c; holding_bytes = h; collector = s }

-- a frame was closed, and every outcome empties the collector
abbrev pub served : List ℕ → Leaves → Quieted
served s g = quieting (Some g.result) g.reply_bytes g.coil_bytes g.holding_bytes (emptied s)

-- with nothing held it does nothing
abbrev pub closing : List ℕ → Call → List ℕ → Quieted
closing s l [] = quieting None l.reply l.tables.coil_bytes l.tables.holding_bytes s
closing s l (b ∷ f) = served s (rtu_called (framing l (b ∷ f)))

-- the collector, and what is lent beside it: its frame is what the collector holds
abbrev pub quieted : List ℕ → Call → Quieted
quieted s l = closing s l (held_in s)

-- ---- in numbers: NothingHeld is outcome 13, after document 01's

abbrev pub closed_paper : Option Driven → Driven
closed_paper None = resulting 13 0 0 []
closed_paper (Some d) = d

abbrev pub left_by : Quieted → Leaves × List ℕ
left_by q = (leaving (closed_paper q.closed) q.reply_bytes q.coil_bytes q.holding_bytes, q.collector)
