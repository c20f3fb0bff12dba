-- The customer's third demand, as a statement about a result of the driver.
-- Assumes nothing.
use Rattle.std.specs.Prelude.{◌⊎◌, ◌↔◌, ◌≡◌, ℕ, ◌+◌, ◌<◌, get_or}
use mathlib.Core.List.{List, [], ◌∷◌, Memᴰ}
use Rattle.modbus.specs.Table.{Tables, Tab, Range, Hits}
use Rattle.modbus.specs.Request.{Ask, fn_of, Permitted, Encodes, writing, given, seen, found, answer}
use Rattle.modbus.specs.Frame.{Framed, wrap}
use Rattle.modbus.specs.Setup.{Setup, proto}
use Rattle.modbus.specs.Unit.{Broadcast, Ours}
use Rattle.modbus.specs.Decode.{IsRead}
use Rattle.modbus.specs.Drive.{Inside, spelled, Result}
use Rattle.demands.specs.Order.{Refusal}

-- a request as a master sends it: what it asks, of which unit, and the transaction number (TCP)
pub record Request : Type 0 where
  pub tag : List ℕ
  pub unit : ℕ
  pub ask : Ask

-- its published encoding, within document 01's frame bounds, is that whole frame; pad bits may be any, and are no part of the request; under
-- lenient (document 02, 2026-06) an ASCII frame may have either case in each digit: in capitals it is the encoding
abbrev pub Encoded : Setup → Request → List ℕ → Type 0
Encoded s r f = (l : List ℕ) × Encodes r.ask l × Framed (proto s) r.tag (r.unit ∷ l) (spelled s f)

-- addressed to a broadcast number if it is a write, or else to our unit number where that is not a broadcast number
abbrev pub Addressed : Setup → Request → Type 0
Addressed s r = (Broadcast s r.unit × (¬ IsRead (fn_of r.ask))) ⊎ (Ours s r.unit × (¬ Broadcast s r.unit))

-- the frame is to be served as this request
pub record Serves (s : Setup) (f : List ℕ) (r : Request) : Type 0 where
  pub permitted : Permitted r.ask
  pub encoded : Encoded s r f
  pub inside : Inside s r.ask
  pub addressed : Addressed s r

-- the cells of the ranges hold the values, and all other cells keep theirs
pub record Stored (ranges : List Range) (vs : List ℕ) (t after : Tables) : Type 0 where
  pub holds : (r : Range) → Memᴰ r ranges → (j : ℕ) → j < r.count → after r.tab (r.first + j) ≡ get_or vs j 0
  pub keeps : (tab : Tab) (i : ℕ) → ((r : Range) → Memᴰ r ranges → ¬ Hits r tab i) → after tab i ≡ t tab i

pub record Demand3 (s : Setup) (t : Tables) (f : List ℕ) (r : Result) : Type 0 where
  -- it serves a frame exactly if a permitted request exists ..
  pub served : (r.outcome < 2) ↔ ((q : Request) × Serves s f q)
  -- any two such requests ask the same
  pub same : (p q : Request) → Serves s f p → Serves s f q → p ≡ q
  -- then the cells it writes hold its values, all other cells keep theirs
  pub written : (q : Request) → Serves s f q → Stored (writing q.ask) (given q.ask t) t r.after
  -- and the reply is that request's own answer, or none for a broadcast
  pub answered : (q : Request) → Serves s f q → ¬ Broadcast s q.unit
      → (r.outcome ≡ 0) × (r.exception_code ≡ 0) × (r.reply ≡ wrap (proto s) q.tag (q.unit ∷ answer q.ask (found q.ask (seen r.after))))
  pub silent : (q : Request) → Serves s f q → Broadcast s q.unit → (r.outcome ≡ 1) × (r.exception_code ≡ 0) × (r.reply ≡ [])
  -- the cells written are named: those of the request, and none where there is no request (document 02, 2026-07)
  pub named : (q : Request) → Serves s f q → r.changed ≡ writing q.ask
  pub nameless : ¬ ((q : Request) × Serves s f q) → r.changed ≡ []
  -- if none exists no cell changes, and the reply is 01's one exception, or nothing
  pub kept : ¬ ((q : Request) × Serves s f q) → (tab : Tab) (i : ℕ) → r.after tab i ≡ t tab i
  pub refused : ¬ ((q : Request) × Serves s f q) → Refusal s f r.outcome r.exception_code r.reply
