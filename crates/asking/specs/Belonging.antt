-- What the asking side promises, in words that know nothing of how a reply is read: the request that a frame is the encoding of, and the
-- frames that answer it.
-- Assumes nothing.
use Rattle.std.specs.Prelude.{◌≡◌, List, [], ◌∷◌, ℕ, ◌≤◌, length}
use Rattle.modbus.specs.Bytes.{All}
use Rattle.modbus.specs.Table.{Kind, word, kind_of, Fits}
use Rattle.modbus.specs.Request.{reads, both, code, Ask, read, write, writes, masks, swaps, fn_of, Permitted, cargo, octets, Fills, Encodes, answer, exception}
use Rattle.modbus.specs.Paper.{proto_of}
use Rattle.modbus.specs.Frame.{Framed}
use Rattle.modbus.specs.Drive.{Inside}
use Rattle.demands.specs.Demand.{Request}
use Rattle.client.specs.declared.ModbusRequest.{ModbusRequest}
use Rattle.client.specs.Asking.{every_cell, tag_to}

-- the frame is, within document 01's bounds, the published encoding of a request that may be asked, on ASCII in capitals
pub record Says (n : ℕ) (f : List ℕ) (q : Request) : Type 0 where
  pub transport : n ≤ 2
  pub permitted : Permitted q.ask
  pub inside : Inside (every_cell n) q.ask
  pub encoded : (l : List ℕ) × Encodes q.ask l × Framed (proto_of n) q.tag (q.unit ∷ l) f

-- n values behind a function and their byte count, with any pad bits
abbrev pub Carries : Kind → ℕ → ℕ → List ℕ → List ℕ → Type 0
Carries k function n vs l =
    (length vs ≡ n) × All (Fits k) vs × ((pad : List ℕ) × Fills k vs pad × (l ≡ function ∷ octets k n ∷ cargo k vs pad))

-- an answer to it that shows these values
abbrev pub Shows : Ask → List ℕ → List ℕ → Type 0
Shows (read t s n) vs l = Carries (kind_of t) (code (reads t)) n vs l
Shows (write k a v) vs l = (vs ≡ []) × (l ≡ answer (write k a v) [])
Shows (writes k s ws) vs l = (vs ≡ []) × (l ≡ answer (writes k s ws) [])
Shows (masks a x y) vs l = (vs ≡ []) × (l ≡ answer (masks a x y) [])
Shows (swaps r n s ws) vs l = Carries word (code both) n vs l

-- a frame, within the bounds, of the same transaction and unit around an answer with these values
abbrev pub Answering : ℕ → Request → List ℕ → List ℕ → Type 0
Answering n q vs r = (l : List ℕ) × Shows q.ask vs l × Framed (proto_of n) q.tag (q.unit ∷ l) r

-- or around an exception to it, of a code from 1 on
abbrev pub Excepting : ℕ → Request → ℕ → List ℕ → Type 0
Excepting n q c r = (1 ≤ c) × Framed (proto_of n) q.tag (q.unit ∷ exception (code (fn_of q.ask)) c) r

-- the request that is built for somebody
abbrev pub request_to : ModbusRequest → Ask → Request
request_to to a = record { tag = tag_to to; unit = to.unit_id; ask = a }
