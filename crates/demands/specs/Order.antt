-- Document 01's order of refusals, as conditions of the frame and the setup: each outcome from 2 to 10 with its code and its reply, exactly when
-- it is given. A condition speaks of the published shapes, lengths and encodings, never of how the driver finds out. Under lenient they are those of
-- the frame in capitals.
-- Assumes nothing.
use Rattle.std.specs.Prelude.{◌⊎◌, ◌≢◌, ◌≡◌, List, [], ◌∷◌, ℕ, ◌+◌, ◌≤◌, length, drop, get_or}
use Rattle.modbus.specs.Bytes.{Bytes, word_at}
use Rattle.modbus.specs.Request.{Fn, code, Ask, fn_of, Permitted, Encodes, exception}
use Rattle.modbus.specs.Frame.{line, wrap, Framed}
use Rattle.modbus.specs.Setup.{Setup, proto, Valid, Roomy}
use Rattle.modbus.specs.Unit.{Broadcast, Ours}
use Rattle.modbus.specs.Decode.{Message, unit_of, number_of, IsRead, Lengthy}
use Rattle.modbus.specs.Drive.{Inside, spelled}
use Rattle.modbus.specs.declared.ModbusProto.{ModbusProto}
use Rattle.modbus.specs.declared.ModbusProto.TheVariants.{Rtu, Ascii, TcpUdp}

-- the shape of a frame, whatever its check
abbrev pub Shaped : ModbusProto → List ℕ → Type 0
Shaped Rtu f = (4 ≤ length f) × (length f ≤ 256)
Shaped Ascii f = (l : List ℕ) × Bytes l × (3 ≤ length l) × (length l ≤ 254) × (f ≡ line l)
Shaped TcpUdp f = (8 ≤ length f) × (length f ≤ 260) × (get_or f 2 0 ≡ 0) × (get_or f 3 0 ≡ 0) × (word_at f 4 + 6 ≡ length f)

-- the frame holds this message, under a valid setup with reply room
pub record Sent (s : Setup) (f : List ℕ) (m : Message) : Type 0 where
  pub valid : Valid s
  pub roomy : Roomy s
  pub framed : Framed (proto s) m.tag m.body (spelled s f)

-- it is for us or for all, and its function has this number
pub record Known (s : Setup) (f : List ℕ) (m : Message) (fn : Fn) : Type 0 where
  pub sent : Sent s f m
  pub reached : Broadcast s (unit_of m) ⊎ Ours s (unit_of m)
  pub called : number_of m ≡ code fn
  pub heeded : ¬ (Broadcast s (unit_of m) × IsRead fn)

-- behind the unit stands the published encoding of this request, which is permitted
pub record Asks (m : Message) (a : Ask) : Type 0 where
  pub permitted : Permitted a
  pub encoded : Encodes a (drop 1 m.body)

-- a fault with a code: an exception from our own unit, and BroadcastIgnored without a reply on a broadcast number
pub data Coded (s : Setup) (m : Message) : ℕ → ℕ → List ℕ → Type 0 where
  exception_sent : (c : ℕ) → ¬ Broadcast s (unit_of m) → Coded s m 2 c (wrap (proto s) m.tag (unit_of m ∷ exception (number_of m) c))
  ignored : (c : ℕ) → Broadcast s (unit_of m) → Coded s m 3 c []

-- outcome, code and reply of a refusal
pub data Refusal (s : Setup) (f : List ℕ) : ℕ → ℕ → List ℕ → Type 0 where
  bad_setup : ¬ Valid s → Refusal s f 10 0 []
  no_room : Valid s → ¬ Roomy s → Refusal s f 9 0 []
  frame_broken : Valid s → Roomy s → ¬ Shaped (proto s) (spelled s f) → Refusal s f 5 0 []
  frame_check : Valid s → Roomy s → Shaped (proto s) (spelled s f) → ((tag body : List ℕ) → ¬ Framed (proto s) tag body (spelled s f)) → Refusal s f 6 0 []
  foreign : (m : Message) → Sent s f m → ¬ Broadcast s (unit_of m) → ¬ Ours s (unit_of m) → Refusal s f 4 0 []
  bad_function : (m : Message) → Sent s f m → Broadcast s (unit_of m) ⊎ Ours s (unit_of m) → 128 ≤ number_of m → Refusal s f 8 0 []
  no_function : (m : Message) → Sent s f m → Broadcast s (unit_of m) ⊎ Ours s (unit_of m) → number_of m ≤ 127
      → ((fn : Fn) → number_of m ≢ code fn) → {o : ℕ} {r : List ℕ} → Coded s m o 1 r → Refusal s f o 1 r
  read_ignored : (m : Message) (fn : Fn) → Sent s f m → Broadcast s (unit_of m) → number_of m ≡ code fn → IsRead fn → Refusal s f 3 0 []
  wrong_length : (m : Message) (fn : Fn) → Known s f m fn → ¬ Lengthy fn m.body → Refusal s f 7 0 []
  -- value: a body of that function and its length, and no permitted request has it for its encoding
  bad_value : (m : Message) (fn : Fn) → Known s f m fn → Lengthy fn m.body → ((a : Ask) → ¬ Asks m a)
      → {o : ℕ} {r : List ℕ} → Coded s m o 3 r → Refusal s f o 3 r
  -- address: a permitted request, whose cells are not all inside the table
  bad_address : (m : Message) (a : Ask) → Known s f m (fn_of a) → Asks m a → ¬ Inside s a
      → {o : ℕ} {r : List ℕ} → Coded s m o 2 r → Refusal s f o 2 r
