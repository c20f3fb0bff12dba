-- A body that is judged, served and closed.
-- Assumes nothing.
use mathlib.Core.Bool.{Bool, true, false}
use mathlib.Core.Path.{◌≡◌, refl, ap, ◌∙◌}
use mathlib.Core.List.{List}
use Rattle.std.specs.Prelude.{Err}
use Prim.Native.Nat.{ℕ, ◌+◌, ◌≤◌, ◌<◌}
use native.Mathlib.Omega.{arith}
use lib.ListN.{length, get_or}
use lib.Seq.{length-sets}
use Rattle.modbus.specs.Step.{choose, ◌≟◌, ◌or?◌}
use Rattle.modbus.specs.Frame.{tag_of, start_of}
use Rattle.modbus.specs.Paper.{proto_of}
use Rattle.modbus.specs.Setup.{Setup, room_for}
use Rattle.modbus.specs.Unit.{listed?}
use Rattle.modbus.specs.declared.ModbusProto.{ModbusProto}
use Rattle.modbus.specs.declared.ModbusProto.TheVariants.{Rtu, Ascii, TcpUdp}
use Rattle.tables.specs.Lent.{Lent}
use Rattle.requests.specs.Judged.{on?, Verdict, judged}
use Rattle.requests.specs.declared.Refusal.TheVariants.{Foreign}
use Rattle.driver.specs.declared.Setup.{Setup as Numbers}
use Rattle.driver.specs.declared.Driven.{Driven}
use Rattle.driver.specs.Driven.{lent_in, Call, lending, setup_of, leaving}
use Rattle.driver.specs.Serving.{Counted, Sized, Ready, telling, result_by, serving, Laid, laying, laid, closing, handled}
use Rattle.driver.proofs.CloseLaws.{tag_length_law, closes}
use Rattle.driver.proofs.ReadyLaws.{brief}
use Rattle.driver.proofs.SettleLaws.{judged_ready, settles}

-- the longest body has room from its start on
pub start_room : (p : ModbusProto) (reply : List ℕ) → room_for p ≤ length reply → start_of p + 253 ≤ length reply
start_room Rtu reply h = omega arith
start_room Ascii reply h = omega arith
start_room TcpUdp reply h = omega arith

-- what was found of the body: its bytes, whether its unit is listed, the verdict
module _ (n : Numbers) (list c d h i f reply b : List ℕ) (y : (k : ℕ) → get_or b k 0 < 256) (two : 2 ≤ length b) (sized : Sized (lent_in n c d h i))
    (x : Bool) (e : x ≡ choose (listed? (get_or b 0 0) list) true false)
    (v : Verdict) (j : (s : Setup) → Counted s n → v ≡ choose (on? x or? (get_or b 0 0 ≟ n.unit)) (judged s x b) (Err Foreign)) where
  abbrev lent : Call
  lent = lending n list c d h i f reply

  abbrev l : Lent
  l = lent.tables

  abbrev p : ModbusProto
  p = proto_of n.transport

  judges : v ≡ choose (on? x or? (get_or b 0 0 ≟ n.unit)) (judged (setup_of lent) x b) (Err Foreign)
  judges = j (setup_of lent) (refl, refl, refl, refl)

  pub body_ready : Ready l b v
  body_ready = judged_ready lent b b y sized x e v judges two

  -- and of what was served: the length of the reply's body, the reply, the coils and the holdings
  module _ (start : ℕ) (z : start ≡ start_of p) (m : ℕ) (o c' h' : List ℕ) (g : laying m o c' h' ≡ laid start reply (serving l x b v)) where
    pub served_brief : m ≤ 253
    served_brief = rw (ap (λ (t : Laid). t.body_length) g) (brief l x b v body_ready)

    pub served_room : room_for p ≤ length reply → room_for p ≤ length o
    served_room k = rw (ap (λ (t : Laid). t.reply_bytes) g, length-sets) k

    pub closed_handled : (high low : ℕ) → room_for p ≤ length reply → (n' : ℕ) (w : List ℕ)
        → ◌≡◌ {A = ℕ × List ℕ} (n', w) (closing p (tag_of p high low) o m) → (r : Driven) → r ≡ result_by (telling x v) n'
        → leaving r w c' h' ≡ handled lent (tag_of p high low) b
    closed_handled high low room n' w e' r k =
        closes p (tag_of p high low) reply (tag_length_law p high low) room (serving l x b v) (brief l x b v body_ready) m o c' h' (rw z at g) n' w e' (telling x v) r k
        ∙ settles lent (tag_of p high low) b y sized x e v judges
