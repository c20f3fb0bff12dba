-- The faults of value and address, which document 01's order states by encodings, are those that the driver reads off the places of a body.
-- Assumes nothing.
use mathlib.Core.Logic.{◌↔◌}
use mathlib.Core.Path.{◌≡◌, refl, sym, ◌∙◌, subst}
use mathlib.Core.List.{List}
use Prim.Native.Nat.{ℕ, ◌≤◌}
use native.Mathlib.Omega.{arith}
use lib.ListN.{length}
use Rattle.modbus.specs.Request.{Fn, code, Ask, fn_of}
use Rattle.modbus.specs.Frame.{least}
use Rattle.modbus.specs.Setup.{Setup, proto}
use Rattle.modbus.specs.Decode.{Message, unit_of, Lengthy, Valued, asked}
use Rattle.modbus.specs.Drive.{Inside}
use Rattle.modbus.specs.declared.ModbusProto.{ModbusProto}
use Rattle.modbus.specs.declared.ModbusProto.TheVariants.{Rtu, Ascii, TcpUdp}
use Rattle.modbus.proofs.Views.{headed}
use Rattle.modbus.proofs.RequestLaws.{asked_says, Heard, says_heard}
use Rattle.modbus.proofs.FindLaws.{find_fn}
use Rattle.demands.specs.Order.{Sent, Known, Asks}

-- no two functions share a number
one_code : (fn fn' : Fn) → code fn ≡ code fn' → fn ≡ fn'
one_code fn fn' e =
    let p = find_fn {F = ℕ} 0 (code fn) Rtu fn refl in
    let q = find_fn {F = ℕ} 0 (code fn) Rtu fn' e in
    cc

least_one : (p : ModbusProto) → 1 ≤ least p
least_one Rtu = omega arith
least_one Ascii = omega arith
least_one TcpUdp = omega arith

module _ (s : Setup) (f : List ℕ) (m : Message) where
  -- a request that stands in a body is read back from it
  pub asks_heard : (a : Ask) → Sent s f m → Asks m a → Heard a m.body
  asks_heard a h q =
      let low : 1 ≤ length m.body = omega (arith, least_one (proto s), h.framed.low) in
      subst (Heard a) (sym (headed m.body low)) (says_heard a (unit_of m) _ q.permitted q.encoded)

  module _ (fn : Fn) (h : Known s f m fn) where
    -- and is one of that function
    heard_fn : (a : Ask) → Asks m a → fn_of a ≡ fn
    heard_fn a q = one_code (fn_of a) fn (sym (asks_heard a h.sent q).number ∙ h.called)

    pub places_ask : Lengthy fn m.body → Valued fn m.body → Asks m (asked fn m.body)
    places_ask l v =
        let w = asked_says fn m.body h.sent.framed.bytes h.called l v in
        record { permitted = w.permitted; encoded = w.encodes }

    asks_valued : (a : Ask) → Asks m a → Valued fn m.body
    asks_valued a q = subst (λ g. Valued g m.body) (heard_fn a q) (asks_heard a h.sent q).valued

    asks_asked : (a : Ask) → Asks m a → asked fn m.body ≡ a
    asks_asked a q = subst (λ g. asked g m.body ≡ a) (heard_fn a q) (asks_heard a h.sent q).asks

    -- no permitted request has the body for its encoding exactly where the count, value or byte count at its place is against the value rules
    pub value_by_places : Lengthy fn m.body → ((a : Ask) → ¬ Asks m a) ↔ (¬ Valued fn m.body)
    value_by_places l = (λ none v. none _ (places_ask l v), λ n a q. n (asks_valued a q))

    -- one has it, with a cell outside the table, exactly where the values are by the rules and the cells at their places are not all inside
    pub address_by_places : Lengthy fn m.body
        → ((a : Ask) × Asks m a × (¬ Inside s a)) ↔ (Valued fn m.body × (¬ Inside s (asked fn m.body)))
    address_by_places l = (
      λ (a, q, out). (asks_valued a q, λ i. out (subst (Inside s) (asks_asked a q) i)),
      λ (v, out). (asked fn m.body, places_ask l v, out),
    )
