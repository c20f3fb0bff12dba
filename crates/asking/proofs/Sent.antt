-- The request that a frame says is the one whose encoding it is, and no other.
-- Assumes nothing.
use mathlib.Core.Path.{◌≡◌, sym, ap, ◌∙◌, subst}
use mathlib.Core.List.{List, ◌∷◌}
use Prim.Native.Nat.{ℕ, ◌≤◌}
use native.Mathlib.Omega.{arith}
use lib.ListN.{drop}
use Rattle.modbus.specs.Step.{Step, stop, go}
use Rattle.modbus.specs.Bytes.{Bytes}
use Rattle.modbus.specs.Request.{code, Ask, fn_of}
use Rattle.modbus.specs.Paper.{proto_of}
use Rattle.modbus.specs.Frame.{Framed}
use Rattle.modbus.specs.Decode.{Message, unit_of, number_of, asked}
use Rattle.modbus.specs.Drive.{Inside}
use Rattle.modbus.proofs.StepLaws.{follow, bound}
use Rattle.modbus.proofs.WeighLaws.{weigh_goes, went}
use Rattle.modbus.proofs.RequestLaws.{asked_says, says_heard}
use Rattle.modbus.proofs.FrameLaws.{sound, complete}
use Rattle.demands.specs.Demand.{Request}
use Rattle.client.specs.Asking.{or_bad_request, every_cell, sent_as}
use Rattle.client.proofs.BuildLaws.{or_go}
use Rattle.asking.specs.Belonging.{Says}

abbrev pub requested : Message → Ask → Request
requested m a = record { tag = m.tag; unit = unit_of m; ask = a }

bad_went : {F A : Type 0} (s : Step F A) {a : A} → or_bad_request s ≡ go a → s ≡ go a
unfolding or_bad_request
bad_went (stop x) e = let z : ◌≡◌ {A = ℕ} 0 1 = cc in absurd (omega arith)
bad_went (go b) {a} e = let z : b ≡ a = cc in ap go z

module _ (n : ℕ) (f : List ℕ) (h : n ≤ 2) where
  -- what was read as a request is one
  pub sent_says : Bytes f → (m : Message) (a : Ask) → sent_as n f ≡ go (m, a) → Says n f (requested m a)
  unfolding sent_as
  sent_says y m a e =
      bound _ _ e λ m' unwrapped e₁.
      bound _ _ e₁ λ a' weighs e₂.
      went _ _ (every_cell n) _ m'.body weighs λ fn called heeded lengthy valued inside asks.
      let framed = sound (proto_of n) f m' y (bad_went _ unwrapped) in
      let says = asked_says fn m'.body framed.bytes called lengthy valued in
      let z : ◌≡◌ {A = Message × Ask} (m', asked fn m'.body) (m, a) = cc in
      subst (λ (x : Message × Ask). Says n f (requested x.0 x.1)) z
      (record {
        transport = h;
        permitted = says.permitted;
        inside = subst (Inside (every_cell n)) (sym asks) inside;
        encoded = (drop 1 m'.body, says.encodes, subst (λ (b : List ℕ). Framed (proto_of n) m'.tag b f) says.headed framed);
      })

-- and every request that a frame is the encoding of is read
abbrev pub message_of : (n : ℕ) (f : List ℕ) (q : Request) → Says n f q → Message
message_of n f q h = record { tag = q.tag; body = q.unit ∷ h.encoded.0 }

pub says_sent : (n : ℕ) (f : List ℕ) (q : Request) (h : Says n f q) → sent_as n f ≡ go (message_of n f q h, q.ask)
unfolding sent_as
says_sent n f q h =
    let (l, encodes, framed) = h.encoded in
    let k = says_heard q.ask q.unit l h.permitted encodes in
    let m = message_of n f q h in
    follow _ _ (or_go _ (complete (proto_of n) q.tag (q.unit ∷ l) f framed))
    ∙ follow _ _ (weigh_goes _ _ (every_cell n) _ m.body (fn_of q.ask) k.number (λ b. b.0) k.lengthy k.valued
    (subst (Inside (every_cell n)) (sym k.asks) h.inside))
    ∙ ap (λ (x : Ask). go (m, x)) k.asks

-- the number that stands in its body
pub says_number : (n : ℕ) (f : List ℕ) (q : Request) (h : Says n f q) → number_of (message_of n f q h) ≡ code (fn_of q.ask)
says_number n f q h =
    let (l, encodes, framed) = h.encoded in
    (says_heard q.ask q.unit l h.permitted encodes).number
