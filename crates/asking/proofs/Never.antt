-- A reply for another transaction, unit, function, byte count or echo is never shown as values.
-- Assumes nothing.
use mathlib.Core.Path.{◌≡◌, refl, sym, ap, ◌∙◌, subst}
use mathlib.Core.List.{List, [], ◌∷◌}
use Prim.Native.Nat.{ℕ}
use lib.ListN.{get_or}
use Rattle.modbus.specs.Step.{Step, go}
use Rattle.modbus.specs.Bytes.{Bytes}
use Rattle.modbus.specs.Request.{code, Ask, read, write, writes, masks, swaps, fn_of, octets, answer}
use Rattle.modbus.specs.Paper.{proto_of}
use Rattle.modbus.specs.Decode.{Message, unit_of, number_of, IsRead, unwrap}
use Rattle.modbus.proofs.FrameLaws.{complete}
use Rattle.demands.specs.Demand.{Request}
use Rattle.client.specs.Asking.{shows, shown_count, kind_shown, understood}
use Rattle.asking.specs.Belonging.{Says, Shows}
use Rattle.asking.proofs.Sent.{message_of, says_sent}
use Rattle.asking.proofs.OnlyMine.{only_mine, shows_function}

-- a frame says one request
pub says_same : (n : ℕ) (f : List ℕ) (p q : Request) → Says n f p → Says n f q → p ≡ q
says_same n f p q h k =
    let z : ◌≡◌ {A = Message × Ask} (message_of n f p h, p.ask) (message_of n f q k, q.ask) =
    go_same (sym (says_sent n f p h) ∙ says_sent n f q k) in
    ap (λ (x : Message × Ask). record { tag = x.0.tag; unit = unit_of x.0; ask = x.1 }) z
  where
    go_same : {F A : Type 0} {a b : A} → ◌≡◌ {A = Step F A} (go a) (go b) → a ≡ b
    go_same e = cc

-- values of cells are behind their byte count
count_shown : (a : Ask) (vs l : List ℕ) → IsRead (fn_of a) → Shows a vs l → get_or l 1 0 ≡ octets (kind_shown a) (shown_count a)
count_shown (read t s c) vs l i (counted, fits, (pad, fills, e)) = rw e refl
count_shown (write k a v) vs l i h = absurd i
count_shown (writes k s ws) vs l i h = absurd i
count_shown (masks a x y) vs l i h = absurd i
count_shown (swaps r c s ws) vs l i (counted, fits, (pad, fills, e)) = rw e refl

-- an answer to a write is its echo
echo_shown : (a : Ask) (vs l : List ℕ) → ¬ IsRead (fn_of a) → Shows a vs l → l ≡ answer a []
echo_shown (read t s c) vs l n h = absurd (n tt)
echo_shown (write k a v) vs l n h = h.1
echo_shown (writes k s ws) vs l n h = h.1
echo_shown (masks a x y) vs l n h = h.1
echo_shown (swaps r c s ws) vs l n h = absurd (n tt)

module _ (n : ℕ) (f r : List ℕ) (room : ℕ) (y : Bytes f) (z : Bytes r) (q : Request) (h : Says n f q) (m : Message) (w : unwrap (proto_of n) r ≡ go m)
    (vs : List ℕ) where
  -- what is shown is around an answer to this request
  around : understood n f r room ≡ go (shows vs) → (l : List ℕ) × Shows q.ask vs l × (m ≡ record { tag = q.tag; body = q.unit ∷ l })
  around e =
      let (p, k, fits, (l, s, framed)) = (only_mine n f r room y z vs).0 e in
      let g = says_same n f p q k h in
      let c = complete (proto_of n) p.tag (p.unit ∷ l) r framed in
      let v : ◌≡◌ {A = Message} m (record { tag = p.tag; body = p.unit ∷ l }) = cc in (
        l,
        subst (λ (x : Request). Shows x.ask vs l) g s,
        v ∙ ap (λ (x : Request). record { tag = x.tag; body = x.unit ∷ l }) g,
      )

  pub other_transaction : ¬ (m.tag ≡ q.tag) → ¬ (understood n f r room ≡ go (shows vs))
  other_transaction d e = d (ap (λ (x : Message). x.tag) (around e).2)

  pub other_unit : ¬ (unit_of m ≡ q.unit) → ¬ (understood n f r room ≡ go (shows vs))
  other_unit d e = d (ap unit_of (around e).2)

  pub other_function : ¬ (number_of m ≡ code (fn_of q.ask)) → ¬ (understood n f r room ≡ go (shows vs))
  other_function d e = let (l, s, v) = around e in d (ap number_of v ∙ shows_function q.ask vs l s)

  pub other_count : IsRead (fn_of q.ask) → ¬ (get_or m.body 2 0 ≡ octets (kind_shown q.ask) (shown_count q.ask))
      → ¬ (understood n f r room ≡ go (shows vs))
  other_count i d e = let (l, k, v) = around e in d (ap (λ (x : Message). get_or x.body 2 0) v ∙ count_shown q.ask vs l i k)

  pub other_echo : ¬ IsRead (fn_of q.ask) → ¬ (m.body ≡ q.unit ∷ answer q.ask []) → ¬ (understood n f r room ≡ go (shows vs))
  other_echo i d e =
      let (l, k, v) = around e in
      d (ap (λ (x : Message). x.body) v ∙ ap (λ (x : List ℕ). q.unit ∷ x) (echo_shown q.ask vs l i k))
