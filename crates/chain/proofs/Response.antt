-- What a response bears after each of the crate's additions to it: there is room, and the bytes follow those that
-- stood there.
-- Assumes nothing.
use mathlib.Core.Bool.{Bool, true, false}
use mathlib.Core.Path.{◌≡◌, refl, sym, ap, ◌∙◌}
use mathlib.Core.List.{List, [], ◌∷◌, ◌++◌}
use Prim.Native.Nat.{ℕ, ◌+◌, ◌≤◌}
use native.Mathlib.Omega.{arith}
use lib.ListN.{length, take, drop, length-append, length-take}
use lib.Seq.{sets, sets-eq, length-sets, take_at, take-take, length-take-le}
use Rattle.modbus.specs.Step.{Step, go, ◌>>=◌}
use Rattle.modbus.specs.Check.{lrc}
use Rattle.modbus.specs.Request.{exception}
use Rattle.modbus.specs.Frame.{wrap, tag_length}
use Rattle.modbus.specs.Decode.{crc_bytes}
use Rattle.modbus.specs.declared.ModbusProto.{ModbusProto}
use Rattle.modbus.specs.declared.ModbusProto.TheVariants.{Rtu, Ascii, TcpUdp}
use Rattle.modbus.proofs.StepLaws.{pass, follow}
use Rattle.response.proofs.BoundedLaws.{extended_fits}
use Rattle.outgoing.specs.Grow.{Response, response, Short, or_short, add, length_field, most_length, begun, head, echo, except, seal}
use Rattle.chain.specs.Chain.{Chained, chained_to, on_line, fullest, Gives, spoken}

-- the response bears these bytes, in a slice of n
pub record Bears (n : ℕ) (l : List ℕ) (r : Response) : Type 0 where
  pub long : r.len ≡ length l
  pub room : length r.out ≡ n
  pub front : take r.len r.out ≡ l

-- a step goes on with a response that bears these bytes
abbrev pub Grows : ℕ → List ℕ → Step Short Response → Type 0
Grows n l m = (r : Response) × (m ≡ go r) × Bears n l r

-- bytes behind those that stand
abbrev pub plus : List ℕ → Response → Response
plus d r = response (r.len + length d) (sets r.out r.len d)

module _ (n : ℕ) (l d : List ℕ) (fits : length l + length d ≤ n) (r : Response) (s : Bears n l r) where
  pub plus_bears : Bears n (l ++ d) (plus d r)
  plus_bears =
      let k : r.len + length d ≤ length r.out = omega (arith, s.long, s.room) in
      let z : length (l ++ d) ≡ r.len + length d = length-append l d ∙ omega (arith, s.long) in
      record {
        long = sym z;
        room = length-sets r.out r.len d ∙ s.room;
        front =
            ap (take (r.len + length d))
            (sets-eq d r.out r.len k ∙ ap (λ (x : List ℕ). x ++ d ++ drop (r.len + length d) r.out)
            s.front)
            ∙ take_at (l ++ d) _ (r.len + length d) z;
      }

  add_bears : Grows n (l ++ d) (add d r)
  unfolding or_short
  add_bears = (plus d r, ap (or_short r) (extended_fits r.out r.len d (omega (arith, s.long, s.room))), plus_bears)

-- cut to its first k bytes
pub cut_bears : (n : ℕ) (l : List ℕ) (r : Response) → Bears n l r → (k : ℕ) → k ≤ length l
    → Bears n (take k l) (response k r.out)
cut_bears n l r s k h =
    record {
      long = sym (length-take-le k l h);
      room = s.room;
      front = sym (take-take k r.len r.out (omega (arith, s.long))) ∙ ap (take k) s.front;
    }

-- ---- one step after the other

grows_by : {n : ℕ} {l : List ℕ} {m k : Step Short Response} → m ≡ k → Grows n l k → Grows n l m
grows_by e (r, f, s) = (r, e ∙ f, s)

grows_then : {n : ℕ} {l d : List ℕ} {m : Step Short Response} (f : Response → Step Short Response) → Grows n l m
    → ((r : Response) → Bears n l r → Grows n d (f r)) → Grows n d (m >>= f)
grows_then f (r, e, s) k = let (q, g, t) = k r s in (q, follow _ f e ∙ g, t)

-- ---- what each adds

-- how many bytes parse copies to the front, and how many the length field has
abbrev pub copied : ModbusProto → ℕ
copied Rtu = 0
copied Ascii = 0
copied TcpUdp = 4

abbrev pub field : ModbusProto → ℕ
field Rtu = 0
field Ascii = 0
field TcpUdp = 2

pub field_length : (p : ModbusProto) (k : ℕ) → length (length_field p k) ≡ field p
field_length Rtu k = refl
field_length Ascii k = refl
field_length TcpUdp k = refl

-- a slice for the longest response has room for both and a body
pub fullest_holds : (p : ModbusProto) → copied p + field p + 253 ≤ fullest p
fullest_holds Rtu = omega arith
fullest_holds Ascii = omega arith
fullest_holds TcpUdp = omega arith

most_length_law : (p : ModbusProto) → 253 ≤ most_length p
most_length_law Rtu = omega arith
most_length_law Ascii = omega arith
most_length_law TcpUdp = omega arith

pub take_short : (k : ℕ) (l : List ℕ) → length (take k l) ≤ k
take_short k l = simp length-take (omega arith)

module _ (n : ℕ) (l : List ℕ) (p : ModbusProto) (r : Response) (s : Bears n l r) where
  len_inside : length l ≤ n → r.len ≤ length r.out
  len_inside h = omega (arith, s.long, s.room)

  module _ (buf : List ℕ) (start : ℕ) (low : start ≤ 6) where
    begun_bears : (bytes k : ℕ) → start + k ≤ length buf → bytes ≤ 253 → k ≤ 6 → length l + field p + k ≤ n
        → Grows n (l ++ length_field p bytes ++ take k (drop start buf)) (begun p bytes buf start k r)
    unfolding begun
    begun_bears bytes k h few small room =
        let f = field_length p bytes in
        let t = take_short k (drop start buf) in
        let a = length-append l (length_field p bytes) in
        let m = most_length_law p in
        grows_by (pass _ _ _ (omega arith))
        (grows_then _ (add_bears n l _ (omega arith) r s) λ r₁ s₁.
        grows_by (pass _ _ _ (omega arith) ∙ pass _ _ _ h) (add_bears n _ _ (omega arith) r₁ s₁))

    pub head_bears : (bytes : ℕ) → start + 2 ≤ length buf → bytes ≤ 250 → length l + field p + 3 ≤ n
        → Grows n (l ++ length_field p (bytes + 3) ++ take 2 (drop start buf) ++ (bytes ∷ [])) (head p buf start bytes r)
    head_bears bytes h few room =
        let f = field_length p (bytes + 3) in
        let t = take_short 2 (drop start buf) in
        let a = length-append l (length_field p (bytes + 3)) in
        let b = length-append (l ++ length_field p (bytes + 3)) (take 2 (drop start buf)) in
        grows_then _ (begun_bears (bytes + 3) 2 h (omega arith) (omega arith) (omega arith)) λ r₁ s₁.
        grows_by (pass _ _ _ (omega arith)) (add_bears n _ _ (omega arith) r₁ s₁)

    pub echo_bears : start + 6 ≤ length buf → length l + field p + 6 ≤ n
        → Grows n (l ++ length_field p 6 ++ take 6 (drop start buf)) (echo p buf start r)
    echo_bears h room = begun_bears 6 6 h (omega arith) (omega arith) room

  pub except_bears : (unit function code : ℕ) → function ≤ 127 → length l + field p + 3 ≤ n
      → Grows n (l ++ (length_field p 3 ++ unit ∷ exception function code)) (except p unit function code r)
  unfolding except
  except_bears unit function code h room =
      let f = field_length p 3 in
      let a = length-append (length_field p 3) (unit ∷ exception function code) in
      grows_by (pass _ _ _ (len_inside (omega arith)) ∙ pass _ _ _ h) (add_bears n l _ (omega arith) r s)

-- ---- the whole reply: what stands before the body, the body from the unit on, the check of a serial line

-- what parse copies, and the length field
abbrev pub header : ModbusProto → List ℕ → List ℕ
header Rtu tag = []
header Ascii tag = []
header TcpUdp tag = tag ++ (0 ∷ 0 ∷ [])

abbrev pub closed : ModbusProto → List ℕ → List ℕ → List ℕ
closed Rtu tag body = body ++ crc_bytes body
closed Ascii tag body = body ++ (lrc body ∷ [])
closed TcpUdp tag body = wrap TcpUdp tag body

pub seal_bears : (n : ℕ) (p : ModbusProto) (tag body : List ℕ) (r : Response)
    → Bears n (header p tag ++ length_field p (length body) ++ body) r
    → length tag ≡ tag_length p → length body ≤ 253 → fullest p ≤ n → Grows n (closed p tag body) (seal p r)
unfolding seal
seal_bears n Rtu tag body r s t h room =
    grows_by (pass _ _ _ (omega (arith, s.long, s.room)) ∙ pass _ _ _ (omega (arith, s.long)))
    (rw s.front (add_bears n body (crc_bytes body) (omega arith) r s))
seal_bears n Ascii tag body r s t h room =
    grows_by (pass _ _ _ (omega (arith, s.long, s.room)) ∙ pass _ _ _ (omega (arith, s.long)))
    (rw s.front (add_bears n body (lrc body ∷ []) (omega arith) r s))
seal_bears n TcpUdp [] body r s t h room = absurd (omega arith)
seal_bears n TcpUdp (a ∷ []) body r s t h room = absurd (omega arith)
seal_bears n TcpUdp (a ∷ b ∷ c ∷ u) body r s t h room = absurd (omega arith)
seal_bears n TcpUdp (a ∷ b ∷ []) body r s t h room = (r, pass _ _ _ (omega (arith, s.long, s.room)), s)

-- and it is what goes on the line
pub closed_line : (p : ModbusProto) (tag : List ℕ) (u : ℕ) (pdu : List ℕ)
    → on_line p (closed p tag (u ∷ pdu)) ≡ wrap p tag (u ∷ pdu)
closed_line Rtu tag u pdu = refl
closed_line Ascii tag u pdu = refl
closed_line TcpUdp tag u pdu = refl

pub nothing_line : (p : ModbusProto) → on_line p [] ≡ []
nothing_line Rtu = refl
nothing_line Ascii = refl
nothing_line TcpUdp = refl

-- what goes on the line of a reply that is sent unless the request is a broadcast
pub spoken_line : (p : ModbusProto) (b : Bool) (tag : List ℕ) (u : ℕ) (pdu : List ℕ)
    → on_line p (spoken b (closed p tag (u ∷ pdu))) ≡ spoken b (wrap p tag (u ∷ pdu))
spoken_line p true tag u pdu = nothing_line p
spoken_line p false tag u pdu = closed_line p tag u pdu

-- what a chain gives that came to this end
pub gives : {p : ModbusProto} {c : Chained} {r f coils holdings : List ℕ} → c ≡ chained_to 0 r coils holdings
    → on_line p r ≡ f
    → Gives p c f coils holdings
gives {p} e q =
    record {
      done = ap (λ (x : Chained). x.kind) e;
      replied = ap (λ (x : Chained). on_line p x.reply) e ∙ q;
      coils_hold = ap (λ (x : Chained). x.coil_bytes) e;
      holdings_hold = ap (λ (x : Chained). x.holding_bytes) e;
    }
