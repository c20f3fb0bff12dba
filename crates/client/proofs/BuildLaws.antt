-- A request's body says the request exactly if that may be asked: so the verdict on the body decides what is built.
-- Assumes nothing.
use mathlib.Core.Bool.{false}
use Rattle.std.specs.Prelude.{is_err}
use mathlib.Core.Logic.{⊎_elim, by_cases}
use mathlib.Core.Path.{◌≡◌, refl, sym, ap, ap₂, ◌∙◌, subst}
use mathlib.Core.List.{List, ◌∷◌, ◌++◌}
use Prim.Native.Nat.{ℕ, ◌+◌, ◌-◌, ◌*◌, ◌/◌, ◌%◌, ◌≤◌, ◌<◌}
use native.Mathlib.Omega.{arith}
use native.Mathlib.Nat.{div-add-mod'}
use Rattle.std.specs.Int.{w16, to_be_bytes}
use lib.ListN.{length, get_or, length-replicate}
use Rattle.modbus.specs.Step.{Step, stop, go, ◌≤?◌}
use Rattle.modbus.specs.Bytes.{All, two}
use Rattle.modbus.specs.Table.{Kind, bit, word, Fits}
use Rattle.modbus.specs.Request.{Fn, reads, one, many, mask, both, code, Ask, read, write, writes, masks, swaps, fn_of, most_written, Permitted, octets, Pads, pdu, shown}
use Rattle.modbus.specs.Paper.{proto_of}
use Rattle.modbus.specs.Setup.{Setup}
use Rattle.modbus.specs.Decode.{Valued, asked}
use Rattle.modbus.specs.Drive.{Inside, inside?}
use Rattle.modbus.proofs.StepLaws.{pass, fail, follow, halt}
use Rattle.modbus.proofs.FindLaws.{find_fn, found_fn, found_fault}
use Rattle.modbus.proofs.WeighLaws.{weigh_goes, went}
use Rattle.modbus.proofs.RequestLaws.{says_heard}
use Rattle.requests.specs.Judged.{Verdict, weighed, judged, kept_by, verdict_paper}
use Rattle.requests.specs.declared.Refusal.{Refusal}
use Rattle.requests.proofs.Unique.{verdict_paper_law}
use Rattle.client.specs.declared.ModbusRequest.{ModbusRequest}
use Rattle.client.specs.Asking.{Declined, bad_request, or_bad_request, permitted?, every_cell, function_of, read_by, write_by, getting, padding, body_to, generated}
use Rattle.client.specs.Hearing.{failed, body_sent, many_body, both_body}
use Rattle.client.proofs.LayLaws.{zero_bits}
use Rattle.client.proofs.FunctionLaws.{by_step, one_value, other_values, many_values}

-- ---- functions have different numbers

pub same_code : (fn g : Fn) → code fn ≡ code g → fn ≡ g
same_code fn g e =
    let p = find_fn bad_request (code fn) (proto_of 0) fn refl in
    let q = find_fn bad_request (code fn) (proto_of 0) g e in
    let z : go fn ≡ go g = sym p ∙ q in
    let y : fn ≡ g = cc in y

-- ---- pad bits

pub pads : (a : Ask) → Pads a (padding a)
pads (read t s n) = refl
pads (write k a v) = refl
pads (writes bit s vs) = (zero_bits (8 * octets bit (length vs) - length vs), simp length-replicate (omega arith))
pads (writes word s vs) = refl
pads (masks a x y) = refl
pads (swaps r n s vs) = refl

-- ---- a body that says what may be asked

module _ (n u : ℕ) (a : Ask) (pad : List ℕ) (fills : Pads a pad) where
  abbrev body : List ℕ
  body = u ∷ pdu a pad

  pub weighed_goes : Permitted a → Inside (every_cell n) a → weighed (every_cell n) false body ≡ go a
  weighed_goes p i =
      let h = says_heard a u (pdu a pad) p (pad, fills, refl) in
      weigh_goes _ _ (every_cell n) _ body (fn_of a) h.number (λ q. q.0) h.lengthy h.valued (subst (Inside (every_cell n)) (sym h.asks) i)
      ∙ ap go h.asks

-- the values fit their bytes
abbrev pub Sized : Ask → Type 0
Sized (read t s n) = Unit {0}
Sized (write bit a v) = Unit {0}
Sized (write word a v) = v < 65536
Sized (writes k s vs) = All (Fits k) vs
Sized (masks a x y) = Fits word x × Fits word y
Sized (swaps r n s vs) = All (Fits word) vs

word_two : (n : ℕ) → n / 256 * 256 + n % 256 ≡ n
word_two n = div-add-mod' n 256

pub code_at : (a : Ask) (u : ℕ) (pad : List ℕ) → get_or (u ∷ pdu a pad) 1 0 ≡ code (fn_of a)
code_at (read t s n) u pad = refl
code_at (write k a v) u pad = refl
code_at (writes k s vs) u pad = refl
code_at (masks a x y) u pad = refl
code_at (swaps r n s vs) u pad = refl

valued_permitted : (a : Ask) (u : ℕ) (pad : List ℕ) → Sized a → Valued (fn_of a) (u ∷ pdu a pad) → Permitted a
valued_permitted (read t s n) u pad z v = rw word_two at v
valued_permitted (write bit a v) u pad z h =
    ⊎_elim {C = v ≤ 1} (λ e. omega arith) (λ e. omega arith) (rw word_two at h)
valued_permitted (write word a v) u pad z h = z
valued_permitted (writes k s vs) u pad z h = (rw word_two at h.0, rw word_two at h.1.0, z)
valued_permitted (masks a x y) u pad z h = z
valued_permitted (swaps r n s vs) u pad z h =
    (rw word_two at h.0.0, rw word_two at h.0.1, rw word_two at h.1.0, rw word_two at h.1.1.0, z)

module _ (n u : ℕ) (a : Ask) (pad : List ℕ) (fills : Pads a pad) (sized : Sized a) where
  -- what it then asks is permitted and inside
  pub weighed_back : {b : Ask} → weighed (every_cell n) false (u ∷ pdu a pad) ≡ go b → Permitted a × Inside (every_cell n) a
  weighed_back {b} e =
      went _ _ (every_cell n) _ (u ∷ pdu a pad) e λ fn c o l v i q.
      let f : fn ≡ fn_of a = same_code fn (fn_of a) (sym c ∙ code_at a u pad) in
      let p = valued_permitted a u pad sized (subst (λ g. Valued g (u ∷ pdu a pad)) f v) in
      let h = says_heard a u (pdu a pad) p (pad, fills, refl) in
      let r : b ≡ a = sym q ∙ ap (λ g. asked g (u ∷ pdu a pad)) f ∙ h.asks in
      (p, subst (Inside (every_cell n)) r i)

-- ---- so it decides what is built

pub or_go : {F A : Type 0} (s : Step F A) {a : A} → s ≡ go a → or_bad_request s ≡ go a
unfolding or_bad_request
or_go s e = rw e

pub or_stop : {F A : Type 0} (s : Step F A) {x : F} → s ≡ stop x → or_bad_request s ≡ stop bad_request
unfolding or_bad_request
or_stop s e = rw e

module _ (to : ModbusRequest) (a : Ask) (room : ℕ) (sized : Sized a) where
  abbrev weight : Step Refusal Ask
  weight = weighed (every_cell to.proto) false (body_to to a)

  refuses : to.proto ≤ 2 → ¬ (Permitted a × Inside (every_cell to.proto) a) → body_sent to (body_to to a) room ≡ stop bad_request
  refuses h n =
      pass _ _ _ h
      ∙ by_step weight
      (λ b e. absurd (n (weighed_back to.proto to.unit_id a (padding a) (pads a) sized e)))
      (λ x e. halt _ _ (or_stop weight e))

  pub generated_body : generated to (go a) room ≡ body_sent to (body_to to a) room
  unfolding generated
  generated_body =
      by_cases (to.proto ≤? 2)
      (λ h. by_cases (permitted? a)
      (λ p. by_cases (inside? (every_cell to.proto) a)
      (λ i.
      pass _ _ _ h ∙ follow _ _ refl ∙ pass _ _ _ p ∙ pass _ _ _ i
      ∙ sym (pass _ _ _ h ∙ follow _ _ (or_go weight (weighed_goes to.proto to.unit_id a (padding a) (pads a) p i))))
      (λ i. pass _ _ _ h ∙ follow _ _ refl ∙ pass _ _ _ p ∙ fail _ _ _ i ∙ sym (refuses h (λ q. i q.1))))
      (λ p. pass _ _ _ h ∙ follow _ _ refl ∙ fail _ _ _ p ∙ sym (refuses h (λ q. p q.0))))
      (λ h. fail _ _ _ h ∙ sym (fail _ _ _ h))

-- what may not be asked is not built
module _ (to : ModbusRequest) (wanted : Step Declined Ask) (room : ℕ) where
  pub generated_none : wanted ≡ stop bad_request → generated to wanted room ≡ stop bad_request
  unfolding generated
  generated_none e =
      by_cases (to.proto ≤? 2) (λ h. pass _ _ _ h ∙ halt _ _ e) (λ h. fail _ _ _ h)

  pub generated_not : (a : Ask) → wanted ≡ go a → ¬ Permitted a → generated to wanted room ≡ stop bad_request
  unfolding generated
  generated_not a e n =
      by_cases (to.proto ≤? 2) (λ h. pass _ _ _ h ∙ follow _ _ e ∙ fail _ _ _ n) (λ h. fail _ _ _ h)

-- ---- the verdict on a body

kept_fails : (w : Step Refusal Ask) → is_err (kept_by w) ≡ failed w
kept_fails (stop r) = refl
kept_fails (go a) = refl

pub verdict_fails : (s : Setup) (b : List ℕ) (v : Verdict) → verdict_paper v ≡ verdict_paper (judged s false b) → is_err v ≡ failed (weighed s false b)
unfolding judged
verdict_fails s b v e = ap is_err (verdict_paper_law _ _ e) ∙ kept_fails (weighed s false b)

-- what `to_be_bytes` makes of a 16-bit number
pub two_bytes : (x : ℕ) (l : List ℕ) → x < 65536 → l ≡ to_be_bytes w16 x → (get_or l 0 0 ≡ x / 256) × (get_or l 1 0 ≡ x % 256)
two_bytes x l h e = (ap (λ (m : List ℕ). get_or m 0 0) e ∙ omega arith, ap (λ (m : List ℕ). get_or m 1 0) e)

-- ---- what each builder lays

module _ (to : ModbusRequest) (room : ℕ) where
  -- a read's six bytes
  pub get_built : (func reg count : ℕ) → func ≤ 4
      → generated to (getting to.proto func reg count) room ≡ body_sent to (to.unit_id ∷ func ∷ two reg ++ two count) room
  unfolding getting
  get_built func reg count h =
      by_step (function_of to.proto func)
      (λ fn e.
      ap (λ (w : Step Declined Ask). generated to w room) (follow _ (read_by reg count) e) ∙ known fn (found_fn code _ _ _ fn e))
      (λ x e.
      generated_none to _ room (halt _ (read_by reg count) (e ∙ ap stop (sym (found_fault code _ _ _ e))))
      ∙ sym (unknown x e))
    where
      body : List ℕ
      body = to.unit_id ∷ func ∷ two reg ++ two count

      known : (fn : Fn) → func ≡ code fn → generated to (read_by reg count fn) room ≡ body_sent to body room
      known (reads t) e = rw e (generated_body to (read t reg count) room tt)
      known (one bit) e = absurd (omega arith)
      known (one word) e = absurd (omega arith)
      known (many bit) e = absurd (omega arith)
      known (many word) e = absurd (omega arith)
      known mask e = absurd (omega arith)
      known both e = absurd (omega arith)

      unknown : (x : Declined) → function_of to.proto func ≡ stop x → body_sent to body room ≡ stop bad_request
      unknown x e =
          by_cases (to.proto ≤? 2)
          (λ p. pass _ _ _ p ∙ by_step (weighed (every_cell to.proto) false body)
          (λ b q. went _ _ (every_cell to.proto) _ body q λ fn c o l v i z.
          let f = find_fn bad_request func (proto_of to.proto) fn c in
          let y : ◌≡◌ {A = ℕ} 0 1 = cc in absurd (omega arith))
          (λ y q. halt _ _ (or_stop _ q)))
          (λ p. fail _ _ _ p)

  -- many values, whose data are shown
  pub many_built : (k : Kind) (reg : ℕ) (vs d : List ℕ) (c o : ℕ) → All (Fits k) vs → d ≡ shown k vs → c ≡ code (many k)
      → o ≡ octets k (length vs) → generated to (write_by reg vs (many k)) room ≡ body_sent to (many_body to c reg (length vs) o d) room
  many_built k reg vs d c o p e q n = by k p ∙ sym (ap (λ (l : List ℕ). body_sent to l room) (same ∙ ap₂ (λ (i : ℕ) (x : List ℕ). many_body to i reg (length vs) (octets k (length vs)) x) q e))
    where
      same : many_body to c reg (length vs) o d ≡ many_body to c reg (length vs) (octets k (length vs)) d
      same = ap (λ (i : ℕ). many_body to c reg (length vs) i d) n

      by : (k : Kind) → All (Fits k) vs
          → generated to (write_by reg vs (many k)) room
          ≡ body_sent to (many_body to (code (many k)) reg (length vs) (octets k (length vs)) (shown k vs)) room
      by bit p = ap (λ (w : Step Declined Ask). generated to w room) (many_values bit reg vs) ∙ generated_body to (writes bit reg vs) room p
      by word p = ap (λ (w : Step Declined Ask). generated to w room) (many_values word reg vs) ∙ generated_body to (writes word reg vs) room p

  -- and what does not fit is not built
  pub many_unbuilt : (k : Kind) (reg : ℕ) (vs : List ℕ) → ¬ ((length vs ≤ most_written k) × All (Fits k) vs)
      → generated to (write_by reg vs (many k)) room ≡ stop bad_request
  many_unbuilt k reg vs n = generated_not to _ room (writes k reg vs) (many_values k reg vs) (λ p. n (p.1, p.2))

  -- one value
  pub one_built : (k : Kind) (reg : ℕ) (vs b : List ℕ) → length vs ≡ 1 → Sized (write k reg (get_or vs 0 0))
      → b ≡ body_to to (write k reg (get_or vs 0 0)) → generated to (write_by reg vs (one k)) room ≡ body_sent to b room
  one_built k reg vs b n z e =
      ap (λ (w : Step Declined Ask). generated to w room) (one_value k reg vs n) ∙ generated_body to (write k reg (get_or vs 0 0)) room z
      ∙ ap (λ (x : List ℕ). body_sent to x room) (sym e)

  pub coil_unbuilt : (reg : ℕ) (vs : List ℕ) → length vs ≡ 1 → 1 < get_or vs 0 0 → generated to (write_by reg vs (one bit)) room ≡ stop bad_request
  coil_unbuilt reg vs n h = generated_not to _ room _ (one_value bit reg vs n) (λ p. omega arith)

  pub ones_unbuilt : (k : Kind) (reg : ℕ) (vs : List ℕ) → ¬ (length vs ≡ 1) → generated to (write_by reg vs (one k)) room ≡ stop bad_request
  ones_unbuilt k reg vs n = generated_none to _ room (other_values k reg vs n)

  -- values that come with a read, whose data are shown
  pub both_built : (reg count at n : ℕ) (vs d : List ℕ) → n ≡ length vs → All (Fits word) vs → d ≡ shown word vs
      → generated to (go (swaps reg count at vs)) room ≡ body_sent to (both_body to reg count at n d) room
  both_built reg count at n vs d e p q =
      generated_body to (swaps reg count at vs) room p
      ∙ sym (ap₂ (λ (i : ℕ) (x : List ℕ). body_sent to (both_body to reg count at i x) room) e q)

  pub both_unbuilt : (reg count at : ℕ) (vs : List ℕ) → 121 < length vs → generated to (go (swaps reg count at vs)) room ≡ stop bad_request
  both_unbuilt reg count at vs h = generated_not to _ room (swaps reg count at vs) refl (λ p. omega (arith, p.3))
