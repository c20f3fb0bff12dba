-- On a frame that the driver serves, the crate's chain of calls gives the driver's reply and leaves the driver's
-- tables.
-- Assumes nothing.
use mathlib.Core.Bool.{Bool, true, false}
use mathlib.Core.Logic.{inl, inr}
use mathlib.Core.Path.{◌≡◌, refl, sym, ap, ap₂, ◌∙◌, subst}
use mathlib.Core.List.{List, [], ◌∷◌}
use Prim.Native.Nat.{ℕ, ◌+◌, ◌≤◌}
use native.Mathlib.Omega.{arith}
use lib.ListN.{length, take, drop, get_or, length-drop}
use Rattle.modbus.specs.Step.{go, choose}
use Rattle.modbus.specs.Bytes.{Bytes, word_at}
use Rattle.modbus.specs.Table.{Kind, bit, word, Tab, coils, discretes, holdings, inputs, target, part}
use Rattle.modbus.specs.Ported.{Ported, reads, one, many, code_of}
use Rattle.modbus.specs.Request.{Ask, read, pdu, octets, shown, answer, seen, found, apply}
use Rattle.modbus.specs.Storage.{packed, registers, Sound, storage, store, values}
use Rattle.modbus.specs.Setup.{Setup, proto, Valid}
use Rattle.modbus.specs.Unit.{listed?, Broadcast, Ours}
use Rattle.modbus.specs.Decode.{Message, unit_of, number_of, IsRead, Lengthy, Valued, asked}
use Rattle.modbus.specs.Drive.{Inside, judge}
use Rattle.modbus.specs.declared.ModbusProto.{ModbusProto}
use Rattle.modbus.proofs.StepLaws.{holds}
use Rattle.modbus.proofs.StorageLaws.{size_sound, length_part}
use Rattle.modbus.proofs.RequestLaws as request
use Rattle.modbus.proofs.RequestLaws.{asked_says}
use Rattle.tables.specs.Lent.{Lent, table_of, tables_of}
use Rattle.tables.proofs.CallsLaws.{stored_inside}
use Rattle.process.specs.Process.{Legal, value_of, stored_many}
use Rattle.driver.specs.Driven.{Call, setup_of, bytes_after, called}
use Rattle.driver.proofs.CallLaws.{valid_sized}
use Rattle.demands.proofs.Judge.{Judged, judged}
use Rattle.chain.specs.Chain.{chained_to, chained, as_fn, Shared, Bounded, fullest, chained_on, AsDriven, spoken}
use Rattle.chain.proofs.Shared.{as_code}
use Rattle.chain.proofs.Response.{closed, spoken_line, gives}
use Rattle.chain.proofs.Laid.{Laid, Good, laid}
use Rattle.chain.proofs.Parsed.{ready, answers, Heard}
use Rattle.chain.proofs.Verdicts.{strictly, served_reply}
use Rattle.chain.proofs.Processed.{table, cells, stored_whole_law}
use Rattle.chain.proofs.Carried.{coils_then, holdings_then, written, chain_read, chain_one, chain_many}

pub unheard : (b : Bool) → ¬ (b ≡ true) → b ≡ false
unheard true n = absurd (n refl)
unheard false n = refl

pub legal : (k : Kind) (b : List ℕ) → Valued (as_fn (one k)) b → Legal k (word_at b 4)
legal bit b (inl e) = inr e
legal bit b (inr e) = inl e
legal word b v = tt

pub few_bytes : (k : Kind) (b : List ℕ) → Valued (as_fn (many k)) b → get_or b 6 0 ≤ 246
few_bytes bit b v = omega (arith, v)
few_bytes word b v = omega (arith, v)

-- a read's answer is read off the table's bytes
reply_read : (l : Lent) (b : List ℕ) (address count : ℕ) (t : Tab) → get_or b 1 0 ≡ code_of (reads t)
    → answer (read t address count) (part (tables_of l t) address count)
    ≡ get_or b 1 0
    ∷ octets (storage t).kind count
    ∷ shown (storage t).kind (part ((storage t).cell (table_of l t)) address count)
reply_read l b address count coils e = rw (e, length_part)
reply_read l b address count discretes e = rw (e, length_part)
reply_read l b address count holdings e = rw (e, length_part)
reply_read l b address count inputs e = rw (e, length_part)

-- a write's answer is the front of its request
abbrev Echoed : Ask → List ℕ → Type 0
Echoed a vs = (u : ℕ) (pad : List ℕ) → take 6 (u ∷ pdu a pad) ≡ u ∷ answer a vs

one_echoed : (k : Kind) (b vs : List ℕ) → Echoed (asked (as_fn (one k)) b) vs
one_echoed bit b vs u pad = refl
one_echoed word b vs u pad = refl

echoes : (a : Ask) (b vs : List ℕ) → Echoed a vs → request.Says a b → take 6 b ≡ get_or b 0 0 ∷ answer a vs
echoes a b vs w s =
    let (pad, q, e) = s.encodes in
    ap (take 6) (s.headed ∙ ap (λ (x : List ℕ). get_or b 0 0 ∷ x) e) ∙ w (get_or b 0 0) pad

module _ (lent : Call) where
  abbrev s : Setup
  s = setup_of lent

  abbrev l : Lent
  l = lent.tables

  pub written_sound : Valid s → (k : Kind)
      → Sound (storage (target k)) (table k l) (cells k l)
  written_sound v bit = valid_sized lent v coils
  written_sound v word = valid_sized lent v holdings

  -- what the data of a served write of many stores
  stored_many_law : (k : Kind) (b : List ℕ) (len : ℕ) → length (drop 7 b) ≡ octets k (word_at b 4)
      → Sound (storage (target k)) (table k l) (cells k l)
      → word_at b 2 + word_at b 4 ≤ cells k l
      → (p : ModbusProto) (answers : Bool) (start : ℕ)
      → stored_many k (table k l) (cells k l)
      (ready p s.unit answers false (many k) start (word_at b 2) (word_at b 4) len) (drop 7 b)
      ≡ go (
        0,
        store (storage (target k)) (table k l) (word_at b 2)
            (values k (word_at b 4) (drop 7 b)),
      )
  stored_many_law bit b len n ok inside p answers start =
      stored_inside packed l.coil_bytes l.coil_cells (word_at b 2) (word_at b 4) (drop 7 b)
      (rw (size_sound packed l.coil_bytes l.coil_cells ok) inside) n
  stored_many_law word b len n ok inside p answers start =
      stored_whole_law l.holding_bytes l.holding_cells (word_at b 2) (word_at b 4) (drop 7 b) n
      ∙ stored_inside registers l.holding_bytes l.holding_cells (word_at b 2) (word_at b 4) (drop 7 b)
      (rw (size_sound registers l.holding_bytes l.holding_cells ok) inside) n

  one_within : (k : Kind) (b : List ℕ) → Inside s (asked (as_fn (one k)) b)
      → word_at b 2 + 1 ≤ cells k l
  one_within bit b i = i.0
  one_within word b i = i.0

  many_within : (k : Kind) (b : List ℕ) → Inside s (asked (as_fn (many k)) b)
      → word_at b 2 + word_at b 4 ≤ cells k l
  many_within bit b i = rw length_part at i.0
  many_within word b i = rw length_part at i.0

  -- a write by the crate leaves the driver's tables
  abbrev StoredAs : Kind → Ask → List ℕ → Type 0
  StoredAs k a m =
      (coils_then k l.coil_bytes m ≡ bytes_after l a coils) × (holdings_then k l.holding_bytes m ≡ bytes_after l a holdings)

  one_stored : (k : Kind) (b : List ℕ)
      → StoredAs k (asked (as_fn (one k)) b)
      ((storage (target k)).put (table k l) (word_at b 2) (value_of k (word_at b 4)))
  unfolding store choose
  one_stored bit b = (refl, refl)
  one_stored word b = (refl, refl)

  many_stored : (k : Kind) (b : List ℕ)
      → StoredAs k (asked (as_fn (many k)) b)
      (store (storage (target k)) (table k l) (word_at b 2) (values k (word_at b 4) (drop 7 b)))
  unfolding choose
  many_stored bit b = (refl, refl)
  many_stored word b = (refl, refl)

  module _ {p : ModbusProto} {tag body buf : List ℕ} {start : ℕ} (h : Laid p tag body buf start)
      (g : Good p body buf start) (out : List ℕ) (b : Bool)
      (heard : Heard p (get_or body 0 0) s.unit s.broadcasts out b) (y : Bytes body) (v : Valid s) where
    -- the chain's end on a request of the driver
    abbrev EndsAs : Ask → Type 0
    EndsAs a =
        chained s.unit p s.broadcasts l buf out
        ≡ chained_to 0 (spoken b (closed p tag (get_or body 0 0 ∷ answer a (found a (seen (apply a (tables_of l)))))))
        (bytes_after l a coils) (bytes_after l a holdings)

    -- a write whose echo is the answer
    write_serves : (k : Kind) (a : Ask) (m : List ℕ) → StoredAs k a m
        → take 6 body ≡ get_or body 0 0 ∷ answer a (found a (seen (apply a (tables_of l))))
        → chained s.unit p s.broadcasts l buf out ≡ written h heard l k m → EndsAs a
    write_serves k a m (x, z) e q =
        q ∙ ap (λ (w : List ℕ). chained_to 0 (spoken b (closed p tag w)) (coils_then k l.coil_bytes m)
        (holdings_then k l.holding_bytes m)) e
        ∙ ap₂ (chained_to 0 _) x z

    chain_serves : (fn : Ported) → get_or body 1 0 ≡ code_of fn → (b ≡ true → ¬ IsRead (as_fn fn)) → Lengthy (as_fn fn) body
        → Valued (as_fn fn) body → Inside s (asked (as_fn fn) body) → EndsAs (asked (as_fn fn) body)
    chain_serves (reads t) c heeded n w i =
        let e = unheard b (λ q. heeded q tt) in
        chain_read h heard l g t e c n w.1 (valid_sized lent v t) i.0
        ∙ ap (λ (x : List ℕ). chained_to 0 (closed p tag (get_or body 0 0 ∷ x)) l.coil_bytes l.holding_bytes)
        (sym (reply_read l body (word_at body 2) (word_at body 4) t c))
        ∙ ap (λ (x : Bool).
        let a = asked (as_fn (reads t)) body in
        chained_to 0 (spoken x (closed p tag (get_or body 0 0 ∷ answer a (found a (seen (apply a (tables_of l)))))))
        l.coil_bytes l.holding_bytes) (sym e)
    chain_serves (one k) c heeded n w i =
        write_serves k (asked (as_fn (one k)) body) _ (one_stored k body)
        (echoes (asked (as_fn (one k)) body) body _ (one_echoed k body _) (asked_says (as_fn (one k)) body y (c ∙ sym (as_code (one k))) n w))
        (chain_one h heard l g k c n (legal k body w) (written_sound v k) (one_within k body i))
    chain_serves (many k) c heeded n w i =
        write_serves k (asked (as_fn (many k)) body) _ (many_stored k body)
        (echoes (asked (as_fn (many k)) body) body [] (λ _ _. refl) (asked_says (as_fn (many k)) body y (c ∙ sym (as_code (many k))) n w))
        (chain_many h heard l g k c n.1 (few_bytes k body w) w.1.0 _
        (λ len. stored_many_law k body len (simp length-drop (omega (arith, n, w))) (written_sound v k)
        (many_within k body i) p (answers b) start))

  module _ (out : List ℕ) (y : Bytes lent.frame) (strict : s.hex ≡ 0) (room : fullest (proto s) ≤ length out) (m : Message) (a : Ask) where
    -- the chain over the frame's bytes, on a request of the driver
    abbrev Chains : Ask → Bool → Type 0
    Chains x b =
        chained_on lent out
        ≡ chained_to 0 (spoken b (closed (proto s) m.tag (unit_of m ∷ answer x (found x (seen (apply x (tables_of l)))))))
        (bytes_after l x coils) (bytes_after l x holdings)

    pub served : Shared (number_of m) → Bounded (proto s) m.body → judge s lent.frame ≡ go (m, a)
        → AsDriven lent out
    unfolding called Broadcast Ours
    served shared within e =
        let (f, i) = judged s lent.frame y m a e in
        let (fn, q) = shared f i.known.called in
        let j : Judged s lent.frame m a (as_fn fn) = subst (Judged s lent.frame m a) q i in
        let framed = j.known.sent.framed in
        let held = laid (proto s) m.tag m.body lent.frame (strictly s lent.frame strict framed) within in
        let b = choose (listed? (unit_of m) s.broadcasts) true false in
        let w = subst (λ (x : Ask). Chains x b) j.asks
        (chain_serves held.0 held.1 out b (record { room = room; listed = refl; ours = j.known.reached })
        framed.bytes j.known.sent.valid
        fn (j.known.called ∙ as_code fn) (λ q i. j.known.heeded (holds _ _ refl q, i)) j.lengthy j.valued
        j.inside) in
        rw e (gives w (spoken_line (proto s) b m.tag (unit_of m) _
        ∙ sym (served_reply lent m b refl a e)))
