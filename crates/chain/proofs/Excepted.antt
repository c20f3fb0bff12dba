-- On a frame that the driver refuses with a code, the crate's chain of calls gives the same exception and leaves the
-- tables as given, but for the values that the crate does not test.
-- Assumes nothing.
use mathlib.Core.Bool.{Bool, true, false}
use mathlib.Core.Logic.{◌⊎◌, inl, inr, by_cases}
use mathlib.Core.Path.{◌≡◌, refl, sym, ap, ◌∙◌, subst}
use mathlib.Core.List.{List, ◌∷◌}
use Prim.Native.Nat.{ℕ, ◌+◌, ◌≤◌, ◌<◌}
use native.Mathlib.Omega.{arith}
use lib.ListN.{length, drop, get_or, length-drop}
use Rattle.modbus.specs.Step.{stop, choose, ◌≤?◌}
use Rattle.modbus.specs.Bytes.{Bytes, word_at}
use Rattle.modbus.specs.Table.{Kind, bit, word}
use Rattle.modbus.specs.Ported.{Ported, reads, one, many, code_of}
use Rattle.modbus.specs.Request.{Fn, most_written, octets, exception}
use Rattle.modbus.specs.Storage.{packed, registers}
use Rattle.modbus.specs.Frame.{wrap, least, most}
use Rattle.modbus.specs.Setup.{Setup, proto, Valid}
use Rattle.modbus.specs.Unit.{Listed, listed?, Broadcast, Ours}
use Rattle.modbus.specs.Decode.{Message, unit_of, number_of, IsRead, Lengthy, Valued, asked}
use Rattle.modbus.specs.Drive.{Inside, coded, judge}
use Rattle.modbus.specs.declared.ErrorKind.TheVariants.{OOBContext}
use Rattle.modbus.specs.declared.ModbusProto.{ModbusProto}
use Rattle.modbus.specs.declared.ModbusProto.TheVariants.{Rtu, Ascii, TcpUdp}
use Rattle.modbus.proofs.StepLaws.{holds, holds_not}
use Rattle.modbus.proofs.StorageLaws.{size_sound, length_part}
use Rattle.tables.specs.Lent.{Lent}
use Rattle.tables.proofs.CallsLaws.{stored_outside}
use Rattle.process.specs.Process.{Legal, stored_many}
use Rattle.driver.specs.Driven.{Call, setup_of, called}
use Rattle.driver.proofs.CallLaws.{valid_sized}
use Rattle.demands.specs.Order.{Known}
use Rattle.chain.specs.Chain.{chained_to, chained, as_fn, Shared, Bounded, fullest, chained_on, AsDriven, Untested, spoken}
use Rattle.chain.proofs.Shared.{as_code}
use Rattle.chain.proofs.Response.{closed, spoken_line, gives}
use Rattle.chain.proofs.Laid.{Laid, Good, laid}
use Rattle.chain.proofs.Parsed.{Heard, ready, answers}
use Rattle.chain.proofs.Processed.{table, cells, stored_whole_law}
use Rattle.chain.proofs.Faults.{excepted, chain_unsupported, chain_read_over, chain_many_over, chain_read_outside, chain_one_illegal, chain_one_outside, chain_many_refused}
use Rattle.chain.proofs.Verdicts.{strictly, Why, no_function, bad_value, bad_address, refused, refused_reply}
use Rattle.chain.proofs.Served.{unheard, written_sound, legal, few_bytes}

pub least_two : (p : ModbusProto) → 2 ≤ least p
least_two Rtu = omega arith
least_two Ascii = omega arith
least_two TcpUdp = omega arith

most_body : (p : ModbusProto) → most p ≤ 254
most_body Rtu = omega arith
most_body Ascii = omega arith
most_body TcpUdp = omega arith

legal_valued : (b : List ℕ) → Legal bit (word_at b 4) → Valued (as_fn (one bit)) b
legal_valued b (inl e) = inr e
legal_valued b (inr e) = inl e

-- our own unit is the one that was asked
pub own : (p : ModbusProto) (b : Bool) (unit u : ℕ) (list tag pdu : List ℕ) → choose (listed? u list) true false ≡ b
    → Listed u list ⊎ (u ≡ unit)
    → spoken b (wrap p tag (unit ∷ pdu)) ≡ spoken b (wrap p tag (u ∷ pdu))
own p true unit u list tag pdu e r = refl
own p false unit u list tag pdu e (inl x) = absurd (holds_not _ _ refl e x)
own p false unit u list tag pdu e (inr x) = ap (λ (n : ℕ). wrap p tag (n ∷ pdu)) (sym x)

module _ (lent : Call) where
  abbrev s : Setup
  s = setup_of lent

  abbrev l : Lent
  l = lent.tables

  one_beyond : (k : Kind) (b : List ℕ) → ¬ Inside s (asked (as_fn (one k)) b)
      → cells k l ≤ word_at b 2
  one_beyond bit b n = by_cases (l.coil_cells ≤? word_at b 2) (λ h. h) (λ h. absurd (n (omega arith, tt)))
  one_beyond word b n = by_cases (l.holding_cells ≤? word_at b 2) (λ h. h) (λ h. absurd (n (omega arith, tt)))

  many_beyond : (k : Kind) (b : List ℕ) → ¬ Inside s (asked (as_fn (many k)) b)
      → cells k l < word_at b 2 + word_at b 4
  many_beyond bit b n =
      by_cases (word_at b 2 + word_at b 4 ≤? l.coil_cells) (λ h. absurd (n (rw length_part h, tt))) (λ h. omega arith)
  many_beyond word b n =
      by_cases (word_at b 2 + word_at b 4 ≤? l.holding_cells) (λ h. absurd (n (rw length_part h, tt))) (λ h. omega arith)

  -- as many data bytes as the count tells, for cells outside the table
  beyond_refused : (v : Valid s) (k : Kind) (b : List ℕ) → length (drop 7 b) ≡ octets k (word_at b 4)
      → cells k l < word_at b 2 + word_at b 4
      → (p : ModbusProto) (x : Bool) (start len : ℕ)
      → stored_many k (table k l) (cells k l) (ready p s.unit x false (many k) start (word_at b 2) (word_at b 4) len)
      (drop 7 b) ≡ stop OOBContext
  beyond_refused v bit b n h p x start len =
      stored_outside packed l.coil_bytes l.coil_cells (word_at b 2) (word_at b 4) (drop 7 b)
      (rw (size_sound packed l.coil_bytes l.coil_cells (written_sound lent v bit)) h)
  beyond_refused v word b n h p x start len =
      stored_whole_law l.holding_bytes l.holding_cells (word_at b 2) (word_at b 4) (drop 7 b) n
      ∙ stored_outside registers l.holding_bytes l.holding_cells (word_at b 2) (word_at b 4) (drop 7 b)
      (rw (size_sound registers l.holding_bytes l.holding_cells
      (written_sound lent v word)) h)

  module _ {p : ModbusProto} {tag body buf : List ℕ} {start : ℕ} (h : Laid p tag body buf start)
      (g : Good p body buf start)
      (out : List ℕ) (b : Bool)
      (heard : Heard p (get_or body 0 0) s.unit s.broadcasts out b) (v : Valid s) where
    -- the chain's end on a request that is refused with a code
    abbrev Excepts : ℕ → Type 0
    Excepts x = chained s.unit p s.broadcasts l buf out ≡ excepted h heard l x

    value_excepted : (fn : Ported) → get_or body 1 0 ≡ code_of fn → (b ≡ true → ¬ IsRead (as_fn fn)) → Lengthy (as_fn fn) body
        → length body ≤ 254 → ¬ Valued (as_fn fn) body → ¬ Untested fn body → Excepts 3
    value_excepted (reads t) c heeded n short w u =
        chain_read_over h heard l g t (unheard b (λ q. heeded q tt)) c n
        (by_cases (word_at body 4 ≤? _) (λ i. absurd (w (omega (arith, u), i))) (λ i. omega arith))
    value_excepted (one bit) c heeded n short w u =
        chain_one_illegal h heard l g bit c n (λ i. w (legal_valued body i))
    value_excepted (one word) c heeded n short w u = absurd (w tt)
    value_excepted (many k) c heeded n short w u =
        chain_many_over h heard l g k c n.1 (omega (arith, n))
        (by_cases (word_at body 4 ≤? most_written k)
        (λ i. by_cases (get_or body 6 0 ≤? 246) (λ j. absurd (u (i, j, w))) (λ j. inr (omega arith)))
        (λ i. inl (omega arith)))

    address_excepted : (fn : Ported) → get_or body 1 0 ≡ code_of fn → (b ≡ true → ¬ IsRead (as_fn fn)) → Lengthy (as_fn fn) body
        → Valued (as_fn fn) body → ¬ Inside s (asked (as_fn fn) body) → Excepts 2
    address_excepted (reads t) c heeded n w i =
        chain_read_outside h heard l g t (unheard b (λ q. heeded q tt)) c n w.1
        (valid_sized lent v t)
        (by_cases (word_at body 2 + word_at body 4 ≤? _) (λ j. absurd (i (j, tt))) (λ j. omega arith))
    address_excepted (one k) c heeded n w i =
        chain_one_outside h heard l g k c n (legal k body w)
        (written_sound lent v k) (one_beyond k body i)
    address_excepted (many k) c heeded n w i =
        chain_many_refused h heard l g k c n.1 (few_bytes k body w) w.1.0 OOBContext
        (λ len. beyond_refused v k body (simp length-drop (omega (arith, n, w))) (many_beyond k body i) p
        (answers b) start len)

  module _ (out : List ℕ) (y : Bytes lent.frame) (strict : s.hex ≡ 0) (room : fullest (proto s) ≤ length out) (m : Message) (x : ℕ) where
    abbrev b : Bool
    b = choose (listed? (unit_of m) s.broadcasts) true false

    -- the chain over the frame's bytes
    abbrev Answers : ℕ → Type 0
    Answers x =
        chained_on lent out
        ≡ chained_to 0 (spoken b (closed (proto s) m.tag (s.unit ∷ exception (number_of m) x))) l.coil_bytes
        l.holding_bytes

    module _ (shared : Shared (number_of m)) (within : Bounded (proto s) m.body) (tested : (fn : Ported) → number_of m ≡ code_of fn → ¬ Untested fn m.body) where
      why-excepted : (x : ℕ) → Why s lent.frame m x → Answers x
      unfolding Broadcast Ours
      why-excepted x (no_function sent reached low none) =
          let held = laid (proto s) m.tag m.body lent.frame (strictly s lent.frame strict sent.framed) within in
          chain_unsupported held.0 (record { room = room; listed = refl; ours = reached }) l
          (omega (arith, sent.framed.low, least_two (proto s))) low (λ fn q. none (as_fn fn) (q ∙ sym (as_code fn)))
      why-excepted x (bad_value f kf nf wf) =
          let (fn, e) = shared f kf.called in
          let (k, n, w) = subst (λ (g : Fn). Known s lent.frame m g × Lengthy g m.body × (¬ Valued g m.body)) e (kf, nf, wf) in
          let c = k.called ∙ as_code fn in
          let held = laid (proto s) m.tag m.body lent.frame (strictly s lent.frame strict k.sent.framed) within in
          value_excepted held.0 held.1 out b (record { room = room; listed = refl; ours = k.reached })
          k.sent.valid fn c (λ q i. k.heeded (holds _ _ refl q, i)) n
          (omega (arith, k.sent.framed.high, most_body (proto s))) w (tested fn c)
      why-excepted x (bad_address f kf nf wf jf) =
          let (fn, e) = shared f kf.called in
          let (k, n, w, j) = subst (λ (g : Fn). Known s lent.frame m g × Lengthy g m.body × Valued g m.body × (¬ Inside s (asked g m.body))) e
          (kf, nf, wf, jf) in
          let held = laid (proto s) m.tag m.body lent.frame (strictly s lent.frame strict k.sent.framed) within in
          address_excepted held.0 held.1 out b (record { room = room; listed = refl; ours = k.reached })
          k.sent.valid fn (k.called ∙ as_code fn) (λ q i. k.heeded (holds _ _ refl q, i)) n w j

    reached : (x : ℕ) → Why s lent.frame m x → Listed (unit_of m) s.broadcasts ⊎ (unit_of m ≡ s.unit)
    unfolding Broadcast Ours
    reached x (no_function sent r low none) = r
    reached x (bad_value fn k n w) = k.reached
    reached x (bad_address fn k n w i) = k.reached

    pub excepted_alike : Shared (number_of m) → Bounded (proto s) m.body → ((fn : Ported) → number_of m ≡ code_of fn → ¬ Untested fn m.body)
        → judge s lent.frame ≡ stop (coded m x)
        → AsDriven lent out
    unfolding called
    excepted_alike shared within tested e =
        let why = refused s lent.frame m x y e in
        rw e (gives (why-excepted shared within tested x why)
        (spoken_line (proto s) b m.tag s.unit _
        ∙ own (proto s) b s.unit (unit_of m) s.broadcasts m.tag _ refl (reached x why)
        ∙ sym (refused_reply lent m b refl x e)))
