-- Where the crate's chain of calls and the driver, strict, differ on a frame, each with its condition and both answers: a TCP
-- frame outside the crate's bounds is refused; to our own unit an unknown function is answered without a look at the
-- check, a count of 0 is served, and a byte count is not held against its count; functions 22 and 23 are answered by code 1.
-- Assumes nothing.
use mathlib.Core.Bool.{Bool, true, false}
use mathlib.Core.Logic.{◌⊎◌, inl, inr, ◌≢◌, by_cases}
use mathlib.Core.Path.{◌≡◌, refl, sym, ap, ap₂, ◌∙◌, subst}
use mathlib.Core.List.{List, [], ◌∷◌, append-nil}
use Prim.Native.Nat.{ℕ, ◌+◌, ◌*◌, ◌/◌, ◌≤◌, ◌<◌}
use native.Mathlib.Omega.{arith}
use native.Mathlib.Nat.{div-add-mod'}
use lib.ListN.{length, take, drop, get_or, length-drop}
use lib.Seq.{length-take-le}
use Rattle.modbus.specs.Step.{Step, stop, go, choose, ◌≤?◌}
use Rattle.modbus.specs.Bytes.{Bytes, word_at, pack, twos}
use Rattle.modbus.specs.Table.{Kind, bit, word, Tab, coils, discretes, holdings, inputs, target, part}
use Rattle.modbus.specs.Ported.{Ported, reads, one, many, code_of}
use Rattle.modbus.specs.Request.{Fn, octets, shown, exception}
use Rattle.modbus.specs.Storage.{Storage, packed, registers, Sound, storage, store, values}
use Rattle.modbus.specs.Frame.{wrap, tag_length, start_of, Framed}
use Rattle.modbus.specs.Setup.{Setup, proto, Valid, Roomy}
use Rattle.modbus.specs.Unit.{Listed, listed?, Broadcast, Ours}
use Rattle.modbus.specs.Decode.{Message, unit_of, number_of, Lengthy, Valued}
use Rattle.modbus.specs.declared.ErrorKind.{ErrorKind}
use Rattle.modbus.specs.declared.ErrorKind.TheVariants.{OOBContext, FrameBroken}
use Rattle.modbus.specs.declared.ModbusProto.{ModbusProto}
use Rattle.modbus.specs.declared.ModbusProto.TheVariants.{Rtu, Ascii, TcpUdp}
use Rattle.modbus.proofs.StepLaws.{pass, halt, pick_no, holds, holds_not}
use Rattle.modbus.proofs.StorageLaws.{size_sound}
use Rattle.tables.specs.Calls.{stored, stored_whole}
use Rattle.tables.specs.Lent.{Lent, table_of, cells_of, tables_of}
use Rattle.tables.proofs.CallsLaws.{stored_inside, stored_unmatched, stored_outside}
use Rattle.incoming.specs.Envelope.{begins}
use Rattle.incoming.proofs.EnvelopeLaws.{header_length}
use Rattle.frame.specs.State.{fresh, After, refused, ended}
use Rattle.frame.specs.Parse.{or_leave, frame_parsed}
use Rattle.process.specs.Process.{stored_many, table_for}
use Rattle.driver.specs.Driven.{Call, setup_of}
use Rattle.driver.proofs.CallLaws.{valid_sized}
use Rattle.demands.specs.Order.{Shaped, Sent, Known, Coded, exception_sent, ignored, frame_broken, frame_check, bad_value}
use Rattle.demands.proofs.PlaceLaws.{value_by_places}
use Rattle.demands.proofs.Judge.{Returns, refusal_returns}
use Rattle.demands.proofs.Spelled.{strict_same}
use Rattle.chain.specs.Chain.{chained_to, from_parsed, chained, handed, as_fn, on_line, Serial, Bounded, fullest, Gives, Untested, Misfit, spoken, chained_on}
use Rattle.chain.proofs.Shared.{as_code, two_unknown}
use Rattle.chain.proofs.Response.{spoken_line, closed, closed_line, gives}
use Rattle.chain.proofs.Laid.{Laid, front_of_line, laid}
use Rattle.chain.proofs.Parsed.{answers, Heard, ready}
use Rattle.chain.proofs.Processed.{table, cells, stored_whole_law}
use Rattle.chain.proofs.Carried.{coils_then, holdings_then, chain_read, chain_many}
use Rattle.chain.proofs.Faults.{chain_unsupported, chain_read_outside, chain_many_refused}
use Rattle.chain.proofs.Verdicts.{strictly}
use Rattle.chain.proofs.Served.{unheard, written_sound}
use Rattle.chain.proofs.Excepted.{least_two, own}

serial_tag : (p : ModbusProto) → Serial p → 0 ≡ tag_length p
serial_tag Rtu h = refl
serial_tag Ascii h = refl
serial_tag TcpUdp h = absurd h

-- no cells are shown as no bytes
nothing_shown : (t : Tab) (f : ℕ → ℕ) (a n : ℕ) → n ≡ 0
    → (octets (storage t).kind n ≡ 0) × (shown (storage t).kind (part f a n) ≡ [])
unfolding part pack twos
nothing_shown coils f a n e = rw e (refl, refl)
nothing_shown discretes f a n e = rw e (refl, refl)
nothing_shown holdings f a n e = rw e (refl, refl)
nothing_shown inputs f a n e = rw e (refl, refl)

some_line : (p : ModbusProto) (b : Bool) (tag body : List ℕ) → 1 ≤ length body
    → on_line p (spoken b (closed p tag body)) ≡ spoken b (wrap p tag body)
some_line p b tag [] h = absurd (omega arith)
some_line p b tag (u ∷ pdu) h = spoken_line p b tag u pdu

-- ---- the table calls

-- data that do not match, or cells outside
misfit : (S : Storage) (c : List ℕ) (cells : ℕ) → Sound S c cells → (reg count : ℕ) (d : List ℕ)
    → (length d ≢ octets S.kind count) ⊎ (cells < reg + count) → stored S c cells reg count d ≡ stop OOBContext
misfit S c cells ok reg count d f =
    by_cases (reg + count ≤? cells)
    (λ h.
    stored_unmatched S c cells reg count d (rw (size_sound S c cells ok) h)
    (elim f [ inl n ↦ n | inr k ↦ λ q. omega arith ]))
    (λ h. stored_outside S c cells reg count d (rw (size_sound S c cells ok) (omega arith)))

as_given : (k : Kind) (r c h : List ℕ)
    → chained_to 0 r (coils_then k c (table_for k c h)) (holdings_then k h (table_for k c h)) ≡ chained_to 0 r c h
as_given bit r c h = refl
as_given word r c h = refl

module _ (l : Lent) where
  abbrev call : Kind → List ℕ → ModbusProto → ℕ → Bool → ℕ → ℕ → Step ErrorKind (ℕ × List ℕ)
  call k b p unit x start len =
      stored_many k (table k l) (cells k l) (ready p unit x false (many k) start (word_at b 2) (word_at b 4) len) (drop 7 b)

  empty_stored : (k : Kind) (b : List ℕ) → word_at b 4 ≡ 0 → length (drop 7 b) ≡ 0 → Sound (storage (target k)) (table k l) (cells k l)
      → word_at b 2 ≤ cells k l → (p : ModbusProto) (unit : ℕ) (x : Bool) (start len : ℕ)
      → call k b p unit x start len ≡ go (0, table k l)
  unfolding store part
  empty_stored bit b e d ok i p unit x start len =
      ap (λ (n : ℕ). stored packed l.coil_bytes l.coil_cells (word_at b 2) n (drop 7 b)) e
      ∙ stored_inside packed l.coil_bytes l.coil_cells (word_at b 2) 0 (drop 7 b)
      (rw (size_sound packed l.coil_bytes l.coil_cells ok) (omega arith)) d
  empty_stored word b e d ok i p unit x start len =
      stored_whole_law l.holding_bytes l.holding_cells (word_at b 2) 0 (drop 7 b) d
      ∙ stored_inside registers l.holding_bytes l.holding_cells (word_at b 2) 0 (drop 7 b)
      (rw (size_sound registers l.holding_bytes l.holding_cells ok) (omega arith)) d

  misfit_stops : (k : Kind) (b : List ℕ) → length (drop 7 b) ≡ get_or b 6 0 → Sound (storage (target k)) (table k l) (cells k l)
      → Misfit l (many k) b
      → (p : ModbusProto) (unit : ℕ) (x : Bool) (start len : ℕ) → call k b p unit x start len ≡ stop OOBContext
  unfolding stored_whole
  misfit_stops bit b d ok f p unit x start len =
      misfit packed l.coil_bytes l.coil_cells ok (word_at b 2) (word_at b 4) (drop 7 b)
      (elim f [ inl e ↦ inl (λ q. e (sym d ∙ q)) | inr h ↦ inr h ])
  misfit_stops word b d ok f p unit x start len =
      misfit registers l.holding_bytes l.holding_cells ok (word_at b 2) (length (drop 7 b) / 2) (drop 7 b)
      (elim f [ inl e ↦ inl (λ q. omega arith) | inr h ↦ inr (omega arith) ])

-- ---- a good frame outside the crate's bounds, which only TCP has: parse refuses it, whatever its unit and function, and nothing is sent

tcp_unbegun : (a b : ℕ) (body : List ℕ) → ¬ Bounded TcpUdp body → begins TcpUdp 0 (wrap TcpUdp (a ∷ b ∷ []) body) ≡ stop FrameBroken
tcp_unbegun a b body n =
    let d = div-add-mod' (length body) 256 in
    header_length 0 _ (omega arith) refl (λ (low, high). n (omega arith, omega arith))

unparsed : (unit : ℕ) (buf list out : List ℕ) → begins TcpUdp 0 buf ≡ stop FrameBroken
    → frame_parsed (fresh unit TcpUdp) buf list out ≡ refused FrameBroken (fresh unit TcpUdp) out
unfolding frame_parsed or_leave
unparsed unit buf list out e =
    ap ended (pass _ _ _ (omega arith) ∙ halt _ _ (ap (or_leave (fresh unit TcpUdp) out) e))

pub length_refused : (p : ModbusProto) (tag body f : List ℕ) → Framed p tag body f → ¬ Bounded p body
    → (unit : ℕ) (list : List ℕ) (l : Lent) (out : List ℕ)
    → chained unit p list l (handed p f) out ≡ chained_to 23 [] l.coil_bytes l.holding_bytes
unfolding chained handed
length_refused Rtu tag body f h n unit list l out = absurd (n tt)
length_refused Ascii tag body f h n unit list l out = absurd (n tt)
length_refused TcpUdp [] body f h n unit list l out = absurd (omega (arith, h.tagged))
length_refused TcpUdp (a ∷ []) body f h n unit list l out = absurd (omega (arith, h.tagged))
length_refused TcpUdp (a ∷ b ∷ c ∷ r) body f h n unit list l out = absurd (omega (arith, h.tagged))
length_refused TcpUdp (a ∷ b ∷ []) body f h n unit list l out =
    ap (λ (x : After). from_parsed x f l)
    (unparsed unit f list out (ap (begins TcpUdp 0) h.whole ∙ tcp_unbegun a b body n))

module _ (lent : Call) (out : List ℕ) (y : Bytes lent.frame) (strict : lent.numbers.hex ≡ 0) where
  abbrev s : Setup
  s = setup_of lent

  abbrev l : Lent
  l = lent.tables

  module _ (room : fullest (proto s) ≤ length out) where
    -- the chain gives this frame and these tables, and the driver this outcome, code and reply
    abbrev Differ : List ℕ → List ℕ → List ℕ → ℕ → ℕ → List ℕ → Type 0
    Differ f c h o x r =
        Gives (proto s) (chained_on lent out) f c h
        × Returns s (tables_of l) lent.frame o x r

    -- ---- an unknown function on a serial line, to us: the chain answers whatever follows; where the frame is none,
    -- the driver is silent

    module _ (serial : Serial (proto s)) (alone : ¬ Listed s.unit s.broadcasts) (f : ℕ) (rest : List ℕ)
        (e : handed (proto s) lent.frame ≡ s.unit ∷ f ∷ rest) (low : f ≤ 127) (none : (fn : Ported) → f ≢ code_of fn) where
      pub unknown_answered : Gives (proto s) (chained_on lent out)
          (wrap (proto s) [] (s.unit ∷ exception f 1)) l.coil_bytes l.holding_bytes
      unknown_answered =
          let body = s.unit ∷ f ∷ rest in
          let h : Laid (proto s) [] body (handed (proto s) lent.frame) 0 =
          subst (λ (x : List ℕ). Laid (proto s) [] body x 0) (append-nil body ∙ sym e)
          (front_of_line (proto s) [] body [] serial (serial_tag (proto s) serial)) in
          gives
          (chain_unsupported h (record { room = room; listed = pick_no _ _ _ alone; ours = inr refl }) l
          (omega arith) low none)
          (closed_line (proto s) [] s.unit (exception f 1))

      -- the shape wrong: FrameBroken
      pub unknown_unshaped : Valid s → Roomy s → ¬ Shaped (proto s) lent.frame
          → Differ (wrap (proto s) [] (s.unit ∷ exception f 1)) l.coil_bytes l.holding_bytes 5 0 []
      unknown_unshaped valid roomy wrong =
          (unknown_answered, refusal_returns s (tables_of l) lent.frame y (frame_broken valid roomy (rw (strict_same s lent.frame strict) wrong)))

      -- the check wrong: FrameCheck
      pub unknown_unchecked : Valid s → Roomy s → Shaped (proto s) lent.frame
          → ((tag body : List ℕ) → ¬ Framed (proto s) tag body lent.frame)
          → Differ (wrap (proto s) [] (s.unit ∷ exception f 1)) l.coil_bytes l.holding_bytes 6 0 []
      unknown_unchecked valid roomy shaped wrong =
          (unknown_answered, refusal_returns s (tables_of l) lent.frame y (frame_check valid roomy (rw (strict_same s lent.frame strict) shaped) (rw (strict_same s lent.frame strict) wrong)))

    -- ---- a good frame of function 22 or 23, to us or to all: the chain answers by code 1, whether the driver serves it or not

    module _ (m : Message) (sent : Sent s lent.frame m) (within : Bounded (proto s) m.body) (reached : Broadcast s (unit_of m) ⊎ Ours s (unit_of m))
        (new : (number_of m ≡ 22) ⊎ (number_of m ≡ 23)) where
      pub unknown_to_the_crate : Gives (proto s) (chained_on lent out)
          (spoken (choose (listed? (unit_of m) s.broadcasts) true false) (wrap (proto s) m.tag (unit_of m ∷ exception (number_of m) 1)))
          l.coil_bytes l.holding_bytes
      unfolding Broadcast Ours
      unknown_to_the_crate =
          let b = choose (listed? (unit_of m) s.broadcasts) true false in
          let held = laid (proto s) m.tag m.body lent.frame (strictly s lent.frame strict sent.framed) within in
          gives
          (chain_unsupported held.0 (record { room = room; listed = refl; ours = reached }) l
          (omega (arith, sent.framed.low, least_two (proto s))) (elim new [ inl q ↦ omega arith | inr q ↦ omega arith ]) (two_unknown _ new))
          (spoken_line (proto s) b m.tag s.unit _ ∙ own (proto s) b s.unit (unit_of m) s.broadcasts m.tag _ refl reached)

    -- ---- a good frame with a value that the driver refuses by code 3, to us or, a write, to all

    module _ (m : Message) (within : Bounded (proto s) m.body) (b : Bool) (e : choose (listed? (unit_of m) s.broadcasts) true false ≡ b) where
      -- Exception, or BroadcastIgnored
      abbrev outcome : Bool → ℕ
      outcome false = 2
      outcome true = 3

      abbrev Refused : List ℕ → List ℕ → List ℕ → Type 0
      Refused f c h =
          Differ (spoken b f) c h (outcome b) 3
          (spoken b (wrap (proto s) m.tag (unit_of m ∷ exception (number_of m) 3)))

      refused-by : (b : Bool) → choose (listed? (unit_of m) s.broadcasts) true false ≡ b
          → Coded s m (outcome b) 3 (spoken b (wrap (proto s) m.tag (unit_of m ∷ exception (number_of m) 3)))
      unfolding Broadcast
      refused-by true q = ignored 3 (holds _ _ refl q)
      refused-by false q = exception_sent 3 (holds_not _ _ refl q)

      refuses : (fn : Fn) → Known s lent.frame m fn → Lengthy fn m.body → ¬ Valued fn m.body
          → Returns s (tables_of l) lent.frame (outcome b) 3
          (spoken b (wrap (proto s) m.tag (unit_of m ∷ exception (number_of m) 3)))
      refuses fn k n w = refusal_returns s (tables_of l) lent.frame y (bad_value m fn k n ((value_by_places s lent.frame m fn k n).1 w) (refused-by b e))

      heard : (fn : Fn) → Known s lent.frame m fn → Heard (proto s) (unit_of m) s.unit s.broadcasts out b
      unfolding Broadcast Ours
      heard fn k = record { room = room; listed = e; ours = k.reached }

      -- a read that is heeded is no broadcast
      to-us : (t : Tab) → Known s lent.frame m (as_fn (reads t)) → b ≡ false
      unfolding Broadcast
      to-us t k = unheard b (λ q. k.heeded (holds _ _ refl (e ∙ q), tt))

      -- a read of no cells is answered with byte count 0
      pub nothing_read : (t : Tab) → Known s lent.frame m (as_fn (reads t)) → length m.body ≡ 6 → word_at m.body 4 ≡ 0
          → word_at m.body 2 ≤ cells_of l t
          → Refused (wrap (proto s) m.tag (unit_of m ∷ code_of (reads t) ∷ 0 ∷ [])) l.coil_bytes l.holding_bytes
      nothing_read t k n z i =
          let (h, g) = laid (proto s) m.tag m.body lent.frame (strictly s lent.frame strict k.sent.framed) within in
          let (o, d) =
          nothing_shown t ((storage t).cell (table_of l t)) (word_at m.body 2) (word_at m.body 4) z in
          let w =
          ap₂ (λ (x : ℕ) (v : List ℕ). unit_of m ∷ number_of m ∷ x ∷ v) o d
          ∙ ap (λ (x : ℕ). unit_of m ∷ x ∷ 0 ∷ []) (k.called ∙ as_code (reads t)) in
          let c =
          chain_read h (heard (as_fn (reads t)) k) l g t (to-us t k) (k.called ∙ as_code (reads t)) n (omega arith)
          (valid_sized lent k.sent.valid t) (omega arith) in
          let r =
          closed_line (proto s) m.tag (unit_of m) _ ∙ ap (wrap (proto s) m.tag) w
          ∙ ap (λ (x : Bool). spoken x (wrap (proto s) m.tag (unit_of m ∷ code_of (reads t) ∷ 0 ∷ [])))
          (sym (to-us t k)) in
          (gives c r, refuses (as_fn (reads t)) k n (λ v. omega (arith, v)))

      -- the echo of a write
      echoed : 7 ≤ length m.body
          → on_line (proto s) (spoken b (closed (proto s) m.tag (take 6 m.body))) ≡ spoken b
          (wrap (proto s) m.tag (take 6 m.body))
      echoed long = some_line (proto s) b m.tag (take 6 m.body)
          (omega (arith, length-take-le 6 m.body (omega arith)))

      -- function 16 stores as many registers as its byte count says, whatever its count
      pub uncounted_stored : Known s lent.frame m (as_fn (many word)) → Lengthy (as_fn (many word)) m.body
          → ¬ Valued (as_fn (many word)) m.body
          → word_at m.body 4 ≤ 123 → (n : ℕ) → get_or m.body 6 0 ≡ 2 * n → n ≤ 123
          → word_at m.body 2 + n ≤ l.holding_cells
          → Refused (wrap (proto s) m.tag (take 6 m.body)) l.coil_bytes
          (store registers l.holding_bytes (word_at m.body 2) (values word n (drop 7 m.body)))
      uncounted_stored k long w most n z few inside =
          let (h, g) = laid (proto s) m.tag m.body lent.frame (strictly s lent.frame strict k.sent.framed) within in
          let d : length (drop 7 m.body) ≡ 2 * n = simp length-drop (omega (arith, long)) in
          let ok = written_sound lent k.sent.valid word in
          let c = l.holding_bytes in
          let cn = l.holding_cells in
          let a = word_at m.body 2 in
          let stores =
          stored_whole_law c cn a n (drop 7 m.body) d
          ∙ stored_inside registers c cn a n (drop 7 m.body) (rw (size_sound registers c cn ok) inside) d in (
            gives (chain_many h (heard (as_fn (many word)) k) l g word (k.called ∙ as_code (many word)) long.1 (omega arith) most _ (λ _. stores))
                (echoed long.0),
            refuses (as_fn (many word)) k long w,
          )

      -- a write of no cells is echoed, and changes none
      pub nothing_written : (k : Kind) → Known s lent.frame m (as_fn (many k)) → Lengthy (as_fn (many k)) m.body → word_at m.body 4 ≡ 0
          → get_or m.body 6 0 ≡ 0 → word_at m.body 2 ≤ cells k l
          → Refused (wrap (proto s) m.tag (take 6 m.body)) l.coil_bytes l.holding_bytes
      nothing_written k j long z o inside =
          let (h, g) = laid (proto s) m.tag m.body lent.frame (strictly s lent.frame strict j.sent.framed) within in
          let d : length (drop 7 m.body) ≡ 0 = simp length-drop (omega (arith, long)) in
          let ok = written_sound lent j.sent.valid k in
          let stores = empty_stored l k m.body z d ok inside (proto s) s.unit (answers b) (start_of (proto s)) in
          let c =
          chain_many h (heard (as_fn (many k)) j) l g k (j.called ∙ as_code (many k)) long.1 (omega arith) (omega arith)
          (table k l) stores
          ∙ as_given k _ l.coil_bytes l.holding_bytes in
          (gives c (echoed long.0), refuses (as_fn (many k)) j long (λ v. omega (arith, v)))

      own_line : (fn : Fn) → Known s lent.frame m fn
          → on_line (proto s) (spoken b (closed (proto s) m.tag (s.unit ∷ exception (number_of m) 2)))
          ≡ spoken b (wrap (proto s) m.tag (unit_of m ∷ exception (number_of m) 2))
      own_line fn k =
          spoken_line (proto s) b m.tag s.unit _
          ∙ own (proto s) b s.unit (unit_of m) s.broadcasts m.tag _ e (heard fn k).ours

      -- what does not fit its table or its data is answered by code 2
      pub misfit_refused : (fn : Ported) → Known s lent.frame m (as_fn fn) → Lengthy (as_fn fn) m.body → Untested fn m.body
          → Misfit l fn m.body
          → Refused (wrap (proto s) m.tag (unit_of m ∷ exception (number_of m) 2)) l.coil_bytes l.holding_bytes
      misfit_refused (reads t) k n u f =
          let (h, g) = laid (proto s) m.tag m.body lent.frame (strictly s lent.frame strict k.sent.framed) within in
          let c =
          chain_read_outside h (heard (as_fn (reads t)) k) l g t (to-us t k) (k.called ∙ as_code (reads t)) n (omega arith)
          (valid_sized lent k.sent.valid t) (omega arith) in
          (gives c (own_line (as_fn (reads t)) k), refuses (as_fn (reads t)) k n (λ v. omega (arith, v)))
      misfit_refused (one j) k n u f = absurd f
      misfit_refused (many j) k n u f =
          let (h, g) = laid (proto s) m.tag m.body lent.frame (strictly s lent.frame strict k.sent.framed) within in
          let ok = written_sound lent k.sent.valid j in
          let d : length (drop 7 m.body) ≡ get_or m.body 6 0 = simp length-drop (omega (arith, n)) in
          let stops = misfit_stops l j m.body d ok f (proto s) s.unit (answers b) (start_of (proto s)) in
          let c =
          chain_many_refused h (heard (as_fn (many j)) k) l g j (k.called ∙ as_code (many j)) n.1 u.1 u.0 OOBContext stops in
          (gives c (own_line (as_fn (many j)) k), refuses (as_fn (many j)) k n u.2)
