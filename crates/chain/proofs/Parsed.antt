-- What parse leaves of a frame, by kind of function.
-- Assumes nothing.
use mathlib.Core.Bool.{Bool, true, false}
use mathlib.Core.Logic.{◌⊎◌, inl, inr, ◌≢◌, by_cases}
use mathlib.Core.Path.{◌≡◌, refl, sym, ap, ◌∙◌, subst}
use mathlib.Core.List.{List, []}
use Prim.Native.Nat.{ℕ, ◌+◌, ◌≤◌, ◌<◌}
use native.Mathlib.Omega.{arith}
use lib.ListN.{length, get_or}
use Rattle.modbus.specs.Step.{go, choose, ◌≤?◌}
use Rattle.modbus.specs.Bytes.{word_at}
use Rattle.modbus.specs.Table.{Kind, Tab, kind_of}
use Rattle.modbus.specs.Ported.{Ported, reads, one, many, code_of, all_ported}
use Rattle.modbus.specs.Request.{most_read, most_written}
use Rattle.modbus.specs.Unit.{Listed, listed?}
use Rattle.modbus.specs.declared.ModbusProto.{ModbusProto}
use Rattle.modbus.specs.declared.ModbusProto.TheVariants.{Rtu, Ascii, TcpUdp}
use Rattle.modbus.proofs.StepLaws.{pass, fail, follow, halt}
use Rattle.modbus.proofs.FindLaws.{find_ported, find_none}
use Rattle.response.proofs.BoundedLaws.{extended_fits}
use Rattle.incoming.specs.Envelope.{check_follows, Countable}
use Rattle.outgoing.specs.Grow.{Response, response}
use Rattle.frame.specs.State.{func_of, fresh, started, grown, responding_to, with_func, with_error, answering, counting, to_process, well, ended}
use Rattle.frame.specs.Parse.{answered, read_accepted, read_parsed, many_accepted, requested, unsupported, function_named, header, for_us, addressed, frame_parsed}
use Rattle.std.specs.Prelude.{None}
use Rattle.frame.specs.declared.ModbusFrame.{ModbusFrame}
use Rattle.frame.proofs.ParseLaws.{stay, read_excess, read_accepted_law, many_excess, many_long, many_accepted_law}
use Rattle.chain.specs.Chain.{fullest}
use Rattle.chain.proofs.Response.{Bears, plus, plus_bears, copied, fullest_holds, take_short}
use Rattle.chain.proofs.Laid.{Laid, Good, byte_laid, word_laid}

-- the state of a request that is to be processed
abbrev pub ready : ModbusProto → ℕ → Bool → Bool → Ported → ℕ → ℕ → ℕ → ℕ → ModbusFrame
ready p unit answers readonly fn start reg count len =
    record {
      unit_id = unit;
      proto = p;
      processing_required = true;
      response_required = answers;
      responding_to_fn = code_of fn;
      readonly = readonly;
      frame_start = start;
      func = func_of fn;
      reg = reg;
      count = count;
      error = None;
      response_len = len;
    }

-- a broadcast is not answered
abbrev pub answers : Bool → Bool
answers true = false
answers false = true

-- a state with an exception's code set, to be answered unless the request is a broadcast
abbrev pub faulty : ℕ → Bool → ModbusFrame → ℕ → ModbusFrame
faulty c broadcast s len = with_error c (answering (answers broadcast) (grown len s))

countable : (p : ModbusProto) (n : ℕ) → n ≤ 255 → Countable p n
countable Rtu n h = h
countable Ascii n h = h
countable TcpUdp n h = tt

-- who is meant: the number is ours or a broadcast number; and the longest response has room
pub record Heard (p : ModbusProto) (u unit : ℕ) (list out : List ℕ) (broadcast : Bool) : Type 0 where
  pub room : fullest p ≤ length out
  pub listed : choose (listed? u list) true false ≡ broadcast
  pub ours : Listed u list ⊎ (u ≡ unit)

-- a request from its start on, and a response that bears what parse copied
pub record Standing (p : ModbusProto) (start n : ℕ) (lead : List ℕ) (r : Response) : Type 0 where
  pub low : start ≤ 6
  pub room : fullest p ≤ n
  pub short : length lead ≤ copied p
  pub bears : Bears n lead r

lead_short : (broadcast : Bool) (p : ModbusProto) (buf : List ℕ) → length (header broadcast p buf) ≤ copied p
lead_short true p buf = omega arith
lead_short false Rtu buf = omega arith
lead_short false Ascii buf = omega arith
lead_short false TcpUdp buf = take_short 4 buf

-- ---- up to the unit

module _ {p : ModbusProto} {tag body buf : List ℕ} {start : ℕ} (h : Laid p tag body buf start) (unit : ℕ)
    (list out : List ℕ) where
  abbrev pub begun : ModbusFrame
  begun = started start (fresh unit p)

  parsed_addressed : frame_parsed (fresh unit p) buf list out ≡ addressed begun buf list out
  unfolding frame_parsed
  parsed_addressed = ap ended (pass _ _ _ (omega arith) ∙ stay _ _ _ _ h.begun)

  -- what is for another unit
  pub parsed_foreign : 1 ≤ length body → ¬ (Listed (get_or body 0 0) list ⊎ (get_or body 0 0 ≡ unit))
      → frame_parsed (fresh unit p) buf list out ≡ well begun out
  unfolding addressed
  parsed_foreign some n =
      let u = byte_laid h 0 start (omega arith) (omega arith) in
      parsed_addressed
      ∙ ap ended (pass _ _ _ (omega (arith, h.whole))
      ∙ fail _ _ _ (λ r. n (subst (λ (x : ℕ). Listed x list ⊎ (x ≡ unit)) u r)))

module _ {p : ModbusProto} {tag body buf : List ℕ} {start : ℕ}
    (h : Laid p tag body buf start) {unit : ℕ} {list out : List ℕ} {broadcast : Bool}
    (heard : Heard p (get_or body 0 0) unit list out broadcast) where
  -- the response with the header that is copied
  abbrev pub lead : Response
  lead = plus (header broadcast p buf) (response 0 out)

  pub standing : Standing p start (length out) (header broadcast p buf) lead
  standing =
      record {
        low = h.low;
        room = heard.room;
        short = lead_short broadcast p buf;
        bears =
            plus_bears (length out) [] (header broadcast p buf)
            (omega (arith, lead_short broadcast p buf, fullest_holds p, heard.room)) (response 0 out)
            (record { long = refl; room = refl; front = refl });
      }

  -- ---- up to the function

  -- the state before it is known, and once it is
  abbrev met : ModbusFrame
  met = grown lead.len (begun h unit list out)

  abbrev pub known : Ported → ModbusFrame
  known fn = with_func (func_of fn) (responding_to (code_of fn) met)

  parsed_named : 2 ≤ length body → frame_parsed (fresh unit p) buf list out ≡ function_named broadcast met buf lead.out
  unfolding addressed
  parsed_named two =
      let u = byte_laid h 0 start (omega arith) (omega arith) in
      parsed_addressed h unit list out
      ∙ ap ended
      (pass _ _ _ (omega (arith, h.whole))
      ∙ pass _ _ _ (subst (λ (x : ℕ). Listed x list ⊎ (x ≡ unit)) (sym u) heard.ours)
      ∙ ap (λ (b : Bool). for_us b (begun h unit list out) buf out)
      (ap (λ (x : ℕ). choose (listed? x list) true false) u ∙ heard.listed)
      ∙ stay _ _ _ _
      (extended_fits out 0 (header broadcast p buf)
      (omega (arith, lead_short broadcast p buf, fullest_holds p, heard.room))))

  parsed_known : (fn : Ported) → 2 ≤ length body → get_or body 1 0 ≡ code_of fn
      → frame_parsed (fresh unit p) buf list out ≡ ended (requested fn broadcast met (known fn) buf lead.out)
  unfolding function_named
  parsed_known fn two c =
      let f = byte_laid h 1 (start + 1) refl (omega arith) ∙ c in
      parsed_named two
      ∙ ap ended (pass _ _ _ (omega (arith, h.whole)) ∙ follow _ _ (find_ported _ _ fn f))
      ∙ ap (λ (n : ℕ). ended (requested fn broadcast met (with_func (func_of fn) (responding_to n met)) buf lead.out)) f

  pub parsed_unsupported : 2 ≤ length body → ((fn : Ported) → get_or body 1 0 ≢ code_of fn)
      → frame_parsed (fresh unit p) buf list out
      ≡ well (unsupported broadcast (responding_to (get_or body 1 0) met)) lead.out
  unfolding function_named
  parsed_unsupported two none =
      let f = byte_laid h 1 (start + 1) refl (omega arith) in
      parsed_named two
      ∙ ap ended (pass _ _ _ (omega (arith, h.whole))
      ∙ halt _ _ (find_none code_of _ _ (λ fn q. none fn (sym f ∙ q)) all_ported))
      ∙ ap (λ (n : ℕ). well (unsupported broadcast (responding_to n met)) lead.out) f

  -- ---- once it is known

  check_of : Good p body buf start → (n : ℕ) → length body ≡ n → check_follows p buf start n ≡ go 0
  check_of g n e = ap (check_follows p buf start) (sym e) ∙ g

  -- a request for more than is permitted
  abbrev pub Over : Ported → Type 0
  Over fn =
      frame_parsed (fresh unit p) buf list out
      ≡ well (faulty 3 broadcast (counting (word_at body 4) (known fn)) lead.len) lead.out

  over_ready : (fn : Ported) (b : Bool) (x : ℕ)
      → with_error 3 (counting x (answered b (known fn))) ≡ faulty 3 b (counting x (known fn)) lead.len
  over_ready fn true x = refl
  over_ready fn false x = refl

  -- a write is to be processed, and answered unless it is a broadcast
  write_ready : (fn : Ported) (b : Bool) (x y : ℕ)
      → to_process false x (counting y (answered b (known fn))) ≡ ready p unit (answers b) false fn start x y lead.len
  write_ready fn true x y = refl
  write_ready fn false x y = refl

  module _ (t : Tab) (c : get_or body 1 0 ≡ code_of (reads t)) where
    -- a read on a broadcast number is ignored
    pub parsed_ignored : broadcast ≡ true → 2 ≤ length body
        → frame_parsed (fresh unit p) buf list out ≡ well (known (reads t)) lead.out
    parsed_ignored b two =
        parsed_known (reads t) two c
        ∙ ap (λ (x : Bool). ended (read_parsed (most_read (kind_of t)) x (known (reads t)) buf lead.out)) b

    module _ (g : Good p body buf start) (b : broadcast ≡ false) (n : length body ≡ 6) where
      read-parsed : frame_parsed (fresh unit p) buf list out
          ≡ ended (read_accepted (most_read (kind_of t)) (known (reads t)) buf lead.out)
      read-parsed =
          parsed_known (reads t) (omega arith) c
          ∙ ap (λ (x : Bool). ended (read_parsed (most_read (kind_of t)) x (known (reads t)) buf lead.out)) b
          ∙ ap ended (pass _ _ _ (omega (arith, h.whole)) ∙ stay _ _ _ _ (check_of g 6 n))

      pub parsed_read : word_at body 4 ≤ most_read (kind_of t)
          → frame_parsed (fresh unit p) buf list out
          ≡ well (ready p unit true true (reads t) start (word_at body 2) (word_at body 4) lead.len) lead.out
      parsed_read k =
          read-parsed
          ∙ read_accepted_law (most_read (kind_of t)) (known (reads t)) buf lead.out (word_at body 4)
          (sym (word_laid h 4 (omega arith))) k _ (sym (word_laid h 2 (omega arith)))

      pub parsed_read_over : most_read (kind_of t) < word_at body 4 → Over (reads t)
      parsed_read_over k =
          read-parsed
          ∙ read_excess (most_read (kind_of t)) (known (reads t)) buf lead.out (word_at body 4)
          (sym (word_laid h 4 (omega arith))) k
          ∙ ap (λ (x : Bool). well (faulty 3 x (counting (word_at body 4) (known (reads t))) lead.len) lead.out) (sym b)

  pub parsed_one : Good p body buf start → (k : Kind) → get_or body 1 0 ≡ code_of (one k) → length body ≡ 6
      → frame_parsed (fresh unit p) buf list out
      ≡ well (ready p unit (answers broadcast) false (one k) start (word_at body 2) 1 lead.len) lead.out
  parsed_one g k c n =
      parsed_known (one k) (omega arith) c
      ∙ ap ended (pass _ _ _ (omega (arith, h.whole)) ∙ stay _ _ _ _ (check_of g 6 n))
      ∙ ap (λ (s : ModbusFrame). well s lead.out) (write_ready (one k) broadcast _ 1)
      ∙ ap (λ (x : ℕ). well (ready p unit (answers broadcast) false (one k) start x 1 lead.len) lead.out)
      (word_laid h 2 (omega arith))

  module _ (g : Good p body buf start) (k : Kind) (c : get_or body 1 0 ≡ code_of (many k))
      (n : length body ≡ 7 + get_or body 6 0) where
    bytes_laid : get_or buf (start + 6) 0 ≡ get_or body 6 0
    bytes_laid = byte_laid h 6 (start + 6) refl (omega arith)

    many_parsed : get_or body 6 0 ≤ 248
        → frame_parsed (fresh unit p) buf list out
        ≡ ended (many_accepted (most_written k) broadcast (known (many k)) buf lead.out)
    many_parsed b =
        let y = bytes_laid in
        let z : length body ≡ 7 + get_or buf (start + 6) 0 = omega arith in
        parsed_known (many k) (omega arith) c
        ∙ ap ended
        (pass _ _ _ (omega (arith, h.whole)) ∙ pass _ _ _ (countable p _ (omega arith)) ∙ stay _ _ _ _ (check_of g _ z))

    pub parsed_many : get_or body 6 0 ≤ 246 → word_at body 4 ≤ most_written k
        → frame_parsed (fresh unit p) buf list out
        ≡ well (ready p unit (answers broadcast) false (many k) start (word_at body 2) (word_at body 4) lead.len)
        lead.out
    parsed_many b m =
        many_parsed (omega arith)
        ∙ many_accepted_law (most_written k) broadcast (known (many k)) buf lead.out (word_at body 4)
        (sym (word_laid h 4 (omega arith))) _ refl m (omega (arith, bytes_laid)) _ (sym (word_laid h 2 (omega arith)))
        ∙ ap (λ (s : ModbusFrame). well s lead.out) (write_ready (many k) broadcast _ _)

    pub parsed_many_over : get_or body 6 0 ≤ 248 → (most_written k < word_at body 4) ⊎ (246 < get_or body 6 0) → Over (many k)
    parsed_many_over b m =
        let w = sym (word_laid h 4 (omega arith)) in
        many_parsed b
        ∙ by_cases (word_at body 4 ≤? most_written k)
        (λ i.
        many_long (most_written k) broadcast (known (many k)) buf lead.out (word_at body 4) w _ refl i
        (elim m [ inl x ↦ absurd (omega arith) | inr x ↦ omega (arith, bytes_laid) ]))
        (λ i. many_excess (most_written k) broadcast (known (many k)) buf lead.out (word_at body 4) w _ refl (omega arith))
        ∙ ap (λ (s : ModbusFrame). well s lead.out) (over_ready (many k) broadcast _)
