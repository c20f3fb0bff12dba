-- Each way out of `parse`, from its last steps to its first.
-- Assumes nothing.
use mathlib.Core.Bool.{Bool, true, false}
use mathlib.Core.Logic.{inl, inr, ⊎_elim}
use mathlib.Core.Path.{◌≡◌, refl, sym, ap, ◌∙◌}
use mathlib.Core.List.{List, []}
use Prim.Native.Nat.{ℕ, suc, ◌+◌, ◌≤◌, ◌<◌}
use native.Mathlib.Omega.{arith}
use lib.ListN.{length, take}
use Rattle.std.specs.Prelude.{Result, Ok, Err, ⊤}
use Rattle.modbus.specs.Step.{Step, stop, go, ◌>>=◌, choose}
use Rattle.modbus.specs.Paper.{told, done_paper, paper, told_with}
use Rattle.modbus.specs.Unit.{listed?}
use Rattle.modbus.specs.declared.ErrorKind.{ErrorKind}
use Rattle.modbus.specs.declared.ErrorKind.TheVariants.{OOB, FrameBroken}
use Rattle.modbus.specs.declared.ModbusProto.{ModbusProto}
use Rattle.modbus.specs.declared.ModbusProto.TheVariants.{Rtu, Ascii, TcpUdp}
use Rattle.modbus.proofs.StepLaws.{pass, fail, follow, halt, holds, holds_not, test_refuses, test_passes}
use Rattle.modbus.proofs.PaperLaws.{told_same, value_with, refusal_with}
use Rattle.modbus.proofs.FindLaws.{find_ported, find_none}
use Rattle.response.specs.Bounded.{extended}
use Rattle.response.proofs.BoundedLaws.{extended_fits}
use Rattle.incoming.specs.Envelope.{begins, check_follows, Countable, countable?}
use Rattle.incoming.proofs.EnvelopeLaws.{tcp_begun}
use Rattle.frame.specs.State.{ported_of, function_paper, function_of, started, grown, responding_to, with_func, with_error, answering, counting, to_process, After, well, refused, ended}
use Rattle.frame.specs.Parse.{or_leave, answered, first_word, second_word, byte_count, read_accepted, read_parsed, one_parsed, many_accepted, many_parsed, requested, unsupported, function_byte, function_named, header, copies_header, Headed, for_us, unit_byte, addressed, frame_parsed}
use Rattle.frame.specs.declared.ModbusFunction.{ModbusFunction}
use Rattle.frame.specs.declared.Unsupported.{Unsupported}
use Rattle.frame.specs.declared.ModbusFrame.{ModbusFrame}
use Rattle.frame.proofs.StateLaws.{fn_back, function_found, function_missing}

-- ---- a part that may refuse

module _ {A B : Type 0} (s : ModbusFrame) (out : List ℕ) (m : Step ErrorKind A) (next : A → Step After B) where
  pub leave : {k : ErrorKind} → m ≡ stop k → (or_leave s out m >>= next) ≡ stop (refused k s out)
  unfolding or_leave
  leave e = halt _ _ (rw e)

  pub stay : {a : A} → m ≡ go a → (or_leave s out m >>= next) ≡ next a
  unfolding or_leave
  stay e = follow _ _ (rw e)

-- r is what the code answered
module _ {B : Type 0} (s : ModbusFrame) (out : List ℕ) (m : Step ErrorKind ℕ) (next : ℕ → Step After B) (r : Result ⊤ ErrorKind)
    (e : done_paper r ≡ told m) where
  pub check_refused : (k : ErrorKind) → r ≡ Err k → (or_leave s out m >>= next) ≡ stop (refused k s out)
  check_refused k q = leave s out m next (told_same m (stop k) (sym e ∙ ap done_paper q))

  pub check_done : r ≡ (Ok tt) → (or_leave s out m >>= next) ≡ next 0
  check_done q = stay s out m next (told_same m (go 0) (sym e ∙ ap done_paper q))

-- ---- a read

-- n is the second word
module _ (most : ℕ) (s : ModbusFrame) (buf out : List ℕ) (n : ℕ) (e : n ≡ second_word s buf) where
  pub read_excess : most < n
      → ended (read_accepted most s buf out) ≡ well (with_error 3 (counting n (answering true s))) out
  read_excess h = rw e (ap ended (fail _ _ _ (λ (k : second_word s buf ≤ most). omega arith)))

  pub read_accepted_law : n ≤ most → (m : ℕ) → m ≡ first_word s buf
      → ended (read_accepted most s buf out) ≡ well (to_process s.readonly m (counting n (answering true s))) out
  read_accepted_law h m q = rw (e, q) (ap ended (pass _ _ _ (omega arith)))

module _ (most : ℕ) (broadcast : Bool) (s : ModbusFrame) (buf out : List ℕ) where
  pub read_ignored : broadcast ≡ true → ended (read_parsed most broadcast s buf out) ≡ well s out
  read_ignored b = rw b

  module _ (b : broadcast ≡ false) where
    pub read_short : length buf < s.frame_start + 6
        → ended (read_parsed most broadcast s buf out) ≡ refused FrameBroken s out
    read_short h = rw b (ap ended (fail _ _ _ (λ (k : s.frame_start + 6 ≤ length buf). omega arith)))

    module _ (h : s.frame_start + 6 ≤ length buf) (r : Result ⊤ ErrorKind)
        (e : done_paper r ≡ told (check_follows s.proto buf s.frame_start 6)) where
      pub read_refused : (k : ErrorKind) → r ≡ Err k → ended (read_parsed most broadcast s buf out) ≡ refused k s out
      read_refused k q = rw b (ap ended (pass _ _ _ h ∙ check_refused _ _ _ _ r e k q))

      pub read_checked : r ≡ (Ok tt) → ended (read_parsed most broadcast s buf out) ≡ ended (read_accepted most s buf out)
      read_checked q = rw b (ap ended (pass _ _ _ h ∙ check_done _ _ _ _ r e q))

-- ---- a write of one

module _ (broadcast : Bool) (s : ModbusFrame) (buf out : List ℕ) where
  pub one_short : length buf < s.frame_start + 4 → ended (one_parsed broadcast s buf out) ≡ refused FrameBroken s out
  one_short h = ap ended (fail _ _ _ (λ (k : s.frame_start + 4 ≤ length buf). omega arith))

  module _ (h : s.frame_start + 4 ≤ length buf) (r : Result ⊤ ErrorKind)
      (e : done_paper r ≡ told (check_follows s.proto buf s.frame_start 6)) where
    pub one_refused : (k : ErrorKind) → r ≡ Err k → ended (one_parsed broadcast s buf out) ≡ refused k s out
    one_refused k q = ap ended (pass _ _ _ h ∙ check_refused _ _ _ _ r e k q)

    pub one_checked : r ≡ (Ok tt) → (a : ModbusFrame) → a ≡ answered broadcast s → (n : ℕ) → n ≡ first_word s buf
        → ended (one_parsed broadcast s buf out) ≡ well (to_process false n (counting 1 a)) out
    one_checked q a p n f = rw (p, f) (ap ended (pass _ _ _ h ∙ check_done _ _ _ _ r e q))

-- ---- a write of many

-- n is the second word, a the state with the answer asked for
module _ (most : ℕ) (broadcast : Bool) (s : ModbusFrame) (buf out : List ℕ) (n : ℕ) (e : n ≡ second_word s buf)
    (a : ModbusFrame) (p : a ≡ answered broadcast s) where
  pub many_excess : most < n → ended (many_accepted most broadcast s buf out) ≡ well (with_error 3 (counting n a)) out
  many_excess h = rw (e, p) (ap ended (fail _ _ _ (λ (k : second_word s buf ≤ most). omega arith)))

  pub many_long : n ≤ most → 246 < byte_count s buf
      → ended (many_accepted most broadcast s buf out) ≡ well (with_error 3 (counting n a)) out
  many_long h l =
      rw (e, p) (ap ended (pass _ _ _ (omega arith) ∙ fail _ _ _ (λ (k : byte_count s buf ≤ 246). omega arith)))

  pub many_accepted_law : n ≤ most → byte_count s buf ≤ 246 → (m : ℕ) → m ≡ first_word s buf
      → ended (many_accepted most broadcast s buf out) ≡ well (to_process false m (counting n a)) out
  many_accepted_law h l m q = rw (e, p, q) (ap ended (pass _ _ _ (omega arith) ∙ pass _ _ _ l))

module _ (most : ℕ) (broadcast : Bool) (given s : ModbusFrame) (buf out : List ℕ) where
  pub many_short : length buf < s.frame_start + 7
      → ended (many_parsed most broadcast given s buf out) ≡ refused FrameBroken s out
  many_short h = ap ended (fail _ _ _ (λ (k : s.frame_start + 7 ≤ length buf). omega arith))

  -- n is the length of the check, t the code's test of it
  module _ (h : s.frame_start + 7 ≤ length buf) (n : ℕ) (l : n ≡ 7 + byte_count s buf) (t : Bool)
      (g : t ≡ choose (countable? s.proto n) false true) where
    pub many_overflows : t ≡ true → ended (many_parsed most broadcast given s buf out) ≡ refused FrameBroken given out
    many_overflows w = ap ended (pass _ _ _ h ∙ fail _ _ _ (rw l at (test_refuses _ t g w)))

    module _ (w : t ≡ false) (r : Result ⊤ ErrorKind) (e : done_paper r ≡ told (check_follows s.proto buf s.frame_start n)) where
      countable : Countable s.proto (7 + byte_count s buf)
      countable = rw l at (test_passes _ t g w)

      pub many_refused : (k : ErrorKind) → r ≡ Err k
          → ended (many_parsed most broadcast given s buf out) ≡ refused k s out
      many_refused k q = ap ended (pass _ _ _ h ∙ pass _ _ _ countable ∙ check_refused _ _ _ _ r (rw l at e) k q)

      pub many_checked : r ≡ (Ok tt)
          → ended (many_parsed most broadcast given s buf out) ≡ ended (many_accepted most broadcast s buf out)
      many_checked q = ap ended (pass _ _ _ h ∙ pass _ _ _ countable ∙ check_done _ _ _ _ r (rw l at e) q)

-- ---- the function

module _ (broadcast : Bool) (s : ModbusFrame) (buf out : List ℕ) where
  pub named_short : length buf < s.frame_start + 2 → function_named broadcast s buf out ≡ refused FrameBroken s out
  unfolding function_named
  named_short h = ap ended (fail _ _ _ (λ (k : s.frame_start + 2 ≤ length buf). omega arith))

  module _ (h : s.frame_start + 2 ≤ length buf) where
    pub named_unsupported : (u : Unsupported) → function_of (function_byte s buf) ≡ function_paper (Err u)
        → function_named broadcast s buf out ≡ well (unsupported broadcast (responding_to (function_byte s buf) s)) out
    unfolding function_named
    named_unsupported u e = ap ended (pass _ _ _ h ∙ halt _ _ (find_none _ _ _ (function_missing _ u e) _))

    pub named_supported : (f : ModbusFunction) → function_of (function_byte s buf) ≡ function_paper (Ok f)
        → (t : ModbusFrame) → t ≡ with_func f (responding_to (function_byte s buf) s)
        → function_named broadcast s buf out ≡ ended (requested (ported_of f) broadcast s t buf out)
    unfolding function_named
    named_supported f e t w =
        function_found _ f e λ fn p q.
        ap ended (pass _ _ _ h ∙ follow _ _ (find_ported _ _ fn p)) ∙ (rw (w, ← q, fn_back))

-- ---- the unit

-- what is copied, by whether it is
abbrev copied : Bool → List ℕ → List ℕ
copied true buf = take 4 buf
copied false buf = []

header_copied : (broadcast : Bool) (p : ModbusProto) (buf : List ℕ)
    → header broadcast p buf ≡ copied (copies_header broadcast p) buf
header_copied true p buf = refl
header_copied false Rtu buf = refl
header_copied false Ascii buf = refl
header_copied false TcpUdp buf = refl

-- only TCP has one
pub header_there : (broadcast : Bool) (p : ModbusProto) (buf : List ℕ) → copies_header broadcast p ≡ true → Headed p buf
    → 4 ≤ length buf
header_there true p buf e h = let z : ◌≡◌ {A = ℕ} 0 1 = cc in absurd (omega arith)
header_there false Rtu buf e h = let z : ◌≡◌ {A = ℕ} 0 1 = cc in absurd (omega arith)
header_there false Ascii buf e h = let z : ◌≡◌ {A = ℕ} 0 1 = cc in absurd (omega arith)
header_there false TcpUdp buf e h = h

module _ (broadcast : Bool) (s : ModbusFrame) (buf out : List ℕ) where
  pub us_bare : copies_header broadcast s.proto ≡ false → s.response_len ≤ length out
      → ended (for_us broadcast s buf out) ≡ function_named broadcast s buf out
  us_bare e h =
      let k : s.response_len + 0 ≡ s.response_len = omega arith in
      let x = extended_fits out s.response_len [] (omega arith) in
      rw (header_copied broadcast s.proto buf, e)
      (ap ended (stay _ _ _ _ x) ∙ ap (λ (n : ℕ). function_named broadcast (grown n s) buf out) k)

  -- r is what the code answered, and now what the slice then held
  module _ (e : copies_header broadcast s.proto ≡ true) (r : Result ℕ ErrorKind) (now : List ℕ)
      (p : (paper r, now) ≡ told_with out (extended out s.response_len (take 4 buf))) where
    pub us_full : (k : ErrorKind) → r ≡ Err k → ended (for_us broadcast s buf out) ≡ refused k s now
    us_full k q =
        let w = refusal_with out now _ k (rw q at p) in
        rw (header_copied broadcast s.proto buf, e, w.1) (ap ended (leave _ _ _ _ w.0))

    pub us_headed : (n : ℕ) → r ≡ Ok n → ended (for_us broadcast s buf out) ≡ function_named broadcast (grown n s) buf now
    us_headed n q =
        rw (header_copied broadcast s.proto buf, e)
        (ap ended (stay _ _ _ _ (value_with out now _ n (rw q at p))))

module _ (s : ModbusFrame) (buf list out : List ℕ) where
  pub address_short : length buf ≤ s.frame_start → addressed s buf list out ≡ refused FrameBroken s out
  unfolding addressed
  address_short h = ap ended (fail _ _ _ (λ (k : suc s.frame_start ≤ length buf). omega arith))

  -- b is what the code says of the list
  module _ (h : s.frame_start < length buf) (b : Bool)
      (e : b ≡ choose (listed? (unit_byte s buf) list) true false) where
    pub address_broadcast : b ≡ true → addressed s buf list out ≡ ended (for_us b s buf out)
    unfolding addressed
    address_broadcast t =
        ap ended (pass _ _ _ h ∙ pass _ _ _ (inl (holds _ b e t)))
        ∙ ap (λ (x : Bool). ended (for_us x s buf out)) (sym e)

    pub address_foreign : b ≡ false → ¬ (unit_byte s buf ≡ s.unit_id) → addressed s buf list out ≡ well s out
    unfolding addressed
    address_foreign t n = ap ended (pass _ _ _ h ∙ fail _ _ _ (⊎_elim (holds_not _ b e t) n))

    pub address_own : unit_byte s buf ≡ s.unit_id → addressed s buf list out ≡ ended (for_us b s buf out)
    unfolding addressed
    address_own u =
        ap ended (pass _ _ _ h ∙ pass _ _ _ (inr u))
        ∙ ap (λ (x : Bool). ended (for_us x s buf out)) (sym e)

-- ---- the start

-- a TCP frame that begins has its header
headed : (p : ModbusProto) (start : ℕ) (buf : List ℕ) {n : ℕ} → begins p start buf ≡ go n → Headed p buf
headed Rtu start buf e = tt
headed Ascii start buf e = tt
headed TcpUdp start buf e = omega (arith, tcp_begun start buf e)

pub parse_exceeds : (s : ModbusFrame) (buf list out : List ℕ) → length out < s.response_len
    → frame_parsed s buf list out ≡ refused OOB s out
unfolding frame_parsed
parse_exceeds s buf list out h = ap ended (fail _ _ _ (λ (k : s.response_len ≤ length out). omega arith))

-- r is what the code answered
module _ (s : ModbusFrame) (buf : List ℕ) (r : Result ℕ ErrorKind)
    (e : paper r ≡ told (begins s.proto s.frame_start buf)) where
  pub parse_headed : (n : ℕ) → r ≡ Ok n → Headed s.proto buf
  parse_headed n q = headed _ _ buf (told_same _ (go n) (sym e ∙ ap paper q))

  module _ (list out : List ℕ) (h : s.response_len ≤ length out) where
    pub parse_broken : (k : ErrorKind) → r ≡ Err k → frame_parsed s buf list out ≡ refused k s out
    unfolding frame_parsed
    parse_broken k q = ap ended (pass _ _ _ h ∙ leave _ _ _ _ (told_same _ (stop k) (sym e ∙ ap paper q)))

    pub parse_begun : (n : ℕ) → r ≡ Ok n → frame_parsed s buf list out ≡ addressed (started n s) buf list out
    unfolding frame_parsed
    parse_begun n q = ap ended (pass _ _ _ h ∙ stay _ _ _ _ (told_same _ (go n) (sym e ∙ ap paper q)))
