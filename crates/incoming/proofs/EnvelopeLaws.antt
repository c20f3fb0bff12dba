-- Each way out of what is read of a request before it is known what is asked, by transport.
-- Assumes nothing.
use mathlib.Core.Bool.{Bool, true, false}
use mathlib.Core.Path.{◌≡◌, refl, sym, ap, ap₂, ◌∙◌}
use mathlib.Core.List.{List, [], ◌∷◌, ◌++◌}
use Prim.Native.Nat.{ℕ, ◌+◌, ◌/◌, ◌%◌, ◌≤◌, ◌<◌}
use native.Mathlib.Omega.{arith}
use native.Mathlib.Numerals.{add-one}
use lib.Dec.{ltb}
use lib.ListN.{length, get_or, take, drop, length-drop, length-append}
use lib.Seq.{take-suc, take-length, drop-append_seam, get_or-drop}
use borrow.Author.Tests.{lt-ltb, le-ltb}
use Rattle.std.specs.Prelude.{Result, Ok, Err}
use Rattle.modbus.specs.Step.{stop, go, choose, ◌≤?◌}
use Rattle.modbus.specs.Bytes.{word_at}
use Rattle.modbus.specs.Check.{crc, lrc}
use Rattle.modbus.specs.Paper.{told, paper}
use Rattle.modbus.specs.declared.ErrorKind.{ErrorKind}
use Rattle.modbus.specs.declared.ErrorKind.TheVariants.{FrameBroken, FrameCRCError}
use Rattle.modbus.specs.declared.ModbusProto.{ModbusProto}
use Rattle.modbus.specs.declared.ModbusProto.TheVariants.{Rtu, Ascii, TcpUdp}
use Rattle.modbus.proofs.StepLaws.{pass, fail, needed, needed_stop, either}
use Rattle.modbus.proofs.PaperLaws.{byte_value, byte_refusal}
use Rattle.checks.specs.Within.{lrc_within}
use Rattle.incoming.specs.Envelope.{begins, follows, check_follows, Countable, frame_checked}

-- ---- where the unit stands

module _ (start : ℕ) (buf : List ℕ) where
  pub rtu_begins : begins Rtu start buf ≡ go start
  unfolding begins
  rtu_begins = refl

  pub ascii_begins : begins Ascii start buf ≡ go start
  unfolding begins
  ascii_begins = refl

  pub header_short : length buf < 6 → begins TcpUdp start buf ≡ stop FrameBroken
  unfolding begins
  header_short h = fail _ _ _ (λ (k : 6 ≤ length buf). omega arith)

  pub header_foreign : 6 ≤ length buf → ¬ (word_at buf 2 ≡ 0) → begins TcpUdp start buf ≡ stop FrameBroken
  unfolding begins
  header_foreign h n = pass _ _ _ h ∙ fail _ _ _ n

  module _ (h : 6 ≤ length buf) (e : word_at buf 2 ≡ 0) where
    pub header_length : ¬ ((6 ≤ word_at buf 4) × (word_at buf 4 ≤ 250)) → begins TcpUdp start buf ≡ stop FrameBroken
    unfolding begins
    header_length n = pass _ _ _ h ∙ pass _ _ _ e ∙ fail _ _ _ n

    pub tcp_begins : 6 ≤ word_at buf 4 → word_at buf 4 ≤ 250 → begins TcpUdp start buf ≡ go 6
    unfolding begins
    tcp_begins l m = pass _ _ _ h ∙ pass _ _ _ e ∙ pass _ _ _ (l, m)

  -- a header's place does not depend on the start, and a header that goes through is whole
  pub tcp_anywhere : begins TcpUdp start buf ≡ begins TcpUdp 0 buf
  unfolding begins
  tcp_anywhere = refl

  pub tcp_begun : {n : ℕ} → begins TcpUdp start buf ≡ go n → (n ≡ 6) × (6 ≤ length buf)
  unfolding begins
  tcp_begun {n} e = needed _ _ _ e λ h e₁. needed _ _ _ e₁ λ _ e₂. needed _ _ _ e₂ λ _ e₃. (cc, h)

-- ---- bytes at a place

module _ (buf : List ℕ) (at : ℕ) (d : List ℕ) where
  pub follows_beyond : length buf < at + length d → follows buf at d ≡ stop FrameBroken
  unfolding follows
  follows_beyond h = fail _ _ _ (λ (k : at + length d ≤ length buf). omega arith)

  module _ (h : at + length d ≤ length buf) where
    pub follows_there : take (length d) (drop at buf) ≡ d → follows buf at d ≡ go 0
    unfolding follows
    follows_there e = pass _ _ _ h ∙ pass _ _ _ e

    pub follows_not : ¬ (take (length d) (drop at buf) ≡ d) → follows buf at d ≡ stop FrameCRCError
    unfolding follows
    follows_not n = pass _ _ _ h ∙ fail _ _ _ n

    -- one byte more is the same
    pub same_further : (i : ℕ) → i < length d → get_or buf (at + i) 0 ≡ get_or d i 0 → take i (drop at buf) ≡ take i d
        → take (i + 1) (drop at buf) ≡ take (i + 1) d
    same_further i j g e =
        let k : i < length (drop at buf) = simp length-drop (omega arith) in
        rw (add-one i)
        (take-suc _ i 0 k
        ∙ ap₂ (λ (l : List ℕ) (x : ℕ). l ++ (x ∷ [])) e (get_or-drop at buf i 0 ∙ g)
        ∙ sym (take-suc d i 0 j))

-- bytes behind others follow them
pub follows_behind : (b d : List ℕ) → follows (b ++ d) (length b) d ≡ go 0
follows_behind b d =
    follows_there (b ++ d) (length b) d (omega (arith, length-append b d)) (rw drop-append_seam (take-length d))

-- ---- the check

module _ (buf : List ℕ) (start n : ℕ) where
  -- x is the CRC
  pub rtu_checked : (x : ℕ) → x ≡ crc (take n buf)
      → check_follows Rtu buf start n ≡ follows buf (start + n) (x % 256 ∷ x / 256 ∷ [])
  unfolding check_follows
  rtu_checked x e = rw e

  -- r is what the code answered for the LRC
  module _ (r : Result ℕ ErrorKind) (e : paper r ≡ told (lrc_within buf n)) where
    pub ascii_checked : (v : ℕ) → r ≡ Ok v → check_follows Ascii buf start n ≡ follows buf (start + n) (v ∷ [])
    unfolding check_follows
    ascii_checked v q =
        needed _ _ _ (byte_value r (lrc_within buf n) v e q) λ h p.
        let z : lrc (take n buf) ≡ v = cc in
        rw z

    pub ascii_short : (k : ErrorKind) → r ≡ Err k → check_follows Ascii buf start n ≡ stop k
    unfolding check_follows
    ascii_short k q =
        needed_stop _ _ _ (byte_refusal r (lrc_within buf n) k e q)
        (λ h x. follows_beyond buf (start + n) _ (omega arith) ∙ ap stop x)
        (λ h p. let z : ◌≡◌ {A = ℕ} 0 1 = cc in absurd (omega arith))

  pub tcp_checked : check_follows TcpUdp buf start n ≡ go 0
  unfolding check_follows
  tcp_checked = refl

countable_byte : (p : ModbusProto) (n : ℕ) → n ≤ 255 → Countable p n
countable_byte Rtu n h = h
countable_byte Ascii n h = h
countable_byte TcpUdp n h = tt

pub over_byte : (n : ℕ) → ltb 255 n ≡ choose (n ≤? 255) false true
over_byte n = either (λ (r : Bool). ltb 255 n ≡ r) _ _ _ (λ h. le-ltb _ _ h) (λ h. lt-ltb 255 n (omega arith))

pub frame_counted : (p : ModbusProto) (buf : List ℕ) (start n : ℕ) → Countable p n → frame_checked p buf start n ≡ check_follows p buf start n
unfolding frame_checked
frame_counted p buf start n h = pass _ _ _ h

pub frame_byte : (p : ModbusProto) (buf : List ℕ) (start n : ℕ) → n ≤ 255 → frame_checked p buf start n ≡ check_follows p buf start n
frame_byte p buf start n h = frame_counted p buf start n (countable_byte p n h)
