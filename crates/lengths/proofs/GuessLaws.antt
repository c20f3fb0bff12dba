-- Each way out of the guess.
-- Assumes nothing.
use mathlib.Core.Logic.{⊎_elim}
use mathlib.Core.Path.{◌≡◌, ap, sym, ◌∙◌}
use mathlib.Core.List.{List}
use Prim.Native.Nat.{ℕ, suc, ◌+◌, ◌≤◌, ◌<◌}
use native.Mathlib.Omega.{arith}
use lib.ListN.{length, get_or, take, replicate, length-take, get_or-eq_default}
use lib.Seq.{sets, sets-eq, get_or-take, take_at}
use mir.Syntax.{w8, w64}
use mir.Val.{Fits}
use Rattle.modbus.specs.Step.{Step, stop, go, ◌≤?◌}
use Rattle.modbus.specs.Paper.{number}
use Rattle.modbus.specs.Bytes.{word_at}
use Rattle.modbus.specs.Frame.{around}
use Rattle.modbus.specs.declared.ErrorKind.{ErrorKind}
use Rattle.modbus.specs.declared.ErrorKind.TheVariants.{OOB, FrameBroken}
use Rattle.modbus.specs.declared.ModbusProto.{ModbusProto}
use Rattle.modbus.specs.declared.ModbusProto.TheVariants.{Ascii, TcpUdp}
use Rattle.modbus.proofs.FrameLaws.{spelled_strict}
use Rattle.modbus.proofs.PaperLaws.{told_same}
use Rattle.modbus.proofs.StepLaws.{pass, fail, follow, halt, pick_yes, pick_no, picked, needed}
use Rattle.ascii.specs.Reading.{Ending, finished, refused, Decoded, counted, text_parsed, parsed_into}
use Rattle.lengths.specs.Guess.{Many, Reads, Writes, request_body, response_body, in_byte, serial, guess, guess_under}
use Rattle.lengths.specs.Side.{body_of}
use Rattle.lengths.specs.declared.Side.{Side}
use Rattle.lengths.specs.declared.Side.TheVariants.{Request, Response}

writes_range : (n : ℕ) → Writes n → (5 ≤ n) × (n ≤ 16)
writes_range n w = ⊎_elim (λ q. omega arith) (⊎_elim (λ q. omega arith) (⊎_elim (λ q. omega arith) (λ q. omega arith))) w

module _ (b : List ℕ) where
  -- ---- a request's body

  pub request_many : Many (get_or b 1 0) → 7 ≤ length b → request_body b ≡ go (7 + get_or b 6 0)
  unfolding request_body
  request_many m h = pick_yes _ _ _ m ∙ pass _ _ _ h

  pub request_short : Many (get_or b 1 0) → length b < 7 → request_body b ≡ stop OOB
  unfolding request_body
  request_short m h = pick_yes _ _ _ m ∙ fail _ _ _ (λ (k : 7 ≤ length b). omega arith)

  pub request_other : ¬ (get_or b 1 0 ≡ 15) → ¬ (get_or b 1 0 ≡ 16) → request_body b ≡ go 6
  unfolding request_body
  request_other h k = pick_no _ _ _ (⊎_elim h k)

  -- ---- a response's body

  pub response_exception : 128 ≤ get_or b 1 0 → response_body b ≡ go 3
  unfolding response_body
  response_exception h = pick_yes _ _ _ h

  pub response_short : get_or b 1 0 < 128 → length b < 3 → response_body b ≡ stop OOB
  unfolding response_body
  response_short h k =
      pick_no _ _ _ (λ (p : 128 ≤ get_or b 1 0). omega arith) ∙ fail _ _ _ (λ (p : 3 ≤ length b). omega arith)

  pub response_read : Reads (get_or b 1 0) → 3 ≤ length b → response_body b ≡ go (3 + get_or b 2 0)
  unfolding response_body
  response_read h k = pick_no _ _ _ (λ (p : 128 ≤ get_or b 1 0). omega arith) ∙ pass _ _ _ k ∙ pick_yes _ _ _ h

  pub response_write : Writes (get_or b 1 0) → 3 ≤ length b → response_body b ≡ go 6
  unfolding response_body
  response_write w k =
      let h = writes_range (get_or b 1 0) w in
      pick_no _ _ _ (λ (p : 128 ≤ get_or b 1 0). omega arith)
      ∙ pass _ _ _ k
      ∙ pick_no _ _ _ (λ (p : Reads (get_or b 1 0)). omega arith)
      ∙ pick_yes _ _ _ w

  pub response_none : get_or b 1 0 < 128 → 3 ≤ length b → ¬ Reads (get_or b 1 0)
      → ¬ (get_or b 1 0 ≡ 5) → ¬ (get_or b 1 0 ≡ 6) → ¬ (get_or b 1 0 ≡ 15) → ¬ (get_or b 1 0 ≡ 16) → response_body b ≡ stop FrameBroken
  unfolding response_body
  response_none h k r h5 h6 h15 h16 =
      pick_no _ _ _ (λ (p : 128 ≤ get_or b 1 0). omega arith)
      ∙ pass _ _ _ k
      ∙ pick_no _ _ _ r
      ∙ pick_no _ _ _ (⊎_elim h5 (⊎_elim h6 (⊎_elim h15 h16)))

-- a byte count and what stands before it fit a number in memory
pub sum_fits : (k x : ℕ) → k ≤ 7 → Fits w8 x → Fits w64 (k + x)
sum_fits k x h y = record { fits = omega (arith, y.fits) }

-- ---- either body is at most 7 bytes and those of a byte count

abbrev pub Small : List ℕ → Type 0
Small b = (i : ℕ) → get_or b i 0 < 256

request_most : (b : List ℕ) (n : ℕ) → Small b → request_body b ≡ go n → n ≤ 262
unfolding request_body
request_most b n h e =
    picked _ _ _ e (λ m e₁. needed _ _ _ e₁ λ k e₂. let z : 7 + get_or b 6 0 ≡ n = cc in omega (arith, h 6))
    (λ m e₁. let z : 6 ≡ n = cc in omega arith)

response_most : (b : List ℕ) (n : ℕ) → Small b → response_body b ≡ go n → n ≤ 262
unfolding response_body
response_most b n h e =
    picked _ _ _ e (λ x e₁. let z : 3 ≡ n = cc in omega arith)
    (λ x e₁.
    needed _ _ _ e₁ λ k e₂.
    picked _ _ _ e₂ (λ r e₃. let z : 3 + get_or b 2 0 ≡ n = cc in omega (arith, h 2))
    (λ r e₃.
    picked _ _ _ e₃ (λ w e₄. let z : 6 ≡ n = cc in omega arith)
    (λ w e₄. let z : ◌≡◌ {A = ℕ} 0 1 = cc in absurd (omega arith))))

pub body_most : (side : Side) (b : List ℕ) (n : ℕ) → Small b → body_of side b ≡ go n → n ≤ 262
body_most Request = request_most
body_most Response = response_most

-- ---- what is read from text into the front of a buffer

counted_length : (d : Decoded) (e : Ending) (n : ℕ) → counted d e ≡ go n → length d.bytes ≡ n
counted_length d finished n q = cc
counted_length d (refused k) n q = let z : ◌≡◌ {A = ℕ} 0 1 = cc in absurd (omega arith)

sets_front : (l v : List ℕ) (n : ℕ) → length v ≡ n → n ≤ length l → take n (sets l 0 v) ≡ v
sets_front l v n e h = ap (take n) (sets-eq v l 0 (omega arith)) ∙ take_at v _ n e

module _ (l buf out : List ℕ) (m : ℕ) where
  abbrev read : Decoded
  read = text_parsed l m (length buf) 0

  pub parsed_front : (n : ℕ) → ((0, n), out) ≡ parsed_into l m buf 0 → n ≤ length buf
      → (counted read read.ending ≡ go n) × (take n out ≡ read.bytes)
  parsed_front n e h =
      let c : counted read read.ending ≡ go n = told_same _ (go n) (sym (ap (λ x. x.0) e)) in
      (c, ap (λ x. take n x.1) e ∙ sets_front buf read.bytes n (counted_length read read.ending n c) h)

  pub parsed_refused : (k : ErrorKind) → ((number k, 0), out) ≡ parsed_into l m buf 0 → counted read read.ending ≡ stop k
  parsed_refused k e = told_same (counted read read.ending) (stop k) (sym (ap (λ x. x.0) e))

-- ---- the frame

pub byte_fits : (n : ℕ) → n ≤ 255 → in_byte n ≡ go n
unfolding in_byte
byte_fits n h = pass _ _ _ h

pub byte_none : (n : ℕ) → 255 < n → in_byte n ≡ stop FrameBroken
unfolding in_byte
byte_none n h = fail _ _ _ (λ (k : n ≤ 255). omega arith)

module _ (body : List ℕ → Step ErrorKind ℕ) (f : List ℕ) where
  pub serial_short : (p : ModbusProto) → length f < 2 → serial body p f ≡ stop OOB
  unfolding serial
  serial_short p h = fail _ _ _ (λ (k : 2 ≤ length f). omega arith)

  pub serial_told : (p : ModbusProto) (n : ℕ) → 2 ≤ length f → body f ≡ go n → serial body p f ≡ in_byte (around p n)
  unfolding serial
  serial_told p n h e = pass _ _ _ h ∙ follow _ _ e

  pub serial_halt : (p : ModbusProto) (k : ErrorKind) → 2 ≤ length f → body f ≡ stop k → serial body p f ≡ stop k
  unfolding serial
  serial_halt p k h e = pass _ _ _ h ∙ halt _ _ e

  pub tcp_short : length f < 6 → guess body TcpUdp f ≡ stop OOB
  unfolding guess
  tcp_short h = fail _ _ _ (λ (k : 6 ≤ length f). omega arith)

  pub tcp_foreign : 6 ≤ length f → ¬ (word_at f 2 ≡ 0) → guess body TcpUdp f ≡ stop FrameBroken
  unfolding guess
  tcp_foreign h e = pass _ _ _ h ∙ fail _ _ _ e

  pub tcp_told : 6 ≤ length f → word_at f 2 ≡ 0 → guess body TcpUdp f ≡ in_byte (around TcpUdp (word_at f 4))
  unfolding guess
  tcp_told h e = pass _ _ _ h ∙ pass _ _ _ e

  -- a text as it is, or as a switch has it read, which is as long
  module _ (m : ℕ) (same : length f ≡ m) (out : List ℕ) where
    pub ascii_told : (n : ℕ) → ((0, n), out) ≡ parsed_into f m (replicate 256 0) 0 → n ≤ 256
        → guess body Ascii f ≡ serial body Ascii (take n out)
    unfolding guess
    ascii_told n e h =
        let r = parsed_front f (replicate 256 0) out m n e h in
        rw same (follow _ _ r.0 ∙ ap (serial body Ascii) (sym r.1))

    pub ascii_halt : (k : ErrorKind) → ((number k, 0), out) ≡ parsed_into f m (replicate 256 0) 0 → guess body Ascii f ≡ stop k
    unfolding guess
    ascii_halt k e = rw same (halt _ _ (parsed_refused f (replicate 256 0) out m k e))

-- ---- strict is the crate's guess, which knows no switch

pub strict : (body : List ℕ → Step ErrorKind ℕ) (p : ModbusProto) (f : List ℕ) → guess_under 0 body p f ≡ guess body p f
strict body p f = pass _ _ _ (omega arith) ∙ ap (guess body p) (spelled_strict p f)
