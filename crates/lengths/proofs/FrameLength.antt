-- The guess is right: given a whole frame, it says the frame's length, for every request of the crate's functions, every
-- reply to one and every exception.
-- Assumes nothing.
use mathlib.Core.Logic.{◌⊎◌, inl, inr, ⊎_elim}
use mathlib.Core.Path.{◌≡◌, refl, sym, ap, ◌∙◌}
use mathlib.Core.List.{List, [], ◌∷◌, ◌++◌}
use Prim.Native.Nat.{ℕ, ◌+◌, ◌≤◌}
use native.Mathlib.Omega.{arith}
use native.Mathlib.Nat.{div-add-mod'}
use lib.ListN.{length, length-append}
use Rattle.modbus.specs.Step.{Step, go, ◌>>=◌}
use Rattle.modbus.specs.Bytes.{Bytes}
use Rattle.modbus.specs.Check.{lrc}
use Rattle.modbus.specs.Table.{Kind, bit, word, Tab, coils, discretes, holdings, inputs, kind_of}
use Rattle.modbus.specs.Request.{Ask, code, reads, one, many, Pads, pdu, answer, exception}
use Rattle.modbus.specs.Frame.{wrap, tag_length, around}
use Rattle.modbus.specs.declared.ErrorKind.{ErrorKind}
use Rattle.modbus.specs.declared.ModbusProto.{ModbusProto}
use Rattle.modbus.specs.declared.ModbusProto.TheVariants.{Rtu, Ascii, TcpUdp}
use Rattle.modbus.proofs.StepLaws.{pass}
use Rattle.modbus.proofs.BytesLaws.{bytes_append}
use Rattle.modbus.proofs.CheckLaws.{lrc_lt}
use Rattle.modbus.proofs.CargoLaws.{length_cargo}
use Rattle.modbus.proofs.AnswerLaws.{length_shown}
use Rattle.modbus.proofs.FrameLaws.{length_wrap, wrap_spelled}
use Rattle.ascii.proofs.RoundTrip.{round_trip}
use Rattle.lengths.specs.Guess.{Many, Reads, request_body, response_body, in_byte, serial, guess, guess_under}
use Rattle.lengths.specs.PortedAsk.{PortedAsk, ported_read, ported_write, ported_writes}
use Rattle.lengths.proofs.GuessLaws.{request_many, request_other, response_exception, response_read, response_write, byte_fits, serial_told, tcp_told}

-- the body's own bytes tell its length, whatever stands after them
abbrev pub Tells : (List ℕ → Step ErrorKind ℕ) → List ℕ → Type 0
Tells body b = (2 ≤ length b) × ((more : List ℕ) → body (b ++ more) ≡ go (length b))

-- ---- the bodies

reads_code : (t : Tab) → Reads (code (reads t))
reads_code coils = omega arith
reads_code discretes = omega arith
reads_code holdings = omega arith
reads_code inputs = omega arith

one_code : (k : Kind) → (code (one k) ≡ 5) ⊎ (code (one k) ≡ 6)
one_code bit = inl refl
one_code word = inr refl

many_code : (k : Kind) → Many (code (many k))
many_code bit = inl refl
many_code word = inr refl

pub request_tells : (u : ℕ) {a : Ask} → PortedAsk a → (pad : List ℕ) → Pads a pad → Tells request_body (u ∷ pdu a pad)
request_tells u (ported_read t s n) pad f =
    let h = reads_code t in (omega arith, λ more. request_other _ (λ e. omega arith) (λ e. omega arith))
request_tells u (ported_write k s v) pad f =
    let h : code (one k) ≤ 6 = ⊎_elim (λ e. omega arith) (λ e. omega arith) (one_code k) in
    (omega arith, λ more. request_other _ (λ e. omega arith) (λ e. omega arith))
request_tells u (ported_writes k s vs) pad f = (
  omega arith,
  λ more. request_many _ (many_code k) (omega arith) ∙ ap go (omega (arith, length_cargo k vs pad f)),
)

pub reply_tells : (u : ℕ) {a : Ask} → PortedAsk a → (vs : List ℕ) → Tells response_body (u ∷ answer a vs)
reply_tells u (ported_read t s n) vs = (
  omega arith,
  λ more. response_read _ (reads_code t) (omega arith) ∙ ap go (omega (arith, length_shown (kind_of t) vs)),
)
reply_tells u (ported_write k s v) vs =
    (omega arith, λ more. response_write _ (⊎_elim inl (λ e. inr (inl e)) (one_code k)) (omega arith))
reply_tells u (ported_writes k s ws) vs = (omega arith, λ more. response_write _ (inr (inr (many_code k))) (omega arith))

pub exception_tells : (u fn c : ℕ) → Tells response_body (u ∷ exception fn c)
exception_tells u fn c = (omega arith, λ more. response_exception _ (omega arith))

-- ---- the frames

tcp_whole : (body : List ℕ → Step ErrorKind ℕ) (tag b : List ℕ) → length tag ≡ 2
    → guess body TcpUdp (wrap TcpUdp tag b) ≡ in_byte (around TcpUdp (length b))
tcp_whole body [] b e = absurd (omega arith)
tcp_whole body (x ∷ []) b e = absurd (omega arith)
tcp_whole body (x ∷ y ∷ z ∷ l) b e = absurd (omega arith)
tcp_whole body (x ∷ y ∷ []) b e =
    tcp_told body _ (omega arith) refl ∙ ap (λ n. in_byte (around TcpUdp n)) (div-add-mod' (length b) 256)

ascii_whole : (body : List ℕ → Step ErrorKind ℕ) (b : List ℕ) → Bytes b → length b ≤ 253
    → guess body Ascii (wrap Ascii [] b) ≡ serial body Ascii (b ++ (lrc b ∷ []))
unfolding guess ◌>>=◌
ascii_whole body b y h =
    let z : Bytes (b ++ (lrc b ∷ [])) = bytes_append b (lrc b ∷ []) y (lrc_lt b, tt) in
    let n = length-append b (lrc b ∷ []) in
    rw (round_trip (b ++ (lrc b ∷ [])) z 256 0 (omega arith) (omega arith))

around_more : (p : ModbusProto) (n : ℕ) → n + 2 ≤ around p n
around_more Rtu n = omega arith
around_more Ascii n = omega arith
around_more TcpUdp n = omega arith

three : (p : ModbusProto) → around p 3 ≤ 255
three Rtu = omega arith
three Ascii = omega arith
three TcpUdp = omega arith

module _ (body : List ℕ → Step ErrorKind ℕ) (p : ModbusProto) (tag b : List ℕ)
    (t : Tells body b) (y : Bytes b) (e : length tag ≡ tag_length p) where
  -- of a whole frame the guess is its length, or FrameBroken where no byte holds that; a check stands after the body
  pub whole : length b ≤ 253 → guess body p (wrap p tag b) ≡ in_byte (length (wrap p tag b))
  unfolding guess
  whole h = by p e ∙ ap in_byte (sym (length_wrap p tag b e))
    where
      behind : (q : ModbusProto) (more : List ℕ) → serial body q (b ++ more) ≡ in_byte (around q (length b))
      behind q more = serial_told body (b ++ more) q _ (simp length-append (omega arith)) (t.1 more)

      by : (q : ModbusProto) → length tag ≡ tag_length q → guess body q (wrap q tag b) ≡ in_byte (around q (length b))
      by Rtu _ = behind Rtu _
      by Ascii _ = ascii_whole body b y h ∙ behind Ascii _
      by TcpUdp f = tcp_whole body tag b f

  guessed : length (wrap p tag b) ≤ 255 → guess body p (wrap p tag b) ≡ go (length (wrap p tag b))
  guessed h = whole (omega (arith, length_wrap p tag b e, around_more p (length b))) ∙ byte_fits _ h

module _ (p : ModbusProto) (tag : List ℕ) (e : length tag ≡ tag_length p) (u : ℕ) where
  pub request_length : {a : Ask} → PortedAsk a → (pad : List ℕ) → Pads a pad → Bytes (u ∷ pdu a pad)
      → length (wrap p tag (u ∷ pdu a pad)) ≤ 255
      → guess request_body p (wrap p tag (u ∷ pdu a pad)) ≡ go (length (wrap p tag (u ∷ pdu a pad)))
  request_length k pad f y h = guessed _ p tag _ (request_tells u k pad f) y e h

  pub reply_length : {a : Ask} → PortedAsk a → (vs : List ℕ) → Bytes (u ∷ answer a vs)
      → length (wrap p tag (u ∷ answer a vs)) ≤ 255
      → guess response_body p (wrap p tag (u ∷ answer a vs)) ≡ go (length (wrap p tag (u ∷ answer a vs)))
  reply_length k vs y h = guessed _ p tag _ (reply_tells u k vs) y e h

  -- an exception's frame always fits
  pub exception_length : (fn c : ℕ) → Bytes (u ∷ exception fn c)
      → guess response_body p (wrap p tag (u ∷ exception fn c)) ≡ go (length (wrap p tag (u ∷ exception fn c)))
  exception_length fn c y =
      guessed _ p tag _ (exception_tells u fn c) y e (omega (arith, length_wrap p tag (u ∷ exception fn c) e, three p))

-- and the same under both switches
pub under_switch : (hex : ℕ) → hex ≤ 1 → (body : List ℕ → Step ErrorKind ℕ) (p : ModbusProto) (tag b : List ℕ) → Bytes b
    → guess_under hex body p (wrap p tag b) ≡ guess body p (wrap p tag b)
under_switch hex low body p tag b y = pass _ _ _ low ∙ ap (guess body p) (wrap_spelled p hex tag b y)
