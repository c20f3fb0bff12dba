-- Where a body stands in the bytes that the crate is given, on every transport: whole, from its start on, with the
-- check that parse computes.
-- Assumes nothing.
use mathlib.Core.Bool.{false}
use mathlib.Core.Path.{◌≡◌, refl, sym, ap, ◌∙◌, subst}
use mathlib.Core.List.{List, [], ◌∷◌, ◌++◌}
use Prim.Native.Nat.{ℕ, suc, ◌+◌, ◌-◌, ◌≤◌, ◌<◌}
use native.Mathlib.Omega.{arith}
use native.Mathlib.Nat.{zero-add, div-add-mod'}
use lib.ListN.{length, take, drop, get_or, length-append, length-drop}
use lib.Seq.{take_at, drop_at, take-append_seam, take-length, length-take-le, take-take, take-add, drop-drop, get_or-take, get_or-drop}
use Rattle.modbus.specs.Step.{go}
use Rattle.modbus.specs.Bytes.{Bytes, word_at}
use Rattle.modbus.specs.Check.{lrc}
use Rattle.modbus.specs.Hex.{text, untext}
use Rattle.modbus.specs.Frame.{line, wrap, tag_length, start_of, Framed}
use Rattle.modbus.specs.Decode.{crc_bytes}
use Rattle.modbus.specs.declared.ModbusProto.{ModbusProto}
use Rattle.modbus.specs.declared.ModbusProto.TheVariants.{Rtu, Ascii, TcpUdp}
use Rattle.modbus.proofs.BytesLaws.{bytes_append}
use Rattle.modbus.proofs.CheckLaws.{lrc_lt}
use Rattle.modbus.proofs.HexLaws.{untext_text}
use Rattle.incoming.specs.Envelope.{begins, check_follows}
use Rattle.incoming.proofs.EnvelopeLaws.{rtu_begins, ascii_begins, tcp_begins, follows_behind, tcp_checked}
use Rattle.frame.specs.Parse as parse
use Rattle.chain.specs.Chain.{decoded, handed, Serial, Bounded}
use Rattle.chain.proofs.Response.{header}

-- where parse finds this body, and what it copies
pub record Laid (p : ModbusProto) (tag body buf : List ℕ) (start : ℕ) : Type 0 where
  pub low : start ≤ 6
  pub begun : begins p 0 buf ≡ go start
  pub led : parse.header false p buf ≡ header p tag
  pub tagged : length tag ≡ tag_length p
  pub whole : start + length body ≤ length buf
  pub shown : take (length body) (drop start buf) ≡ body

-- and the check of the whole body is right
abbrev pub Good : ModbusProto → List ℕ → List ℕ → ℕ → Type 0
Good p body buf start = check_follows p buf start (length body) ≡ go 0

-- ---- the body by places

module _ {p : ModbusProto} {tag body buf : List ℕ} {start : ℕ} (h : Laid p tag body buf start) where
  pub byte_laid : (i k : ℕ) → k ≡ start + i → i < length body → get_or buf k 0 ≡ get_or body i 0
  byte_laid i k e l =
      ap (λ (x : ℕ). get_or buf x 0) e
      ∙ sym (get_or-drop start buf i 0)
      ∙ sym (get_or-take (length body) (drop start buf) i 0 l)
      ∙ ap (λ (x : List ℕ). get_or x i 0) h.shown

  pub word_laid : (i : ℕ) → suc i < length body → word_at buf (start + i) ≡ word_at body i
  word_laid i l = rw (byte_laid i (start + i) refl (omega arith), byte_laid (suc i) (suc (start + i)) (omega arith) l)

  -- its first bytes, and those from a place on
  pub front_laid : (i : ℕ) → i ≤ length body → take i (drop start buf) ≡ take i body
  front_laid i l = sym (take-take i (length body) (drop start buf) l) ∙ ap (take i) h.shown

  pub rest_laid : (i n : ℕ) → i + n ≡ length body → take n (drop (start + i) buf) ≡ drop i body
  rest_laid i n e =
      let k : length (take i (drop start buf)) ≡ i = length-take-le i _ (simp length-drop (omega (arith, h.whole))) in
      let w = sym (take-add i n (drop start buf)) ∙ ap (λ (k : ℕ). take k (drop start buf)) e ∙ h.shown in
      sym (ap (drop i) (sym w) ∙ drop_at (take i (drop start buf)) _ i k ∙ ap (take n) (drop-drop i start buf))

-- ---- every frame around a body is so laid

serial_begins : (p : ModbusProto) (buf : List ℕ) → Serial p → begins p 0 buf ≡ go 0
serial_begins Rtu buf h = rtu_begins 0 buf
serial_begins Ascii buf h = ascii_begins 0 buf
serial_begins TcpUdp buf h = absurd h

serial_header : (p : ModbusProto) (tag buf : List ℕ) → Serial p → parse.header false p buf ≡ header p tag
serial_header Rtu tag buf h = refl
serial_header Ascii tag buf h = refl
serial_header TcpUdp tag buf h = absurd h

-- a body at the front of a serial line's bytes
pub front_of_line : (p : ModbusProto) (tag body d : List ℕ) → Serial p → length tag ≡ tag_length p
    → Laid p tag body (body ++ d) 0
front_of_line p tag body d h t =
    record {
      low = omega arith;
      begun = serial_begins p (body ++ d) h;
      led = serial_header p tag (body ++ d) h;
      tagged = t;
      whole = omega (arith, length-append body d);
      shown = take-append_seam body d;
    }

rtu_good : (body : List ℕ) → Good Rtu body (body ++ crc_bytes body) 0
unfolding check_follows
rtu_good body = rw (take-append_seam, zero-add) (follows_behind body (crc_bytes body))

ascii_good : (body : List ℕ) → Good Ascii body (body ++ (lrc body ∷ [])) 0
unfolding check_follows
ascii_good body = rw (take-append_seam, zero-add) (follows_behind body (lrc body ∷ []))

tcp_laid : (a b : ℕ) (body : List ℕ) → 6 ≤ length body → length body ≤ 250
    → Laid TcpUdp (a ∷ b ∷ []) body (wrap TcpUdp (a ∷ b ∷ []) body) 6
tcp_laid a b body l m =
    let d = div-add-mod' (length body) 256 in
    record {
      low = omega arith;
      begun = tcp_begins 0 _ (omega arith) refl (omega arith) (omega arith);
      led = refl;
      tagged = refl;
      whole = omega arith;
      shown = take-length body;
    }

-- the text between colon and CR LF is that of the body and its check
ascii_handed : (body f : List ℕ) → Bytes body → f ≡ line (body ++ (lrc body ∷ []))
    → handed Ascii f ≡ body ++ (lrc body ∷ [])
unfolding handed
ascii_handed body f y e =
    let l = body ++ (lrc body ∷ []) in
    let n : length f ≡ length (58 ∷ text l) + 2 = ap length e ∙ length-append (58 ∷ text l) (13 ∷ 10 ∷ []) in
    let c : take (length f - 2) f ≡ 58 ∷ text l =
    ap (take (length f - 2)) e ∙ take_at (58 ∷ text l) (13 ∷ 10 ∷ []) (length f - 2) (omega arith) in
    ap (λ (t : List ℕ). decoded (untext (drop 1 t))) c
    ∙ ap decoded (untext_text l (bytes_append body (lrc body ∷ []) y (lrc_lt body, tt)))

-- the body in the bytes that are handed over, and its check
abbrev pub Held : ModbusProto → List ℕ → List ℕ → List ℕ → ℕ → Type 0
Held p tag body buf start = Laid p tag body buf start × Good p body buf start

pub laid : (p : ModbusProto) (tag body f : List ℕ) → Framed p tag body f → Bounded p body → Held p tag body (handed p f) (start_of p)
unfolding handed
laid Rtu tag body f h k =
    subst (λ (b : List ℕ). Held Rtu tag body b 0) (sym h.whole)
    (front_of_line Rtu tag body (crc_bytes body) tt h.tagged, rtu_good body)
laid Ascii tag body f h k =
    subst (λ (b : List ℕ). Held Ascii tag body b 0) (sym (ascii_handed body f h.bytes h.whole))
    (front_of_line Ascii tag body (lrc body ∷ []) tt h.tagged, ascii_good body)
laid TcpUdp [] body f h k = absurd (omega (arith, h.tagged))
laid TcpUdp (a ∷ []) body f h k = absurd (omega (arith, h.tagged))
laid TcpUdp (a ∷ b ∷ c ∷ r) body f h k = absurd (omega (arith, h.tagged))
laid TcpUdp (a ∷ b ∷ []) body f h k =
    subst (λ (x : List ℕ). Held TcpUdp (a ∷ b ∷ []) body x 6) (sym h.whole)
    (tcp_laid a b body k.0 k.1, tcp_checked _ _ _)
