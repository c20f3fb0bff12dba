-- A frame laid over the front of the reply, in which its body stands.
-- Assumes nothing.
use Rattle.std.proofs.Common.{◌≡◌, ℕ, suc, ◌+◌, ◌*◌, ◌/◌, ◌%◌, ◌≤◌, List, [], ◌∷◌, ◌++◌, length, take, drop, set, sym, refl, ap, ◌∙◌, append_assoc, add-one, arith, length-drop, length-set, take-append-drop, length-take-le, take-take, drop-drop}
use Rattle.std.specs.Prelude.{Option, Some, None, Result}
use Rattle.std.specs.Array.{IsFirstChunk}
use lib.Seq.{sets, sets-eq}
use Rattle.modbus.specs.Check.{crc, lrc}
use Rattle.modbus.specs.Hex.{digit, text}
use Rattle.modbus.specs.Paper.{told_with, paper}
use Rattle.modbus.specs.Setup.{room_for}
use Rattle.modbus.specs.Frame.{wrap, start_of, around}
use Rattle.modbus.specs.Decode.{crc_bytes}
use Rattle.modbus.specs.declared.ErrorKind.{ErrorKind}
use Rattle.modbus.specs.declared.ModbusProto.{ModbusProto}
use Rattle.modbus.specs.declared.ModbusProto.TheVariants.{Rtu, Ascii, TcpUdp}
use Rattle.modbus.proofs.StepLaws.{pick_yes, pick_no}
use Rattle.modbus.proofs.BytesLaws.{sets_append}
use Rattle.modbus.proofs.CheckLaws.{lrc_lt}
use Rattle.modbus.proofs.HexLaws.{length_text, text_append}
use Rattle.modbus.proofs.Views.{Six, six, six?}
use Rattle.ascii.proofs.ReadingLaws.{crlf}
use Rattle.response.specs.Bounded.{extended}
use Rattle.response.proofs.BoundedLaws.{extended_put}
use Rattle.transports.specs.Sealed.{Seals, sealed}
use Rattle.transports.proofs.AsciiLaws.{front}

-- an array that is a front of the reply, and a front of it
pub chunk_length : (reply array : List ℕ) (m : ℕ) → IsFirstChunk reply array m → length array ≡ m
chunk_length reply array m c = ap length c.same ∙ length-take-le m reply c.enough

pub copied_front : (reply array : List ℕ) (m n : ℕ) → IsFirstChunk reply array m → n ≤ m → take n array ≡ take n reply
copied_front reply array m n c h = ap (take n) c.same ∙ take-take n m reply h

-- the first bytes of a reply, as many as an array has, laid over the array
pub filled_front : (reply array after : List ℕ) (n : ℕ) (r : Result ℕ ErrorKind)
    → ◌≡◌ {A = (ℕ × ℕ) × List ℕ} (paper r, after) (told_with array (extended array 0 (take (length array) reply)))
    → n ≤ length array → length array ≤ length reply → take n after ≡ take n reply
filled_front reply array after n r e h k =
    let i = length array in
    let m = length-take-le i reply k in
    let q = ap (take i) (extended_put array (take i reply) after 0 r e (omega arith)) ∙ front (take i reply) array i m (omega arith) in
    sym (take-take n i after h) ∙ ap (take n) q ∙ take-take n i reply h

-- bytes laid over themselves
sets_same : (l : List ℕ) (i n : ℕ) → i + n ≤ length l → sets l i (take n (drop i l)) ≡ l
sets_same l i n h =
    let k : length (take n (drop i l)) ≡ n = length-take-le n (drop i l) (simp length-drop (omega arith)) in
    sets-eq (take n (drop i l)) l i (omega arith) ∙ rw (k, append_assoc, ← drop-drop n i l, take-append-drop n (drop i l), take-append-drop i l)

module _ (p : ModbusProto) (tag : List ℕ) (n : ℕ) (reply : List ℕ) where
  pub sealed_none : ¬ Seals p n reply → ◌≡◌ {A = Option ℕ × List ℕ} (None, reply) (sealed p tag n reply)
  sealed_none h = sym (pick_no _ _ _ h)

  pub sealed_room : room_for p ≤ length reply → n ≤ 253
      → sealed p tag n reply ≡ (Some (around p n), sets reply 0 (wrap p tag (take n (drop (start_of p) reply))))
  sealed_room h k = pick_yes _ _ _ (k, h)

  sealed_by : room_for p ≤ length reply → n ≤ 253 → (after : List ℕ) → after ≡ sets reply 0 (wrap p tag (take n (drop (start_of p) reply)))
      → ◌≡◌ {A = Option ℕ × List ℕ} (Some (around p n), after) (sealed p tag n reply)
  sealed_by h k after e = ap (λ (l : List ℕ). (Some (around p n), l)) e ∙ sym (sealed_room h k)

-- the CRC's two bytes behind the body
pub rtu_sealed : (reply : List ℕ) (n x : ℕ) → 260 ≤ length reply → n ≤ 253 → x ≡ crc (take n reply)
    → ◌≡◌ {A = Option ℕ × List ℕ} (Some (n + 2), set (set reply n (x % 256)) (n + 1) (x / 256)) (sealed Rtu [] n reply)
rtu_sealed reply n x h k e =
    let m = length-take-le n reply (omega arith) in
    sealed_by Rtu [] n reply h k _
    (sym (sets_append (take n reply) (crc_bytes (take n reply)) reply 0 n (omega arith)
    ∙ rw (sets_same reply 0 n (omega arith), e, add-one n)))

-- the header before the body
abbrev header : ℕ → ℕ → ℕ → List ℕ → List ℕ
header high low n reply = sets reply 0 (high ∷ low ∷ 0 ∷ 0 ∷ 0 ∷ n ∷ [])

behind : (high low n : ℕ) (reply : List ℕ) → Six reply → drop 6 (header high low n reply) ≡ drop 6 reply
behind high low n _ (six a b c d e g r) = refl

pub tcp_sealed : (high low : ℕ) (reply : List ℕ) (n : ℕ) → 260 ≤ length reply → n ≤ 253
    → ◌≡◌ {A = Option ℕ × List ℕ} (Some (n + 6), header high low n reply) (sealed TcpUdp (high ∷ low ∷ []) n reply)
tcp_sealed high low reply n h k =
    let b = take n (drop 6 reply) in
    let o = header high low n reply in
    let m : length b ≡ n = length-take-le n (drop 6 reply) (simp length-drop (omega arith)) in
    let hi : length b / 256 ≡ 0 = omega arith in
    let lo : length b % 256 ≡ n = omega arith in
    let s : sets o 6 b ≡ o =
    ap (λ (l : List ℕ). sets o 6 (take n l)) (sym (behind high low n reply (six? reply (omega arith))))
    ∙ sets_same o 6 n (simp length-set (omega arith)) in
    sealed_by TcpUdp (high ∷ low ∷ []) n reply h k o (rw (hi, lo) (sym s))

-- a colon before what was laid behind it
sets_behind : (x : ℕ) (l t : List ℕ) (i : ℕ) → sets (x ∷ l) (suc i) t ≡ x ∷ sets l i t
sets_behind x l [] i = refl
sets_behind x l (v ∷ t) i = sets_behind x (set l i v) t (suc i)

colon_first : (reply t : List ℕ) → 1 ≤ length reply → set (sets reply 1 t) 0 58 ≡ sets (set reply 0 58) 1 t
colon_first [] t h = absurd (omega arith)
colon_first (x ∷ l) t h = ap (λ (l : List ℕ). set l 0 58) (sets_behind x l t 0) ∙ sym (sets_behind 58 l t 0)

-- the text of the body and that of its LRC x, between the colon and the end of the line
module _ (reply : List ℕ) (n : ℕ) (h : 511 ≤ length reply) (k : n ≤ 253) (x : ℕ) (first : List ℕ)
    (e : x ≡ lrc (take n reply)) (f : first ≡ sets reply 1 (text (take n reply))) where
  pub ascii_sealed : (u v : ℕ) → u ≡ digit (x / 16 % 16) → v ≡ digit (x % 16)
      → ◌≡◌ {A = Option ℕ × List ℕ}
      (Some (2 * n + 5), set (set (set (set (set first 0 58) (2 * n + 1) u) (2 * n + 2) v) (2 * n + 3) 13) (2 * n + 4) 10)
      (sealed Ascii [] n reply)
  unfolding text
  ascii_sealed u v p q =
      let b = take n reply in
      let s = set reply 0 58 in
      let m = length-take-le n reply (omega arith) in
      let j = length_text b in
      let g : set first 0 58 ≡ sets s 1 (text b) = ap (λ (l : List ℕ). set l 0 58) f ∙ colon_first reply (text b) (omega arith) in
      let y : x / 16 % 16 ≡ x / 16 = omega (arith, lrc_lt b) in
      let w : text (x ∷ []) ≡ u ∷ v ∷ [] = rw (p, q, y) in
      let z₂ : 2 * n + 2 ≡ suc (2 * n + 1) = omega arith in
      let z₃ : 2 * n + 3 ≡ suc (suc (2 * n + 1)) = omega arith in
      let z₄ : 2 * n + 4 ≡ suc (suc (suc (2 * n + 1))) = omega arith in
      sealed_by Ascii [] n reply h k _
      (rw (z₂, z₃, z₄, g)
      (sym (ap (λ (c : ℕ). sets s 1 (text (b ++ (c ∷ [])) ++ crlf)) (sym e)
      ∙ ap (λ (l : List ℕ). sets s 1 (l ++ crlf)) (text_append b (x ∷ []) ∙ ap (λ (l : List ℕ). text b ++ l) w)
      ∙ ap (sets s 1) (append_assoc (text b) (u ∷ v ∷ []) crlf)
      ∙ sets_append (text b) (u ∷ v ∷ crlf) s 1 (2 * n + 1) (omega arith))))
