-- What is written as text reads back, and how a reading ends behind it: document 01's cases of module 2.
-- Assumes nothing.
use Rattle.std.proofs.Common.{◌≡◌, ℕ, suc, ◌+◌, ◌*◌, ◌/◌, ◌%◌, ◌<◌, ◌≤◌, List, [], ◌∷◌, ◌++◌, length, set, sym, refl, ap, ◌∙◌, subst, inl, inr, append-nil, arith, length-set, drop_of_length-le}
use lib.Seq.{sets, sets-eq, take-length}
use Rattle.modbus.specs.Step.{stop, go, ◌≤?◌, ◌≟◌}
use Rattle.modbus.specs.Bytes.{Bytes}
use Rattle.modbus.specs.Hex.{digit, undigit, spelt, text}
use Rattle.modbus.specs.Frame.{line}
use Rattle.modbus.specs.declared.ErrorKind.TheVariants.{OOB, FrameBroken}
use Rattle.modbus.proofs.StepLaws.{pick_yes}
use Rattle.modbus.proofs.HexLaws.{digit_low, digit_high, undigit_digit, undigit_none, spelt_same}
use Rattle.modbus.proofs.FrameLaws.{line_capital}
use Rattle.ascii.specs.Reading.{Ending, finished, refused, Decoded, ends, onward, StopByte, second, decode, text_parsed, parsed_into, parsed_under, generated_into}
use Rattle.ascii.proofs.ReadingLaws.{stop_to, pair_stop, pair_second, pair_both, placed_full, placed_stop, placed_go, decode_stop, decode_go, line_written}

digit_from : (n : ℕ) → 48 ≤ digit n
digit_from n = by (n ≤? 9)
  where
    by : Dec (n ≤ 9) → 48 ≤ digit n
    by (yes h) = omega (arith, digit_low n h)
    by (no h) = omega (arith, h, digit_high n (omega (arith, h)))

digit_no_stop : (n : ℕ) → ¬ StopByte (digit n)
digit_no_stop n s = omega (arith, digit_from n, stop_to (digit n) s)

stop_no_digit : (c : ℕ) → StopByte c → undigit c ≡ stop FrameBroken
stop_no_digit c s =
    let h = stop_to c s in undigit_none c (λ k. omega (arith, k)) (λ k. omega (arith, k))

abbrev after : List ℕ → Decoded → Decoded
after l d = record { bytes = l ++ d.bytes; ending = d.ending }

-- the bytes of the text, and then what stands behind it
decode_text : (l : List ℕ) → Bytes l → (room : ℕ) (end : Ending) (at : ℕ) (t : List ℕ) → at + length l ≤ 255 → at + length l ≤ room
    → decode room end at (text l ++ t) ≡ after l (decode room end (at + length l) t)
unfolding text onward second
decode_text [] y room end at t h k = let e : at + 0 ≡ at = omega arith in rw e
decode_text (b ∷ l) y room end at t h k =
    let e : at + suc (length l) ≡ suc at + length l = omega arith in
    let v : b / 16 * 16 + b % 16 ≡ b = omega arith in
    let n : ¬ (at ≡ 255) = λ z. omega arith in
    let p = pair_both (digit (b / 16)) (digit (b % 16) ∷ text l ++ t) (digit_no_stop (b / 16)) (b / 16) (b % 16)
    (undigit_digit (b / 16) (omega (arith, y.0))) (undigit_digit (b % 16) (omega arith)) ∙ ap go v in
    decode_go room end at _ _ (text l ++ t) b (placed_go room at _ _ n b p (omega arith))
    ∙ rw e (ap (onward (go b)) (decode_text l y.1 room end (suc at) t (omega arith) (omega arith)))

-- all of a text behind a colon
parsed_colon : (t : List ℕ) (room at : ℕ) → text_parsed (58 ∷ t) (length (58 ∷ t)) room at ≡ decode room finished at t
unfolding text_parsed
parsed_colon t room at =
    let e = pick_yes (length (58 ∷ t) ≤? length (58 ∷ t)) finished (refused OOB) (omega arith) in
    let f = pick_yes {A = ℕ} (58 ≟ 58) 1 0 refl in
    rw (e, f, take-length t)

-- where what stands behind the bytes gives none, the reading ends as it ends
behind : (l : List ℕ) → Bytes l → (room at : ℕ) (t : List ℕ) (e : Ending) → at + length l ≤ 255 → at + length l ≤ room
    → decode room finished (at + length l) t ≡ ends e
    → text_parsed (58 ∷ text l ++ t) (length (58 ∷ text l ++ t)) room at ≡ record { bytes = l; ending = e }
behind l y room at t e h k q =
    parsed_colon (text l ++ t) room at ∙ decode_text l y room finished at t h k ∙ ap (after l) q
    ∙ ap (λ (b : List ℕ). record { bytes = b; ending = e }) (append-nil l)

module _ (l : List ℕ) (y : Bytes l) (room at : ℕ) (fits : at + length l ≤ room) where
  pub round_trip : at + length l ≤ 254 → text_parsed (line l) (length (line l)) room at ≡ record { bytes = l; ending = finished }
  round_trip h =
      behind l y room at (13 ∷ 10 ∷ []) finished (omega arith) fits
      (decode_stop room finished _ 13 (10 ∷ []) finished
      (placed_stop room (at + length l) 13 (10 ∷ []) (λ z. omega arith) finished (pair_stop 13 _ (inr (inl refl)))))

  -- the position is tested against 255 before the stop bytes, of which `c` may be one
  pub full_line : at + length l ≡ 255 → (c : ℕ) (t : List ℕ)
      → text_parsed (58 ∷ text l ++ (c ∷ t)) (length (58 ∷ text l ++ (c ∷ t))) room at ≡ record { bytes = l; ending = refused OOB }
  full_line h c t =
      behind l y room at (c ∷ t) (refused OOB) (omega arith) fits
      (decode_stop room finished _ c t (refused OOB) (placed_full room (at + length l) c t h))

  -- but not at the end of the data
  pub full_data : at + length l ≡ 255
      → text_parsed (58 ∷ text l) (length (58 ∷ text l)) room at ≡ record { bytes = l; ending = finished }
  unfolding decode
  full_data h =
      subst (λ (t : List ℕ). text_parsed t (length t) room at ≡ record { bytes = l; ending = finished }) (append-nil (58 ∷ text l))
      (behind l y room at [] finished (omega arith) fits refl)

  -- a digit alone, at the end of the data and before a stop byte
  pub alone_at_end : at + length l ≤ 254 → (d : ℕ) → d < 16
      → text_parsed (58 ∷ text l ++ (digit d ∷ [])) (length (58 ∷ text l ++ (digit d ∷ []))) room at ≡ record { bytes = l; ending = refused OOB }
  unfolding second
  alone_at_end h d k =
      behind l y room at (digit d ∷ []) (refused OOB) (omega arith) fits
      (decode_stop room finished _ (digit d) [] (refused OOB)
      (placed_stop room (at + length l) (digit d) [] (λ z. omega arith) (refused OOB)
      (pair_second (digit d) [] (digit_no_stop d) d OOB (undigit_digit d k) refl)))

  pub alone_before_stop : at + length l ≤ 254 → (d c : ℕ) (t : List ℕ) → d < 16 → StopByte c
      → text_parsed (58 ∷ text l ++ (digit d ∷ c ∷ t)) (length (58 ∷ text l ++ (digit d ∷ c ∷ t))) room at
      ≡ record { bytes = l; ending = refused FrameBroken }
  unfolding second
  alone_before_stop h d c t k s =
      behind l y room at (digit d ∷ c ∷ t) (refused FrameBroken) (omega arith) fits
      (decode_stop room finished _ (digit d) (c ∷ t) (refused FrameBroken)
      (placed_stop room (at + length l) (digit d) (c ∷ t) (λ z. omega arith) (refused FrameBroken)
      (pair_second (digit d) (c ∷ t) (digit_no_stop d) d FrameBroken (undigit_digit d k) (stop_no_digit c s))))

-- a line written into a slice of just its length
pub generated : (l out : List ℕ) → length out ≡ length (line l) → generated_into l out ≡ ((0, length out), line l)
generated l out e =
    let n : length out ≤ 0 + length (line l) = omega arith in
    let s : sets out 0 (line l) ≡ line l = sets-eq (line l) out 0 (omega arith) ∙ rw (drop_of_length-le out n) (append-nil (line l)) in
    sym (line_written l out (set out 0 58) (line l) refl (sym s) (length out) e (simp length-set (omega arith)))

-- what generate_ascii_frame writes, parse_ascii_frame reads back
pub read_back : (l out buf : List ℕ) (at : ℕ) → Bytes l → length out ≡ length (line l) → at + length l ≤ 254 → at + length l ≤ length buf
    → parsed_into (generated_into l out).1 (length out) buf at ≡ ((0, length l), sets buf at l)
read_back l out buf at y e h k =
    let g = ap (λ (p : (ℕ × ℕ) × List ℕ). p.1) (generated l out e) in
    rw (g, e, round_trip l y (length buf) at k h)

-- under both switches, since a line has no small letter
pub read_back_under : (hex : ℕ) → hex ≤ 1 → (l out buf : List ℕ) (at : ℕ) → Bytes l → length out ≡ length (line l) → at + length l ≤ 254
    → at + length l ≤ length buf → parsed_under hex (generated_into l out).1 (length out) buf at ≡ ((0, length l), sets buf at l)
read_back_under hex low l out buf at y e h k =
    let g = ap (λ (p : (ℕ × ℕ) × List ℕ). p.1) (generated l out e) in
    let c = spelt_same hex (line l) (line_capital l y) in
    pick_yes _ _ _ low ∙ ap (λ (t : List ℕ). parsed_into t (length out) buf at) (ap (spelt hex) g ∙ c ∙ sym g) ∙ read_back l out buf at y e h k
