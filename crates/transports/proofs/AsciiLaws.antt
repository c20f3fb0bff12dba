-- What an ASCII frame holds: whether it is a line, how its text is read, and what the check says of its bytes.
-- Assumes nothing.
use Rattle.std.proofs.Common.{◌≡◌, ℕ, ◌+◌, ◌-◌, ◌*◌, ◌≤◌, Bool, true, false, List, [], ◌∷◌, length, get_or, take, drop, sym, refl, ap, ◌∙◌, arith, length-drop, length-take, take_at}
use Rattle.std.specs.Prelude.{Result, Ok, Err}
use lib.Seq.{sets, sets-eq, length-sets}
use Rattle.std.proofs.Common.{⊎_elim, eqb}
use Rattle.std.proofs.lemmas.Bool.Decides.{eqb_tells}
use Rattle.modbus.specs.Step.{Step, stop, go, choose, ◌≤?◌, ◌≟◌}
use Rattle.modbus.specs.Paper.{told, paper}
use Rattle.modbus.specs.Hex.{spell, spelt, untext}
use Rattle.modbus.specs.Decode.{frame_broken_quiet, or_broken, unwrap}
use Rattle.modbus.specs.declared.ErrorKind.{ErrorKind}
use Rattle.modbus.specs.declared.ErrorKind.TheVariants.{OOB}
use Rattle.modbus.specs.declared.ModbusProto.TheVariants.{Ascii}
use Rattle.modbus.proofs.StepLaws.{pass, fail, follow, halt, pick_yes, pick_no, picked}
use Rattle.modbus.proofs.HexLaws.{length_text, text_untext, length_spelt, get_d_spelt, drop_spelt, spell_before, spell_back, spelt_before, spelt_back}
use Rattle.modbus.proofs.PaperLaws.{byte_value, byte_refusal}
use Rattle.ascii.specs.Reading.{finished, refused, Decoded, decode, text_parsed, counted, parsed_into}
use Rattle.ascii.specs.Plain.{pair_values}
use Rattle.ascii.proofs.PlainLaws.{decode_untext, untext_values}
use Rattle.ascii.proofs.SpeltLaws.{digits_spelt}
use Rattle.transports.specs.declared.Fault.{Fault}
use Rattle.transports.specs.declared.Fault.TheVariants.{Broken}
use Rattle.transports.specs.Opened.{opened, Fronted}
use Rattle.transports.specs.Checked.{checked, lrc_byte}
use Rattle.transports.specs.Lines.{Lined, lined?, ShortLine}
use Rattle.transports.proofs.CheckedLaws.{checked_front}
use Rattle.transports.proofs.OpenedLaws.{last_two, same_two}
use Rattle.transports.proofs.TextLaws.{untext_decode, counted_go, counted_stop}

-- the digits of a line
abbrev pub digits : List ℕ → List ℕ
digits f = drop 1 (take (length f - 2) f)

pub length_digits : (f : List ℕ) → Lined f → length (digits f) ≡ length f - 3
length_digits f h = simp (length-drop, length-take) (omega arith)

-- ---- a line as the switch has it read

module _ (h : ℕ) (f : List ℕ) where
  pub lined_spelt : Lined f → Lined (spelt h f)
  lined_spelt (a, (b, (c, d))) =
      let e = get_d_spelt h f 0 ∙ ap (spell h) c ∙ spell_before h 58 (omega arith) in
      let g = drop_spelt h f (length f - 2) ∙ ap (spelt h) d ∙ spelt_before h (13 ∷ 10 ∷ []) (omega arith, (omega arith, tt)) in
      rw (length_spelt h f) (a, (b, (e, g)))

  pub spelt_lined : Lined (spelt h f) → Lined f
  spelt_lined p =
      let (a, (b, (c, d))) = rw (length_spelt h f) at p in (
        a,
        (
          b,
          (
            spell_back h (get_or f 0 0) 58 (omega arith) (sym (get_d_spelt h f 0) ∙ c),
            spelt_back h (drop (length f - 2) f) (13 ∷ 10 ∷ []) (omega arith, (omega arith, tt)) (sym (drop_spelt h f (length f - 2)) ∙ d),
          ),
        ),
      )

  pub short_spelt : ShortLine f → ShortLine (spelt h f)
  short_spelt (n, d) = (length_spelt h f ∙ n, rw (digits_spelt h f 1 15 d) d)

module _ (f : List ℕ) where
  pub ascii_unlined : ¬ Lined f → unwrap Ascii f ≡ stop frame_broken_quiet
  unfolding unwrap
  ascii_unlined h = fail _ _ _ h

  pub ascii_digits : Lined f → (l : List ℕ) → untext (digits f) ≡ go l → unwrap Ascii f ≡ checked lrc_byte 1 l
  unfolding unwrap or_broken
  ascii_digits h l e = pass _ _ _ h ∙ follow _ _ (ap or_broken e)

  pub ascii_stop : Lined f → (k : ErrorKind) → untext (digits f) ≡ stop k → unwrap Ascii f ≡ stop frame_broken_quiet
  unfolding unwrap or_broken
  ascii_stop h k e = pass _ _ _ h ∙ halt _ _ (ap or_broken e)

  ascii_none : Lined f → ((l : List ℕ) → untext (digits f) ≡ go l → ⊥) → unwrap Ascii f ≡ stop frame_broken_quiet
  ascii_none h n = by (untext (digits f)) refl
    where
      by : (s : Step ErrorKind (List ℕ)) → untext (digits f) ≡ s → unwrap Ascii f ≡ stop frame_broken_quiet
      by (go l) e = absurd (n l e)
      by (stop k) e = ascii_stop h k e

-- how a line is read
abbrev reading : List ℕ → ℕ → Decoded
reading f room = text_parsed f (length f - 2) room 0

-- by its digits
reading_digits : (f : List ℕ) (room : ℕ) → Lined f → reading f room ≡ decode room finished 0 (digits f)
unfolding text_parsed
reading_digits [] room h = absurd (omega arith)
reading_digits (c ∷ l) room h =
    let e = pick_yes (length (c ∷ l) - 2 ≤? length (c ∷ l)) finished (refused OOB) (omega arith) in
    let g = pick_yes {A = ℕ} (c ≟ 58) 1 0 h.1.1.0 in
    rw (e, g)

module _ (f : List ℕ) (room : ℕ) (h : Lined f) (fits : 254 ≤ room) where
  -- digits that stand for bytes are read as these
  reading_untext : (l : List ℕ) → untext (digits f) ≡ go l
      → (reading f room ≡ record { bytes = l; ending = finished }) × (2 * length l + 3 ≡ length f)
  reading_untext l e =
      let n = length_digits f h in
      let t = text_untext (digits f) l e in
      let m = sym (length_text l) ∙ ap length (sym t.0) in
      (reading_digits f room h ∙ decode_untext (digits f) l room 0 e (omega arith) (omega arith), omega arith)

  -- a reading that was refused
  ascii_refused : (k : ErrorKind) → counted (reading f room) (reading f room).ending ≡ stop k → unwrap Ascii f ≡ stop frame_broken_quiet
  ascii_refused k e =
      ascii_none f h (λ l q. counted_stop (reading f room) _ k e (ap (λ (d : Decoded). d.ending) (reading_untext l q).0))

  module _ (n : ℕ) (e : counted (reading f room) (reading f room).ending ≡ go n) where
    -- one that ended before the digits did
    ascii_cut : ¬ (2 * n + 3 ≡ length f) → unwrap Ascii f ≡ stop frame_broken_quiet
    ascii_cut j =
        ascii_none f h (λ l q.
        let (p, m) = reading_untext l q in
        let (z, c) = counted_go (reading f room) (reading f room).ending n e in
        let b = ap (λ (d : Decoded). length d.bytes) p in
        j (omega arith))

    -- one that took them all
    ascii_read : 2 * n + 3 ≡ length f → (length (reading f room).bytes ≡ n) × (unwrap Ascii f ≡ checked lrc_byte 1 (reading f room).bytes)
    ascii_read j =
        let (q, c) = counted_go (reading f room) (reading f room).ending n e in
        let m = length_digits f h in
        let p = reading_digits f room h in
        let u = untext_decode (digits f) room 0 (ap (λ (d : Decoded). d.ending) (sym p) ∙ q)
        (ap (λ (d : Decoded). 2 * length d.bytes) (sym p) ∙ omega arith) in
        (c, ascii_digits f h _ (u ∙ ap (λ (d : Decoded). go d.bytes) (sym p)))

-- what the code says of the shape
module _ (f : List ℕ) (r : Bool) (e : r ≡ choose (lined? f) true false) where
  pub not_lined : r ≡ false → ¬ Lined f
  not_lined q = picked _ _ _ (sym e ∙ q) (λ _ z. let n : ◌≡◌ {A = ℕ} 0 1 = cc in absurd (omega arith)) (λ n _. n)

  pub is_lined : r ≡ true → Lined f
  is_lined q = picked _ _ _ (sym e ∙ q) (λ p _. p) (λ _ z. let n : ◌≡◌ {A = ℕ} 0 1 = cc in absurd (omega arith))

-- what begins as a line ends as one or doesn't
pub line_end : (f : List ℕ) → 9 ≤ length f → length f ≤ 511 → get_or f 0 0 ≡ 58 → get_or f (length f - 2) 0 ≡ 13
    → eqb (get_or f (length f - 2 + 1) 0) 10 ≡ choose (lined? f) true false
line_end f h k c r =
    let n = length f - 2 in
    ⊎_elim
    (λ p. p.0 ∙ sym (pick_yes (lined? f) _ _ (h, (k, (c, last_two f n (omega arith) ∙ rw (r, p.1))))))
    (λ p. p.0 ∙ sym (pick_no (lined? f) _ _ (λ (l : Lined f). p.1 (same_two f n _ _ (omega arith) l.1.1.1).1)))
    (eqb_tells (get_or f (n + 1) 0) 10)

-- o is the answer for a line, and its body stands at the front of `raw`
abbrev pub Told : List ℕ → Result ℕ Fault → List ℕ → Type 0
Told f o raw = (o ≡ opened (unwrap Ascii f)) × Fronted (unwrap Ascii f) raw

told_stop : (f raw : List ℕ) → unwrap Ascii f ≡ stop frame_broken_quiet → Told f (Err Broken) raw
told_stop f raw e = rw e (refl, tt)

told_checked : (f raw : List ℕ) (n : ℕ) (o : Result ℕ Fault) → 1 ≤ n → n ≤ length raw → unwrap Ascii f ≡ checked lrc_byte 1 (take n raw)
    → o ≡ opened (checked lrc_byte 1 (take n raw)) → Told f o raw
told_checked f raw n o low high e p = rw e (p, checked_front lrc_byte 1 raw n low high)

pub text_unlined : (f raw : List ℕ) → ¬ Lined f → Told f (Err Broken) raw
text_unlined f raw h = told_stop f raw (ascii_unlined f h)

-- what was decoded stands at the front
pub front : (l buf : List ℕ) (n : ℕ) → length l ≡ n → n ≤ length buf → take n (sets buf 0 l) ≡ l
front l buf n e h = rw (sets-eq l buf 0 (omega arith)) (take_at l (drop (0 + length l) buf) n e)

-- r was answered for the text of a line, which left `after`
module _ (f raw after : List ℕ) (r : Result ℕ ErrorKind) (h : Lined f) (fits : 254 ≤ length raw)
    (e : ◌≡◌ {A = (ℕ × ℕ) × List ℕ} (paper r, after) (parsed_into f (length f - 2) raw 0)) where
  answered : paper r ≡ told (counted (reading f (length raw)) (reading f (length raw)).ending)
  answered = ap (λ (p : (ℕ × ℕ) × List ℕ). p.0) e

  left : after ≡ sets raw 0 (reading f (length raw)).bytes
  left = ap (λ (p : (ℕ × ℕ) × List ℕ). p.1) e

  pub decoded_kept : length after ≡ length raw
  decoded_kept = ap length left ∙ length-sets raw 0 (reading f (length raw)).bytes

  pub text_refused : (k : ErrorKind) → r ≡ Err k → Told f (Err Broken) after
  text_refused k q = told_stop f after (ascii_refused f (length raw) h fits k (byte_refusal r _ k answered q))

  module _ (n : ℕ) (q : r ≡ Ok n) where
    pub text_cut : ¬ (2 * n + 3 ≡ length f) → Told f (Err Broken) after
    text_cut j = told_stop f after (ascii_cut f (length raw) h fits n (byte_value r _ n answered q) j)

    pub text_within : 2 * n + 3 ≡ length f → (1 ≤ n) × (n ≤ length after)
    text_within j = (omega arith, omega (arith, decoded_kept))

    pub text_read : 2 * n + 3 ≡ length f → (o : Result ℕ Fault) → o ≡ opened (checked lrc_byte 1 (take n after)) → Told f o after
    text_read j o p =
        let (m, u) = ascii_read f (length raw) h fits n (byte_value r _ n answered q) j in
        let t = ap (take n) left ∙ front (reading f (length raw)).bytes raw n m (omega arith) in
        let w = text_within j in
        told_checked f after n o w.0 w.1 (u ∙ ap (checked lrc_byte 1) (sym t)) p

-- a line of seven bytes was decoded to the front of `after`
pub short_read : (f after : List ℕ) (o : Result ℕ Fault) → Lined f → ShortLine f → take 7 after ≡ pair_values (drop 1 (take 15 f)) → 7 ≤ length after
    → o ≡ opened (checked lrc_byte 1 (take 7 after)) → Told f o after
short_read f after o h (n, d) e k p =
    let z : length f - 2 ≡ 15 = omega arith in
    let u = ap (λ (m : ℕ). untext (drop 1 (take m f))) z
    ∙ untext_values 7 (drop 1 (take 15 f)) (simp (length-drop, length-take) (omega arith)) d in
    told_checked f after 7 o (omega arith) k (ascii_digits f h _ u ∙ ap (checked lrc_byte 1) (sym e)) p
