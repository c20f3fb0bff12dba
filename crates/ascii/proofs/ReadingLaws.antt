-- Laws of a reading: what a pair comes to by its characters, a reading by its first pair, and a reading or a line that is under way by
-- what is done of it.
-- Assumes nothing.
use Rattle.std.proofs.Common.{◌≡◌, ℕ, suc, ◌+◌, ◌-◌, ◌*◌, ◌/◌, ◌%◌, ◌<◌, ◌≤◌, min, Bool, true, false, List, [], ◌∷◌, ◌++◌, length, get_or, take, drop, set, sym, refl, ap, ◌∙◌, ap₂, ⊎_elim, add-one, arith, length-append, length-drop, length-set, drop_of_length-le, length-take, take_all, drop-cons, get_or-take, drop-drop}
use lib.Seq.{sets, length-sets, set_out}
use Rattle.modbus.specs.Step.{Step, stop, go, choose, ◌≤?◌, ◌≟◌}
use Rattle.modbus.specs.Paper.{told}
use Rattle.modbus.specs.Hex.{digit, undigit, text}
use Rattle.modbus.specs.Frame.{line}
use Rattle.modbus.specs.declared.ErrorKind.{ErrorKind}
use Rattle.modbus.specs.declared.ErrorKind.TheVariants.{OOB}
use Rattle.modbus.proofs.StepLaws.{pass, fail, follow, halt, needed, bound, pick_yes, pick_no, picked}
use Rattle.modbus.proofs.BytesLaws.{sets_append}
use Rattle.modbus.proofs.HexLaws.{length_text}
use Rattle.ascii.specs.Reading.{Ending, finished, refused, Decoded, ends, onward, StopByte, stop_byte?, or_refused, second, pair, placed, decode, text_parsed, counted, parsed_into, put_text, generated_into}

-- ---- a pair

pub stop_to : (c : ℕ) → StopByte c → c ≤ 13
stop_to c s = ⊎_elim (λ e. omega arith) (λ t. ⊎_elim (λ e. omega arith) (λ e. omega arith) t) s

module _ (h : ℕ) (r : Bool) (e : r ≡ choose (stop_byte? h) true false) where
  pub stop_byte : r ≡ true → StopByte h
  stop_byte q = picked _ _ _ (sym e ∙ q) (λ p _. p) (λ _ f. let z : ◌≡◌ {A = ℕ} 0 1 = cc in absurd (omega arith))

  pub no_stop_byte : r ≡ false → ¬ StopByte h
  no_stop_byte q = picked _ _ _ (sym e ∙ q) (λ _ f. let z : ◌≡◌ {A = ℕ} 0 1 = cc in absurd (omega arith)) (λ n _. n)

pub pair_stop : (h : ℕ) (t : List ℕ) → StopByte h → pair h t ≡ stop finished
unfolding pair
pair_stop h t s = fail _ _ _ (λ n. n s)

module _ (h : ℕ) (t : List ℕ) (n : ¬ StopByte h) where
  pub pair_first : (k : ErrorKind) → undigit h ≡ stop k → pair h t ≡ stop (refused k)
  unfolding pair or_refused
  pair_first k e = pass _ _ _ n ∙ halt _ _ (ap or_refused e)

  pub pair_second : (a : ℕ) (k : ErrorKind) → undigit h ≡ go a → second t ≡ stop k → pair h t ≡ stop (refused k)
  unfolding pair or_refused
  pair_second a k e f = pass _ _ _ n ∙ follow _ _ (ap or_refused e) ∙ halt _ _ (ap or_refused f)

  pub pair_both : (a b : ℕ) → undigit h ≡ go a → second t ≡ go b → pair h t ≡ go (a * 16 + b)
  unfolding pair or_refused
  pair_both a b e f = pass _ _ _ n ∙ follow _ _ (ap or_refused e) ∙ follow _ _ (ap or_refused f)

-- the second digit as it stands in the first `end` bytes of the data
pub second_none : (s : List ℕ) (end at : ℕ) → end ≤ at → second (drop at (take end s)) ≡ stop OOB
unfolding second
second_none s end at h = let k : length (take end s) ≤ at = simp length-take (omega arith) in rw drop_of_length-le

pub second_some : (s : List ℕ) (end at : ℕ) → at < end → end ≤ length s → second (drop at (take end s)) ≡ undigit (get_or s at 0)
unfolding second
second_some s end at h k =
    let j : at < length (take end s) = simp length-take (omega arith) in
    rw (drop-cons (take end s) at 0, get_or-take)

-- a pair that gave a byte had two characters
pub pair_long : (h : ℕ) (t : List ℕ) (b : ℕ) → pair h t ≡ go b → 1 ≤ length t
unfolding pair or_refused second
pair_long h [] b e =
    needed _ _ _ e λ p e₁. bound _ _ e₁ λ a p₁ e₂. bound _ _ e₂ λ b p₂ e₃. let z : ◌≡◌ {A = ℕ} 0 1 = cc in absurd (omega arith)
pair_long h (l ∷ t) b e = omega arith

pub pair_within : (s : List ℕ) (n i : ℕ) (b : ℕ) → pair (get_or s i 0) (drop (i + 1) (take n s)) ≡ go b → i + 1 < n
pair_within s n i b e = let h = simp (length-drop, length-take) at (pair_long _ (drop (i + 1) (take n s)) b e) in omega arith

-- ---- the byte for a place

pub placed_full : (room at h : ℕ) (t : List ℕ) → at ≡ 255 → placed room at h t ≡ stop (refused OOB)
unfolding placed
placed_full room at h t e = fail _ _ _ (λ n. n e)

module _ (room at h : ℕ) (t : List ℕ) (n : ¬ (at ≡ 255)) where
  pub placed_stop : (e : Ending) → pair h t ≡ stop e → placed room at h t ≡ stop e
  unfolding placed
  placed_stop e p = pass _ _ _ n ∙ halt _ _ p

  pub placed_outside : (b : ℕ) → pair h t ≡ go b → room ≤ at → placed room at h t ≡ stop (refused OOB)
  unfolding placed
  placed_outside b p k = pass _ _ _ n ∙ follow _ _ p ∙ fail _ _ _ (λ (j : suc at ≤ room). omega arith)

  pub placed_go : (b : ℕ) → pair h t ≡ go b → at < room → placed room at h t ≡ go b
  unfolding placed
  placed_go b p k = pass _ _ _ n ∙ follow _ _ p ∙ pass _ _ _ k

-- ---- a reading, by its first pair

pub decode_stop : (room : ℕ) (end : Ending) (at h : ℕ) (t : List ℕ) (e : Ending) → placed room at h t ≡ stop e
    → decode room end at (h ∷ t) ≡ ends e
unfolding decode onward placed pair second
decode_stop room end at h [] e p = ap (λ (s : Step Ending ℕ). onward s (ends end)) p
decode_stop room end at h (l ∷ t) e p = ap (λ (s : Step Ending ℕ). onward s (decode room end (suc at) t)) p

pub decode_go : (room : ℕ) (end : Ending) (at h l : ℕ) (t : List ℕ) (b : ℕ) → placed room at h (l ∷ t) ≡ go b
    → decode room end at (h ∷ l ∷ t) ≡ onward (go b) (decode room end (suc at) t)
unfolding decode placed pair second
decode_go room end at h l t b p = ap (λ (s : Step Ending ℕ). onward s (decode room end (suc at) t)) p

-- ---- a reading that is under way

-- the answer of a reading that gave n bytes
abbrev pub total : ℕ → Ending → Step ErrorKind ℕ
total n finished = go n
total n (refused k) = stop k

-- the answer and the buffer of a reading that had k bytes before these, which go to the places from `at` on
abbrev answered : ℕ → List ℕ → ℕ → Decoded → (ℕ × ℕ) × List ℕ
answered k buf at d = (told (total (k + length d.bytes) d.ending), sets buf at d.bytes)

counted_none : (d : Decoded) (e : Ending) → total (0 + length d.bytes) e ≡ counted d e
counted_none d finished = ap go (omega arith)
counted_none d (refused k) = refl

answered_none : (buf : List ℕ) (at : ℕ) (d : Decoded) → answered 0 buf at d ≡ (told (counted d d.ending), sets buf at d.bytes)
answered_none buf at d = ap (λ (a : Step ErrorKind ℕ). (told a, sets buf at d.bytes)) (counted_none d d.ending)

answered_go : (k : ℕ) (buf : List ℕ) (at b : ℕ) (d : Decoded)
    → answered k buf at (onward (go b) d) ≡ answered (suc k) (set buf at b) (suc at) d
unfolding onward
answered_go k buf at b d = let e : k + suc (length d.bytes) ≡ suc k + length d.bytes = omega arith in rw e

-- what is left of a reading: the text goes on to the places of the buffer from `at` on
unfoldable pub resumed : Ending → ℕ → List ℕ → ℕ → List ℕ → (ℕ × ℕ) × List ℕ
resumed end k buf at t = answered k buf at (decode (length buf) end at t)

resumed_on : (end : Ending) (k : ℕ) (buf : List ℕ) (at h : ℕ) (t : List ℕ) (b : ℕ) → ¬ (at ≡ 255) → pair h t ≡ go b → at < length buf
    → resumed end k buf at (h ∷ t) ≡ resumed end (suc k) (set buf at b) (suc at) (drop 1 t)
unfolding resumed
resumed_on end k buf at h [] b n p r = absurd (omega (arith, pair_long h [] b p))
resumed_on end k buf at h (l ∷ t) b n p r =
    rw (decode_go (length buf) end at h l t b (placed_go (length buf) at h (l ∷ t) n b p r), length-set)
    (answered_go k buf at b (decode (length buf) end (suc at) t))

-- the text from i on is its first character and what stands after it
pub text_from : (s : List ℕ) (n i : ℕ) → i < n → n ≤ length s → drop i (take n s) ≡ get_or s i 0 ∷ drop (i + 1) (take n s)
text_from s n i h k =
    let j : i < length (take n s) = simp length-take (omega arith) in
    rw (add-one, drop-cons (take n s) i 0, get_or-take)

take_within : (s : List ℕ) (n : ℕ) → take (min n (length s)) s ≡ take n s
take_within s n = by (n ≤? length s)
  where
    by : Dec (n ≤ length s) → take (min n (length s)) s ≡ take n s
    by (yes h) = let k : min n (length s) ≡ n = omega arith in rw k
    by (no h) =
        let k : min n (length s) ≡ length s = omega (arith, h) in
        rw k (take_all (length s) s (omega arith) ∙ sym (take_all n s (omega (arith, h))))

pub parsed_none : (s : List ℕ) (n : ℕ) (buf : List ℕ) (at : ℕ) → length s ≡ 0
    → ◌≡◌ {A = (ℕ × ℕ) × List ℕ} ((21, 0), buf) (parsed_into s n buf at)
unfolding text_parsed
parsed_none [] n buf at h = refl
parsed_none (c ∷ l) n buf at h = absurd (omega arith)

-- it starts with the whole text
pub resumed_start : (s : List ℕ) (n m i : ℕ) (buf : List ℕ) (at : ℕ) → ¬ (length s ≡ 0) → m ≡ min n (length s)
    → i ≡ choose (get_or s 0 0 ≟ 58) 1 0
    → resumed (choose (n ≤? length s) finished (refused OOB)) (at - at) buf at (drop i (take m s)) ≡ parsed_into s n buf at
unfolding resumed text_parsed
resumed_start [] n m i buf at h e f = absurd (h refl)
resumed_start (c ∷ l) n m i buf at h e f =
    let z : at - at ≡ 0 = omega arith in
    rw (e, take_within (c ∷ l) n, f, z) (answered_none buf at (text_parsed (c ∷ l) n (length buf) at))

module _ (s : List ℕ) (n i : ℕ) (end : Ending) (k : ℕ) (buf : List ℕ) (at : ℕ) (z : (ℕ × ℕ) × List ℕ)
    (inv : resumed end k buf at (drop i (take n s)) ≡ z) where
  -- it ends with the text
  pub resumed_done : (e : Ending) → end ≡ e → n ≤ i → ◌≡◌ {A = (ℕ × ℕ) × List ℕ} (told (total k e), buf) z
  unfolding resumed decode
  resumed_done e q h =
      let j : length (take n s) ≤ i = simp length-take (omega arith) in
      let f : k + 0 ≡ k = omega arith in
      rw (drop_of_length-le, f, q) at inv

  -- it ends at a place for which no byte is read
  pub resumed_stop : (e : Ending) → i < n → n ≤ length s → placed (length buf) at (get_or s i 0) (drop (i + 1) (take n s)) ≡ stop e
      → ◌≡◌ {A = (ℕ × ℕ) × List ℕ} (told (total k e), buf) z
  unfolding resumed
  resumed_stop e h j p =
      let f = decode_stop (length buf) end at (get_or s i 0) (drop (i + 1) (take n s)) e p in
      let g : k + 0 ≡ k = omega arith in
      rw (text_from s n i h j, f, g) at inv

  -- it goes on behind the byte of a pair
  pub resumed_go : (b k' : ℕ) (after : List ℕ) → i < n → n ≤ length s → ¬ (at ≡ 255)
      → pair (get_or s i 0) (drop (i + 1) (take n s)) ≡ go b → at < length buf → k' ≡ suc k → after ≡ set buf at b
      → resumed end k' after (at + 1) (drop (i + 2) (take n s)) ≡ z
  resumed_go b k' after h j f p r e g =
      let q : i + 2 ≡ i + 1 + 1 = omega arith in
      let on = resumed_on end k buf at (get_or s i 0) (drop (i + 1) (take n s)) b f p r in
      rw (e, g, add-one at, q, ← drop-drop) (sym on ∙ (rw (text_from s n i h j) at inv))

-- ---- a line that is being written

pub length_kept : (s after : List ℕ) (i : ℕ) (vs : List ℕ) → after ≡ sets s i vs → length after ≡ length s
length_kept s after i vs e = ap length e ∙ length-sets s i vs

pub sets_out : (vs l : List ℕ) (i : ℕ) → length l ≤ i → sets l i vs ≡ l
sets_out [] l i h = refl
sets_out (v ∷ vs) l i h = rw (set_out l i v h) (sets_out vs l (suc i) (omega arith))

-- what is left when i bytes of the data are written as text, with what comes behind the text
abbrev pub rest : List ℕ → List ℕ → ℕ → List ℕ
rest l end i = text (drop i l) ++ end

abbrev pub crlf : List ℕ
crlf = 13 ∷ 10 ∷ []

module _ (l end buf : List ℕ) (i at : ℕ) (z : List ℕ) (inv : sets buf at (rest l end i) ≡ z) where
  -- one byte's two digits
  pub rest_step : (x y : ℕ) (after : List ℕ) → i < length l → x ≡ digit (get_or l i 0 / 16) → y ≡ digit (get_or l i 0 % 16)
      → after ≡ sets buf at (x ∷ y ∷ []) → sets after (at + 2) (rest l end (i + 1)) ≡ z
  unfolding text
  rest_step x y after h e f g =
      let k : at + 2 ≡ suc (suc at) = omega arith in
      rw (g, e, f, k, add-one i) (rw (drop-cons l i 0 h) at inv)

  -- the same where the buffer ends before the second
  pub rest_cut : (x y : ℕ) (after : List ℕ) → i < length l → x ≡ digit (get_or l i 0 / 16) → y ≡ digit (get_or l i 0 % 16)
      → after ≡ sets buf at (x ∷ y ∷ []) → length buf ≤ suc at → after ≡ z
  rest_cut x y after h e f g k =
      let n = length_kept buf after at (x ∷ y ∷ []) g in
      sym (sets_out (rest l end (i + 1)) after (at + 2) (omega arith)) ∙ rest_step x y after h e f g

  -- the end of the text
  pub rest_done : (after : List ℕ) → length l ≤ i → after ≡ sets buf at end → after ≡ z
  unfolding text
  rest_done after h g = g ∙ (rw (drop_of_length-le l h) at inv)

-- text where there is room for it, and where there is not
module _ (s : List ℕ) (at : ℕ) (l : List ℕ) where
  pub text_room : (after : List ℕ) → at + 2 * length l ≤ length s → after ≡ sets s at (text l)
      → ◌≡◌ {A = Bool × List ℕ} (true, after) (put_text s at l)
  text_room after h e = ap (λ (b : List ℕ). (true, b)) e ∙ sym (pick_yes _ _ _ (omega (arith, length_text l)))

  pub text_no_room : length s < at + 2 * length l → ◌≡◌ {A = Bool × List ℕ} (false, s) (put_text s at l)
  text_no_room h = sym (pick_no _ _ _ (λ (k : at + length (text l) ≤ length s). omega (arith, length_text l)))

  pub text_put : (r : Bool) (after : List ℕ) → ◌≡◌ {A = Bool × List ℕ} (r, after) (put_text s at l) → at + 2 * length l ≤ length s
      → after ≡ sets s at (text l)
  text_put r after e h = ap (λ (p : Bool × List ℕ). p.1) (e ∙ pick_yes _ _ _ (omega (arith, length_text l)))

-- a line whose colon and text are written
module _ (l buf after : List ℕ) (e : after ≡ sets (set buf 0 58) 1 (text l)) where
  pub text_kept : length after ≡ length buf
  text_kept = length_kept (set buf 0 58) after 1 (text l) e ∙ length-set buf 0 58

  pub text_ended : set (set after (2 * length l + 1) 13) (2 * length l + 2) 10 ≡ sets buf 0 (line l)
  text_ended =
      let k : 2 * length l + 2 ≡ suc (2 * length l + 1) = omega arith in
      rw (k, e) (sym (sets_append (text l) crlf (set buf 0 58) 1 (2 * length l + 1) (omega (arith, length_text l))))

pub length_line : (l : List ℕ) → length (line l) ≡ 2 * length l + 3
length_line l = simp (length-append, length_text) (omega arith)

-- where `first` has the colon, and all of the line behind it is written as far as there is room
module _ (l buf first after : List ℕ) (e : first ≡ set buf 0 58) (f : after ≡ sets first 1 (rest l crlf 0)) where
  line_left : after ≡ sets buf 0 (line l)
  line_left = f ∙ ap (λ (b : List ℕ). sets b 1 (rest l crlf 0)) e

  room_left : length first ≡ length buf
  room_left = length_kept buf first 0 (58 ∷ []) e

  pub line_refused : length first < length (line l) → ◌≡◌ {A = (ℕ × ℕ) × List ℕ} ((21, 0), after) (generated_into l buf)
  line_refused h =
      ap₂ (λ (p : ℕ × ℕ) (b : List ℕ). (p, b))
      (sym (ap told (fail _ _ _ (λ (k : length (line l) ≤ length buf). omega (arith, room_left))))) line_left

  pub line_written : (n : ℕ) → n ≡ length (line l) → n ≤ length first
      → ◌≡◌ {A = (ℕ × ℕ) × List ℕ} ((0, n), after) (generated_into l buf)
  line_written n q h =
      ap₂ (λ (p : ℕ × ℕ) (b : List ℕ). (p, b))
      (ap (λ (m : ℕ). (0, m)) q ∙ sym (ap told (pass _ _ _ (omega (arith, room_left))))) line_left

pub line_none : (l buf first : List ℕ) → first ≡ set buf 0 58 → length buf ≤ 0
    → ◌≡◌ {A = (ℕ × ℕ) × List ℕ} ((21, 0), first) (generated_into l buf)
line_none l buf first e h =
    let n = length_kept buf first 0 (58 ∷ []) e in
    line_refused l buf first first e (sym (sets_out (rest l crlf 0) first 1 (omega arith))) (omega (arith, length_line l))
