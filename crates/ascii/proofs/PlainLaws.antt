-- A text of digits alone is read to its end, and gives what its pairs stand for; so does one that begins with digits, as far as they go.
-- Assumes nothing.
use Rattle.modbus.specs.declared.ErrorKind.{ErrorKind}
use Rattle.std.specs.Prelude.{Result, Ok}
use Rattle.std.proofs.Common.{◌≡◌, ℕ, zero, suc, ◌+◌, ◌-◌, ◌*◌, ◌/◌, ◌<◌, ◌≤◌, true, false, ◌⊎◌, List, [], ◌∷◌, ◌++◌, length, get_or, take, drop, set, sym, refl, ap, ◌∙◌, inl, inr, ⊎_elim, add-one, arith, length-drop, length-set, drop_of_length-le, length-take, drop-cons, append_assoc, zero-add}
use Rattle.std.proofs.lemmas.List.{drop-drop, drop-append-le, take-append-drop}
use borrow.Rule.Slice.PartMut.{put_mid}
use lib.Bits.{bit_or, or_add_and, and_le_l, and_le_r}
use lib.Seq.{sets, sets-eq}
use Rattle.modbus.specs.Step.{go, choose, ◌≤?◌, ◌≟◌}
use Rattle.modbus.specs.Bytes.{All}
use Rattle.modbus.specs.Paper.{told, paper}
use Rattle.modbus.specs.Hex.{undigit, untext}
use Rattle.modbus.specs.declared.ErrorKind.TheVariants.{OOB}
use Rattle.modbus.proofs.StepLaws.{follow, bound, pick_yes, pick_no, picked}
use Rattle.modbus.proofs.PaperLaws.{byte_value}
use Rattle.modbus.proofs.HexLaws.{undigit_figure, undigit_letter, undigit_none, digit_undigit}
use Rattle.ascii.specs.Reading.{Ending, finished, refused, onward, StopByte, second, decode, text_parsed, parsed_into}
use Rattle.ascii.specs.Plain.{Digit, digit?, value, pair_values, begin, Plain}
use Rattle.ascii.proofs.ReadingLaws.{stop_to, pair_both, second_some, placed_go, decode_go, text_from, resumed, resumed_go}

-- a digit is no stop byte
undigit_goes : (c a : ℕ) → undigit c ≡ go a → ¬ StopByte c
undigit_goes c a e s =
    let k = stop_to c s in
    let f = undigit_none c (λ p. omega (arith, p)) (λ p. omega (arith, p)) in
    let z : ◌≡◌ {A = ℕ} 0 1 = cc in
    omega arith

-- a text that stands for bytes is decoded to them
pub decode_untext : (t l : List ℕ) (room at : ℕ) → untext t ≡ go l → 2 * at + length t ≤ 508 → 2 * at + length t ≤ 2 * room
    → decode room finished at t ≡ record { bytes = l; ending = finished }
unfolding untext decode onward second
decode_untext [] l room at e h k = let z : [] ≡ l = cc in ap (λ (b : List ℕ). record { bytes = b; ending = finished }) z
decode_untext (x ∷ []) l room at e h k = let z : ◌≡◌ {A = ℕ} 0 1 = cc in absurd (omega arith)
decode_untext (x ∷ y ∷ t) l room at e h k =
    bound _ _ e λ a p e₁.
    bound _ _ e₁ λ b q e₂.
    bound _ _ e₂ λ m r e₃.
    let z : (a * 16 + b) ∷ m ≡ l = cc in
    let n = undigit_goes x a p in
    decode_go room finished at x y t (a * 16 + b)
    (placed_go room at x (y ∷ t) (λ z. omega arith) (a * 16 + b) (pair_both x (y ∷ t) n a b p q) (omega arith))
    ∙ ap (onward (go (a * 16 + b))) (decode_untext t m room (suc at) r (omega arith) (omega arith))
    ∙ ap (λ (v : List ℕ). record { bytes = v; ending = finished }) z

-- a digit's value
pub value_figure : (c : ℕ) → c ≤ 57 → value c ≡ c - 48
value_figure c h = pick_yes _ _ _ h

pub value_letter : (c : ℕ) → 58 ≤ c → value c ≡ c - 55
value_letter c h = pick_no _ _ _ (λ (k : c ≤ 57). omega arith)

undigit_value : (c : ℕ) → Digit c → undigit c ≡ go (value c)
undigit_value c d =
    ⊎_elim
    (λ (p : (48 ≤ c) × (c ≤ 57)). undigit_figure c p.0 p.1 ∙ ap go (sym (value_figure c p.1)))
    (λ (p : (65 ≤ c) × (c ≤ 70)). undigit_letter c p.0 p.1 ∙ ap go (sym (value_letter c (omega (arith, p)))))
    d

-- and back: what stands for something is a digit
value_undigit : (c v : ℕ) → undigit c ≡ go v → Digit c × (v ≡ value c)
unfolding undigit
value_undigit c v e =
    picked _ _ _ e
    (λ p q. let z : c - 48 ≡ v = cc in (inl p, sym z ∙ sym (value_figure c p.1)))
    (λ _ f.
    picked _ _ _ f
    (λ p q. let z : c - 55 ≡ v = cc in (inr p, sym z ∙ sym (value_letter c (omega (arith, p)))))
    (λ _ q. let z : ◌≡◌ {A = ℕ} 0 1 = cc in absurd (omega arith)))

-- r was answered for a character
pub value_told : (r : Result ℕ ErrorKind) (c v : ℕ) → paper r ≡ told (undigit c) → r ≡ Ok v → (v < 16) × (Digit c × (v ≡ value c))
value_told r c v e q = let u = byte_value r (undigit c) v e q in ((digit_undigit c v u).0, value_undigit c v u)

-- pairs of digits stand for their values
pub untext_values : (n : ℕ) (t : List ℕ) → length t ≡ 2 * n → All Digit t → untext t ≡ go (pair_values t)
unfolding untext pair_values
untext_values n [] h d = refl
untext_values n (x ∷ []) h d = absurd (omega arith)
untext_values n (x ∷ y ∷ t) h d =
    follow _ _ (undigit_value x d.0) ∙ follow _ _ (undigit_value y d.1.0)
    ∙ follow _ _ (untext_values (n - 1) t (omega arith) d.1.1)

pub length_values : (n : ℕ) (t : List ℕ) → length t ≡ 2 * n → length (pair_values t) ≡ n
unfolding pair_values
length_values n [] h = omega arith
length_values n (x ∷ []) h = absurd (omega arith)
length_values n (x ∷ y ∷ t) h = let k = length_values (n - 1) t (omega arith) in omega arith

-- the answer and the buffer of a plain reading
pub plain_read : (s : List ℕ) (n : ℕ) (buf : List ℕ) (at m : ℕ) → Plain s n (length buf) at → m ≡ (n - begin s) / 2
    → ◌≡◌ {A = (ℕ × ℕ) × List ℕ} ((0, m), sets buf at (pair_values (drop (begin s) (take n s)))) (parsed_into s n buf at)
unfolding text_parsed
plain_read [] n buf at m p e = absurd (omega arith)
plain_read (c ∷ l) n buf at m (p₁, p₂, p₃, p₄, p₅, p₆) e =
    let s = c ∷ l in
    let t = drop (begin s) (take n s) in
    let k : length t ≡ 2 * m = simp (length-drop, length-take) (omega arith) in
    let u = untext_values m t k p₆ in
    let f : choose (n ≤? length s) finished (refused OOB) ≡ finished = pick_yes _ _ _ p₂ in
    let d = ap (λ (z : Ending). decode (length buf) z at t) f ∙ decode_untext t (pair_values t) (length buf) at u (omega arith) (omega arith) in
    rw d (ap (λ (z : ℕ). ((0, z), sets buf at (pair_values t))) (sym (length_values m t k)))

-- where code has found out in f where the digits start
pub begin_small : (c f : ℕ) → f ≡ choose (c ≟ 58) 1 0 → f ≤ 1
begin_small c f e = picked _ _ _ (sym e) (λ _ q. omega arith) (λ _ q. omega arith)

module _ (s : List ℕ) (n room at f : ℕ) (e : f ≡ begin s) where
  pub plain_by : 1 ≤ n → n ≤ length s → f + 2 * ((n - f) / 2) ≡ n → at + (n - f) / 2 ≤ 254 → at + (n - f) / 2 ≤ room
      → All Digit (drop f (take n s)) → Plain s n room at
  plain_by h₁ h₂ h₃ h₄ h₅ h₆ = rw (← e) (h₁, h₂, h₃, h₄, h₅, h₆)

  pub plain_parts : Plain s n room at
      → (f + 2 * ((n - f) / 2) ≡ n) × (at + (n - f) / 2 ≤ 254) × (at + (n - f) / 2 ≤ room) × All Digit (drop f (take n s))
  plain_parts p = rw e (p.2, p.3, p.4, p.5)

pub plain_parsed : (s : List ℕ) (n : ℕ) (buf : List ℕ) (at f m : ℕ) (after : List ℕ) → Plain s n (length buf) at → f ≡ begin s
    → m ≡ (n - f) / 2 → after ≡ sets buf at (pair_values (drop f (take (f + 2 * m) s)))
    → ◌≡◌ {A = (ℕ × ℕ) × List ℕ} ((0, m), after) (parsed_into s n buf at)
plain_parsed s n buf at f m after p e g h =
    let k : f + 2 * m ≡ n = ap (λ (x : ℕ). f + 2 * x) g ∙ (plain_parts s n (length buf) at f e p).0 in
    let j = h ∙ ap (λ (x : ℕ). sets buf at (pair_values (drop f (take x s)))) k
    ∙ ap (λ (x : ℕ). sets buf at (pair_values (drop x (take n s)))) e in
    ap (λ (x : List ℕ). ((0, m), x)) j ∙ plain_read s n buf at m p (g ∙ ap (λ (x : ℕ). (n - x) / 2) e)

-- ---- pairs and characters of the first e bytes, as loops come to them

from_two : (s : List ℕ) (e k : ℕ) → k + 1 < e → e ≤ length s
    → drop k (take e s) ≡ get_or s k 0 ∷ get_or s (k + 1) 0 ∷ drop (k + 2) (take e s)
from_two s e k h j =
    let q : k + 2 ≡ k + 1 + 1 = omega arith in
    rw q (text_from s e k (omega arith) j ∙ ap (λ (t : List ℕ). get_or s k 0 ∷ t) (text_from s e (k + 1) h j))

pub digits_two : (s : List ℕ) (e k : ℕ) → All Digit (drop k (take e s)) → k + 1 < e → e ≤ length s
    → Digit (get_or s k 0) × Digit (get_or s (k + 1) 0) × All Digit (drop (k + 2) (take e s))
digits_two s e k d h j = let f = rw (from_two s e k h j) at d in (f.0, f.1.0, f.1.1)

module _ (r p q : List ℕ) (e : r ≡ p ++ q) (h : length p ≡ 2) where
  pub chunk_digits : All Digit r → Digit (get_or p 0 0) × Digit (get_or p 1 0) × All Digit q
  chunk_digits d = by p (rw e at d) h
    where
      by : (p : List ℕ) → All Digit (p ++ q) → length p ≡ 2 → Digit (get_or p 0 0) × Digit (get_or p 1 0) × All Digit q
      by [] d h = absurd (omega arith)
      by (x ∷ []) d h = absurd (omega arith)
      by (x ∷ y ∷ z ∷ p) d h = absurd (omega arith)
      by (x ∷ y ∷ []) d h = (d.0, d.1.0, d.1.1)

  pub chunk_values : pair_values r ≡ (value (get_or p 0 0) * 16 + value (get_or p 1 0)) ∷ pair_values q
  unfolding pair_values
  chunk_values = ap pair_values e ∙ by p h
    where
      by : (p : List ℕ) → length p ≡ 2 → pair_values (p ++ q) ≡ (value (get_or p 0 0) * 16 + value (get_or p 1 0)) ∷ pair_values q
      by [] h = absurd (omega arith)
      by (x ∷ []) h = absurd (omega arith)
      by (x ∷ y ∷ z ∷ p) h = absurd (omega arith)
      by (x ∷ y ∷ []) h = refl

-- a part of a list that has come back with something at its front
pub part_set : (xs vs ys : List ℕ) (a k : ℕ) → ys ≡ sets (take k (drop a xs)) 0 vs → length vs ≤ k → a + k ≤ length xs
    → put_mid a k xs ys ≡ sets xs a vs
part_set xs vs ys a k e h j =
    let part = take k (drop a xs) in
    let n : length part ≡ k = simp (length-take, length-drop) (omega arith) in
    let f : sets part 0 vs ≡ vs ++ drop (0 + length vs) part = sets-eq vs part 0 (omega arith) in
    let d : drop (length vs) part ++ drop k (drop a xs) ≡ drop (length vs) (drop a xs) =
    sym (drop-append-le (length vs) part (drop k (drop a xs)) (omega arith)) ∙ ap (drop (length vs)) (take-append-drop k (drop a xs)) in
    let g : sets xs a vs ≡ take a xs ++ vs ++ drop (a + length vs) xs = sets-eq vs xs a (omega arith) in
    rw (e, f, zero-add, append_assoc, d, drop-drop, g, append_assoc)

-- no pairs are left
pub values_none : (r bytes z : List ℕ) (i : ℕ) → length r ≤ 0 → sets bytes i (pair_values r) ≡ z → bytes ≡ z
unfolding pair_values
values_none [] bytes z i h e = e
values_none (x ∷ r) bytes z i h e = absurd (omega arith)

pub values_step : (s : List ℕ) (e k : ℕ) (buf : List ℕ) (p x y : ℕ) (z : List ℕ) → sets buf p (pair_values (drop k (take e s))) ≡ z
    → k + 1 < e → e ≤ length s → x ≡ value (get_or s k 0) → y ≡ value (get_or s (k + 1) 0)
    → sets (set buf p (x * 16 + y)) (suc p) (pair_values (drop (k + 2) (take e s))) ≡ z
unfolding pair_values
values_step s e k buf p x y z inv h j f g = rw (f, g) (rw (from_two s e k h j) at inv)

pub values_done : (s : List ℕ) (e k : ℕ) (buf : List ℕ) (p : ℕ) (z : List ℕ) → sets buf p (pair_values (drop k (take e s))) ≡ z
    → e ≤ k → buf ≡ z
unfolding pair_values
values_done s e k buf p z inv h =
    let j : length (take e s) ≤ k = simp length-take (omega arith) in rw (drop_of_length-le (take e s) j) at inv

-- no test says both
pub never : {P : Type 0} → false ≡ true → P
never e = let z : ◌≡◌ {A = ℕ} 0 1 = cc in absurd (omega arith)

-- what is said of no digit is 1
pub other_none : (c x : ℕ) → x ≡ choose (digit? c) 0 1 → x ≡ 0 → Digit c
other_none c x e z = picked _ _ _ (sym e) (λ d _. d) (λ _ q. absurd (omega arith))

-- an or of nothing
pub or_none : (o x : ℕ) → bit_or o x ≡ 0 → (o ≡ 0) × (x ≡ 0)
or_none o x q =
    let a = or_add_and o x in
    let l = and_le_l o x in
    let m = and_le_r o x in
    (omega arith, omega arith)

-- no other character so far, where the digits from k on are digits
pub others_step : (s : List ℕ) (k o x : ℕ) (P : Type 0) → (o ≡ 0 → All Digit (drop k s) → P) → k < length s
    → (x ≡ 0 → Digit (get_or s k 0)) → bit_or o x ≡ 0 → All Digit (drop (k + 1) s) → P
others_step s k o x P inv h d q r =
    let n = or_none o x q in inv n.0 (rw (drop-cons s k 0 h) (d n.1, (rw (add-one k) at r)))

pub others_done : (s : List ℕ) (e k : ℕ) → e ≤ k → All Digit (drop k (take e s))
others_done s e k h =
    let j : length (take e s) ≤ k = simp length-take (omega arith) in rw (drop_of_length-le (take e s) j) tt

-- ---- a text that begins with pairs of digits

-- the pairs from f to before k are decoded: however far the digits behind them go, both make the buffer that all of them make
unfoldable pub Begun : List ℕ → ℕ → List ℕ → ℕ → ℕ → List ℕ → ℕ → Type 0
Begun s f buf₀ at₀ k buf at =
    (e : ℕ) → k ≤ e → e ≤ length s
    → (All Digit (drop k (take e s)) → All Digit (drop f (take e s)))
    × (sets buf at (pair_values (drop k (take e s))) ≡ sets buf₀ at₀ (pair_values (drop f (take e s))))

pub begun_start : (s : List ℕ) (f : ℕ) (buf : List ℕ) (at : ℕ) → Begun s f buf at f buf at
unfolding Begun
begun_start s f buf at e h j = (λ d. d, refl)

module _ (s : List ℕ) (f : ℕ) (buf₀ : List ℕ) (at₀ k : ℕ) (buf : List ℕ) (at : ℕ) (inv : Begun s f buf₀ at₀ k buf at) where
  pub begun_on : (x y : ℕ) → Digit (get_or s k 0) × (x ≡ value (get_or s k 0)) → Digit (get_or s (k + 1) 0) × (y ≡ value (get_or s (k + 1) 0))
      → Begun s f buf₀ at₀ (k + 2) (set buf at (x * 16 + y)) (suc at)
  unfolding Begun
  begun_on x y p q e h j =
      let r = inv e (omega arith) j in (
        λ d. r.0 (rw (from_two s e k (omega arith) j) (p.0, (q.0, d))),
        values_step s e k buf at x y _ r.1 (omega arith) j p.1 q.1,
      )

  pub begun_done : k ≤ length s → All Digit (drop f (take k s)) × (buf ≡ sets buf₀ at₀ (pair_values (drop f (take k s))))
  unfolding Begun
  begun_done h =
      let r = inv k (omega arith) h in
      (r.0 (others_done s k k (omega arith)), values_done s k k buf at _ r.1 (omega arith))

-- what there is room for, where code has found that there is room for all r pairs or that there is none
pub quick_room : (r end from room at d : ℕ) → (r ≡ 0) ⊎ ((from + 2 * r ≤ end) × (at + r ≤ 254) × (at + r ≤ room)) → d ≤ r
    → (d ≤ (end - from) / 2) × (d ≤ 254 - at) × (d ≤ room - at)
quick_room r end from room at d q h =
    ⊎_elim
    (λ (e : r ≡ 0). (omega arith, omega arith, omega arith))
    (λ (p : (from + 2 * r ≤ end) × (at + r ≤ 254) × (at + r ≤ room)). (omega (arith, p), omega (arith, p), omega (arith, p)))
    q

-- a reading goes on behind m pairs of digits for which there is room
module _ (s : List ℕ) (n : ℕ) (h : n ≤ length s) (end : Ending) (z : (ℕ × ℕ) × List ℕ) (e k' at' : ℕ) (after : List ℕ) where
  pub resumed_digits : (m i k : ℕ) (buf : List ℕ) (at : ℕ) → resumed end k buf at (drop i (take n s)) ≡ z
      → m ≤ (n - i) / 2 → m ≤ 254 - at → m ≤ length buf - at → e ≡ i + 2 * m → k' ≡ k + m → at' ≡ at + m
      → All Digit (drop i (take e s)) → after ≡ sets buf at (pair_values (drop i (take e s)))
      → resumed end k' after at' (drop e (take n s)) ≡ z
  resumed_digits zero i k buf at inv h₁ h₂ h₃ q₁ q₂ q₃ d g =
      let a : e ≡ i = omega arith in
      let b : k' ≡ k = omega arith in
      let c : at' ≡ at = omega arith in
      rw (a, b, c, ← values_done s e i buf at after (sym g) (omega arith)) inv
  resumed_digits (suc m) i k buf at inv h₁ h₂ h₃ q₁ q₂ q₃ d g =
      let (x, y, t) = digits_two s e i d (omega arith) (omega arith) in
      let u = undigit_value (get_or s i 0) x in
      let p = pair_both _ _ (undigit_goes _ _ u) _ _ u (second_some s n (i + 1) (omega arith) h ∙ undigit_value (get_or s (i + 1) 0) y) in
      let r = resumed_go s n i end k buf at z inv _ (suc k) _ (omega arith) h (λ q. omega arith) p (omega arith) refl refl in
      resumed_digits m (i + 2) (suc k) _ (at + 1) r (omega arith) (omega arith) (simp length-set (omega arith)) (omega arith) (omega arith)
      (omega arith) t (sym (rw (add-one at) (values_step s e i buf at _ _ after (sym g) (omega arith) (omega arith) refl refl)))
