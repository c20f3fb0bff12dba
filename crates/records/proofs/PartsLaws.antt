-- Numbers outside a record, one part more, and a buffer said byte by byte: filled, compared, and where it differs.
-- Assumes nothing.
use Rattle.std.proofs.Common.{◌≡◌, ℕ, zero, suc, ◌+◌, ◌<◌, ◌≤◌, true, false, List, [], ◌∷◌, ◌++◌, length, get_or, take, drop, set, sym, refl, ap, ◌∙◌, ap₂, append-nil, le_of_suc-le-suc, not-suc-le-zero, add-one, arith, length-append, drop_of_length-le, take_all, drop-cons, take-suc}
use mathlib.Core.Logic.{by_cases}
use lib.ListN.{get_or-append, get_or-eq_default}
use lib.Seq.{append_snoc, set_at, get_or_at}
use Rattle.modbus.specs.Bytes.{word_at}
use Rattle.modbus.specs.Step.{◌≤?◌}
use Rattle.modbus.proofs.StepLaws.{pick_yes, pick_no}
use Rattle.records.specs.Parts.{wide_at, eight_at, length_of, part_start, made, wanted_at, stood}

-- ---- numbers

word_outside : (l : List ℕ) (i : ℕ) → length l ≤ i → word_at l i ≡ 0
word_outside l i h =
    let a : get_or l i 0 ≡ 0 = get_or-eq_default l 0 h in
    let b : get_or l (suc i) 0 ≡ 0 = get_or-eq_default l 0 (omega arith) in
    omega arith

pub wide_outside : (l : List ℕ) (i : ℕ) → length l ≤ i → wide_at l i ≡ 0
wide_outside l i h =
    let a = word_outside l i h in
    let b = word_outside l (i + 2) (omega arith) in
    omega arith

pub eight_outside : (l : List ℕ) (i : ℕ) → length l ≤ i → eight_at l i ≡ 0
eight_outside l i h =
    let a = wide_outside l i h in
    let b = wide_outside l (i + 4) (omega arith) in
    omega arith

pub start_none : (l : List ℕ) (lengths parts : ℕ) → parts ≡ part_start l lengths parts 0
unfolding part_start
start_none l lengths parts = refl

pub start_next : (l : List ℕ) (lengths parts k : ℕ)
    → part_start l lengths parts (k + 1) ≡ part_start l lengths parts k + length_of l lengths k
unfolding part_start
start_next l lengths parts k = rw add-one

-- inside a list it is all one what stands behind it
pub get_d_inside : (l : List ℕ) (i d e : ℕ) → i < length l → get_or l i d ≡ get_or l i e
get_d_inside [] i d e h = absurd (not-suc-le-zero h)
get_d_inside (x ∷ l) zero d e h = refl
get_d_inside (x ∷ l) (suc i) d e h = get_d_inside l i d e (le_of_suc-le-suc h)

-- ---- a buffer said byte by byte

length_made : (f : ℕ → ℕ) (n : ℕ) → length (made f n) ≡ n
unfolding made
length_made f zero = refl
length_made f (suc n) = length-append (made f n) (f n ∷ []) ∙ ap (◌+ 1) (length_made f n) ∙ add-one n

get_d_made : (f : ℕ → ℕ) (n i : ℕ) → i < n → get_or (made f n) i 0 ≡ f i
unfolding made
get_d_made f zero i h = absurd (not-suc-le-zero h)
get_d_made f (suc n) i h =
    by_cases (suc i ≤? n)
    (λ p. get_or-append (made f n) (f n ∷ []) 0 i (omega (arith, length_made f n)) ∙ get_d_made f n i p)
    (λ p.
    let e : n ≡ i = omega arith in
    get_or_at (made f n) (f n) [] 0 i (length_made f n ∙ e) ∙ ap f e)

-- of a buffer b of which the first i bytes have been written
pub laid_none : (f : ℕ → ℕ) (b : List ℕ) → b ≡ made f 0 ++ drop 0 b
unfolding made
laid_none f b = refl

module _ (f : ℕ → ℕ) (b m : List ℕ) (i : ℕ) (e : m ≡ made f i ++ drop i b) where
  pub laid_more : i < length b → set m i (f i) ≡ made f (i + 1) ++ drop (i + 1) b
  unfolding made
  laid_more h =
      let l = drop (suc i) b in
      let k = set_at (made f i) (get_or b i 0) l (f i) i (length_made f i) in
      rw (e, drop-cons b i 0 h, add-one) (k ∙ sym (append_snoc (made f i) (f i) l))

  pub laid_all : i ≡ length b → m ≡ made f (length b)
  laid_all k = e ∙ rw (k, drop_of_length-le b {i = length b} (omega arith)) (append-nil (made f (length b)))

-- of a buffer of which the first i bytes have been compared
pub same_none : (f : ℕ → ℕ) (b : List ℕ) → take 0 b ≡ made f 0
unfolding made
same_none f b = refl

module _ (f : ℕ → ℕ) (b : List ℕ) (i : ℕ) where
  pub same_more : (x : ℕ) → x ≡ f i → take i b ≡ made f i → i < length b → get_or b i 0 ≡ x
      → take (i + 1) b ≡ made f (i + 1)
  unfolding made
  same_more x w e h k = rw add-one (take-suc b i 0 h ∙ ap₂ (λ l y. l ++ (y ∷ [])) e (k ∙ w))

  same_all : take i b ≡ made f i → i ≡ length b → b ≡ made f (length b)
  same_all e k = sym (take_all i b (omega arith)) ∙ e ∙ ap (made f) k

  differs : (x : ℕ) → x ≡ f i → i < length b → ¬ (get_or b i 0 ≡ x) → ¬ (b ≡ made f (length b))
  differs x w h n e = n (ap (λ (l : List ℕ). get_or l i 0) e ∙ get_d_made f (length b) i h ∙ sym w)

-- ---- the ways out of a comparison

module _ (b front : List ℕ) (filler at : ℕ) (after : List ℕ) where
  pub stood_short : length b < at + length after → false ≡ stood b front filler at after
  stood_short h = sym (pick_no _ _ _ (λ p. omega arith))

  module _ (i : ℕ) where
    pub stood_other : (x : ℕ) → x ≡ wanted_at front filler at after i → i < length b → ¬ (get_or b i 0 ≡ x)
        → false ≡ stood b front filler at after
    stood_other x w h n = sym (pick_no _ _ _ (λ p. differs (wanted_at front filler at after) b i x w h n p.1))

    pub stood_same : at + length after ≤ length b → take i b ≡ made (wanted_at front filler at after) i → i ≡ length b
        → true ≡ stood b front filler at after
    stood_same h e k = sym (pick_yes _ _ _ (h, same_all (wanted_at front filler at after) b i e k))
