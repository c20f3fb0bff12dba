-- Laws of the front of a log, and of its records one after the other.
-- Assumes nothing.
use mathlib.Core.Logic.{inl, inr, ⊎_elim, ◌⊎◌, by_cases}
use mathlib.Core.Path.{◌≡◌, refl, sym, ap, ap₂, ◌∙◌}
use mathlib.Core.List.{List, [], ◌∷◌, ◌++◌}
use Prim.Native.Nat.{ℕ, zero, suc, ◌+◌, ◌*◌, ◌≤◌, ◌<◌}
use native.Mathlib.Omega.{arith}
use lib.ListN.{length, take, drop, get_or, length-append, length-drop, get_or-append}
use lib.Seq.{drop-append-le, take-append-le, length-take-le}
use Rattle.modbus.specs.Step.{◌≤?◌}
use Rattle.modbus.specs.Bytes.{word_at}
use Rattle.modbus.proofs.StepLaws.{pass, fail}
use Rattle.std.specs.Prelude.{Some, None, Ok, Err}
use Rattle.logs.specs.Log.{counted_in, Marked, marked?, Peek, weighed, seen_as, peeked, advanced, Sound, Report, finished, go_on, tally, report}
use Rattle.logs.specs.declared.Counted.{Counted}
use Rattle.logs.specs.declared.Total.{Total}
use Rattle.logs.specs.declared.Fault.{Fault}
use Rattle.logs.specs.declared.Fault.TheVariants.{BadMark, BadRecord, TooLong}
use Rattle.logs.proofs.CountLaws.{counted_fits, sound_more}

-- ---- the front of a log

module _ (o : ℕ) (l : List ℕ) where
  pub peek_mark : ¬ Marked l → peeked o l ≡ Err (BadMark o)
  unfolding peeked weighed
  peek_mark h = ap seen_as (fail _ _ _ h)

  module _ (m : Marked l) where
    pub peek_few : ¬ 4 ≤ length l → peeked o l ≡ Ok None
    unfolding peeked weighed
    peek_few h = ap seen_as (pass _ _ _ m ∙ fail _ _ _ h)

    module _ (a : 4 ≤ length l) where
      pub peek_large : ¬ word_at l 2 ≤ 4096 → peeked o l ≡ Err (BadRecord o)
      unfolding peeked weighed
      peek_large h = ap seen_as (pass _ _ _ m ∙ pass _ _ _ a ∙ fail _ _ _ h)

      module _ (b : word_at l 2 ≤ 4096) where
        pub peek_cut : ¬ 4 + word_at l 2 ≤ length l → peeked o l ≡ Ok None
        unfolding peeked weighed
        peek_cut h = ap seen_as (pass _ _ _ m ∙ pass _ _ _ a ∙ pass _ _ _ b ∙ fail _ _ _ h)

        module _ (c : 4 + word_at l 2 ≤ length l) where
          pub peek_long : ¬ o + (4 + word_at l 2) ≤ 4294967295 → peeked o l ≡ Err TooLong
          unfolding peeked weighed
          peek_long h = ap seen_as (pass _ _ _ m ∙ pass _ _ _ a ∙ pass _ _ _ b ∙ pass _ _ _ c ∙ fail _ _ _ h)

          pub peek_whole : o + (4 + word_at l 2) ≤ 4294967295 → peeked o l ≡ Ok (Some (word_at l 2))
          unfolding peeked weighed
          peek_whole h = ap seen_as (pass _ _ _ m ∙ pass _ _ _ a ∙ pass _ _ _ b ∙ pass _ _ _ c ∙ pass _ _ _ h)

-- by cases of what is said
pub peek_cases : {C : Type 0} (o : ℕ) (l : List ℕ)
    → (¬ Marked l → peeked o l ≡ Err (BadMark o) → C)
    → (Marked l → length l < 4 → peeked o l ≡ Ok None → C)
    → (Marked l → 4 ≤ length l → ¬ word_at l 2 ≤ 4096 → peeked o l ≡ Err (BadRecord o) → C)
    → (Marked l → 4 ≤ length l → word_at l 2 ≤ 4096 → ¬ 4 + word_at l 2 ≤ length l → peeked o l ≡ Ok None → C)
    → (Marked l → 4 ≤ length l → word_at l 2 ≤ 4096 → 4 + word_at l 2 ≤ length l → ¬ o + (4 + word_at l 2) ≤ 4294967295 → peeked o l ≡ Err TooLong → C)
    → (Marked l → 4 ≤ length l → word_at l 2 ≤ 4096 → 4 + word_at l 2 ≤ length l → o + (4 + word_at l 2) ≤ 4294967295 → peeked o l ≡ Ok (Some (word_at l 2)) → C)
    → C
peek_cases o l mark few large cut long whole =
    by_cases (marked? l)
    (λ m. by_cases (4 ≤? length l)
    (λ a. by_cases (word_at l 2 ≤? 4096)
    (λ b. by_cases (4 + word_at l 2 ≤? length l)
    (λ c. by_cases (o + (4 + word_at l 2) ≤? 4294967295)
    (λ d. whole m a b c d (peek_whole o l m a b c d))
    (λ d. long m a b c d (peek_long o l m a b c d)))
    (λ c. cut m a b c (peek_cut o l m a b c)))
    (λ b. large m a b (peek_large o l m a b)))
    (λ a. few m (omega arith) (peek_few o l m a)))
    (λ m. mark m (peek_mark o l m))

-- ---- more bytes behind

word_append : (l r : List ℕ) (i : ℕ) → suc i < length l → word_at (l ++ r) i ≡ word_at l i
word_append l r i h =
    ap₂ (λ x y. x * 256 + y) (get_or-append l r 0 i (let z : i < length l = omega arith in z)) (get_or-append l r 0 (suc i) h)

mark_append : (l r : List ℕ) → 2 ≤ length l → Marked l → Marked (l ++ r)
mark_append l r h (p, q) = (
  inr (get_or-append l r 0 0 (let z : 0 < length l = omega arith in z) ∙ ⊎_elim (λ e. absurd (omega arith)) (λ e. e) p),
  inr (get_or-append l r 0 1 (let z : 1 < length l = omega arith in z) ∙ ⊎_elim (λ e. absurd (omega arith)) (λ e. e) q),
)

mark_front : (l r : List ℕ) → Marked (l ++ r) → Marked l
mark_front l r (p, q) = (by_cases (length l ≤? 0) (λ h. inl h) (λ h. inr (one h p)), by_cases (length l ≤? 1) (λ h. inl h) (λ h. inr (two h q)))
  where
    k : length (l ++ r) ≡ length l + length r
    k = length-append l r

    one : ¬ length l ≤ 0 → (length (l ++ r) ≤ 0) ⊎ (get_or (l ++ r) 0 0 ≡ 0x4D) → get_or l 0 0 ≡ 0x4D
    one h x = sym (get_or-append l r 0 0 (let z : 0 < length l = omega arith in z)) ∙ ⊎_elim (λ e. absurd (omega (arith, k))) (λ e. e) x

    two : ¬ length l ≤ 1 → (length (l ++ r) ≤ 1) ⊎ (get_or (l ++ r) 1 0 ≡ 0x42) → get_or l 1 0 ≡ 0x42
    two h x = sym (get_or-append l r 0 1 (let z : 1 < length l = omega arith in z)) ∙ ⊎_elim (λ e. absurd (omega (arith, k))) (λ e. e) x

-- what is said of the front, but for nothing yet, is said whatever comes behind
pub peek_stays : (o : ℕ) (l r : List ℕ) → (peeked o l ≡ Ok None) ⊎ (peeked o (l ++ r) ≡ peeked o l)
peek_stays o l r =
    let k = length-append l r in
    peek_cases o l
    (λ m e. inr (peek_mark o (l ++ r) (λ h. m (mark_front l r h)) ∙ sym e))
    (λ m a e. inl e)
    (λ m a b e. let w = word_append l r 2 (omega arith) in inr (peek_large o (l ++ r) (mark_append l r (omega arith) m) (omega (arith, k)) (λ h. b (omega (arith, w, h))) ∙ sym e))
    (λ m a b c e. inl e)
    (λ m a b c d e. let w = word_append l r 2 (omega arith) in inr (peek_long o (l ++ r) (mark_append l r (omega arith) m) (omega (arith, k)) (omega (arith, w)) (omega (arith, w, k)) (λ h. d (omega (arith, w, h))) ∙ sym e))
    (λ m a b c d e. let w = word_append l r 2 (omega arith) in inr (peek_whole o (l ++ r) (mark_append l r (omega arith) m) (omega (arith, k)) (omega (arith, w)) (omega (arith, w, k)) (omega (arith, w)) ∙ ap (λ n. Ok (Some n)) w ∙ sym e))

-- which of the three it is, as a number
abbrev kind : Peek → ℕ
kind (Err f) = 0
kind (Ok None) = 1
kind (Ok (Some n)) = 2

unlike : {C : Type 0} {p q : Peek} → p ≡ q → ¬ kind p ≡ kind q → C
unlike e h = absurd (h (ap kind e))

-- a whole record
pub whole_is : (o : ℕ) (l : List ℕ) (n : ℕ) → peeked o l ≡ Ok (Some n) → (4 + n ≤ length l) × (n ≤ 4096) × (o + (4 + n) ≤ 4294967295)
whole_is o l n w =
    peek_cases o l
    (λ m e. unlike (sym e ∙ w) (λ h. omega (arith, h)))
    (λ m a e. unlike (sym e ∙ w) (λ h. omega (arith, h)))
    (λ m a b e. unlike (sym e ∙ w) (λ h. omega (arith, h)))
    (λ m a b c e. unlike (sym e ∙ w) (λ h. omega (arith, h)))
    (λ m a b c d e. unlike (sym e ∙ w) (λ h. omega (arith, h)))
    (λ m a b c d e. let y = sym e ∙ w in let z : word_at l 2 ≡ n = cc in (omega (arith, z), omega (arith, z), omega (arith, z)))

pub whole_fits : (o : ℕ) (l : List ℕ) (n : ℕ) → peeked o l ≡ Ok (Some n) → 4 + n ≤ length l
whole_fits o l n w = (whole_is o l n w).0

pub whole_stays : (o : ℕ) (l r : List ℕ) (n : ℕ) → peeked o l ≡ Ok (Some n) → peeked o (l ++ r) ≡ Ok (Some n)
whole_stays o l r n w = ⊎_elim (λ e. unlike (sym e ∙ w) (λ h. omega (arith, h))) (λ e. e ∙ w) (peek_stays o l r)

-- what is not enough to tell is short, so that there is always room to read into
pub more_short : (o : ℕ) (l : List ℕ) → peeked o l ≡ Ok None → length l < 4100
more_short o l w =
    peek_cases o l
    (λ m e. unlike (sym e ∙ w) (λ h. omega (arith, h)))
    (λ m a e. omega arith)
    (λ m a b e. unlike (sym e ∙ w) (λ h. omega (arith, h)))
    (λ m a b c e. omega arith)
    (λ m a b c d e. unlike (sym e ∙ w) (λ h. omega (arith, h)))
    (λ m a b c d e. unlike (sym e ∙ w) (λ h. omega (arith, h)))

-- ---- record by record

same_after : (f g : Total → List ℕ → Report) (t : Total) (l : List ℕ) (p : Peek)
    → ((n : ℕ) → p ≡ Ok (Some n) → f (advanced t (take n (drop 4 l))) (drop (4 + n) l) ≡ g (advanced t (take n (drop 4 l))) (drop (4 + n) l))
    → go_on f t l p ≡ go_on g t l p
same_after f g t l (Err e) h = refl
same_after f g t l (Ok None) h = refl
same_after f g t l (Ok (Some n)) h = h n refl

peek_empty : (o : ℕ) → peeked o [] ≡ Ok None
peek_empty o = peek_few o [] (inl (omega arith), inl (omega arith)) (λ h. omega arith)

-- more fuel than bytes changes nothing
tally_enough : (k j : ℕ) (t : Total) (l : List ℕ) → length l ≤ k → length l ≤ j → tally k t l ≡ tally j t l
unfolding tally
tally_enough zero zero t l a b = refl
tally_enough zero (suc j) t [] a b = sym (ap (go_on (tally j) t []) (peek_empty t.at))
tally_enough zero (suc j) t (x ∷ l) a b = absurd (omega arith)
tally_enough (suc k) zero t [] a b = ap (go_on (tally k) t []) (peek_empty t.at)
tally_enough (suc k) zero t (x ∷ l) a b = absurd (omega arith)
tally_enough (suc k) (suc j) t l a b =
    same_after (tally k) (tally j) t l (peeked t.at l) (λ n e.
    let f = whole_fits t.at l n e in
    let d = length-drop (4 + n) l in
    tally_enough k j _ (drop (4 + n) l) (omega (arith, f, d)) (omega (arith, f, d)))

tally_whole : (k : ℕ) (t : Total) (l : List ℕ) (n : ℕ) → length l ≤ k → peeked t.at l ≡ Ok (Some n) → tally k t l ≡ report (advanced t (take n (drop 4 l))) (drop (4 + n) l)
unfolding tally report
tally_whole zero t l n h e = let f = whole_fits t.at l n e in absurd (omega arith)
tally_whole (suc k) t l n h e =
    let f = whole_fits t.at l n e in
    let d = length-drop (4 + n) l in
    ap (go_on (tally k) t l) e ∙ tally_enough k (length (drop (4 + n) l)) _ (drop (4 + n) l) (omega (arith, f, d)) (omega arith)

-- one record more
pub report_step : (t : Total) (l r : List ℕ) (n : ℕ) → peeked t.at l ≡ Ok (Some n)
    → report t (l ++ r) ≡ report (advanced t (take n (drop 4 l))) (drop (4 + n) l ++ r)
unfolding report
report_step t l r n e =
    let f = whole_fits t.at l n e in
    tally_whole (length (l ++ r)) t (l ++ r) n (omega arith) (whole_stays t.at l r n e)
    ∙ ap₂ (λ x y. report (advanced t x) y)
    (ap (take n) (drop-append-le 4 l r (omega arith)) ∙ take-append-le n (drop 4 l) r (let d = length-drop 4 l in omega (arith, d, f)))
    (drop-append-le (4 + n) l r f)

none_left : (t : Total) → tally zero t [] ≡ go_on report t [] (peeked t.at [])
unfolding tally
none_left t = sym (ap (go_on report t []) (peek_empty t.at))

some_left : (k : ℕ) (t : Total) (l : List ℕ) → ((n : ℕ) → ¬ peeked t.at l ≡ Ok (Some n)) → tally (suc k) t l ≡ go_on report t l (peeked t.at l)
unfolding tally
some_left k t l h = same_after (tally k) report t l (peeked t.at l) (λ n e. absurd (h n e))

-- where no whole record stands at the front
pub report_last : (t : Total) (l : List ℕ) → ((n : ℕ) → ¬ peeked t.at l ≡ Ok (Some n)) → report t l ≡ go_on report t l (peeked t.at l)
unfolding report
report_last t l h = by_fuel (length l) l refl h
  where
    by_fuel : (k : ℕ) (l : List ℕ) → length l ≡ k → ((n : ℕ) → ¬ peeked t.at l ≡ Ok (Some n)) → tally k t l ≡ go_on report t l (peeked t.at l)
    by_fuel zero [] e h = none_left t
    by_fuel zero (x ∷ l) e h = absurd (omega arith)
    by_fuel (suc k) l e h = some_left k t l h

-- ---- the end of a log

told : (t : Total) (l : List ℕ) (p : Peek) → peeked t.at l ≡ p → ¬ kind p ≡ 2 → report t l ≡ go_on report t l p
told t l p e k = report_last t l (λ n w. unlike (sym e ∙ w) k) ∙ ap (go_on report t l) e

module _ (t : Total) (l : List ℕ) where
  pub ends_fault : (f : Fault) → peeked t.at l ≡ Err f → report t l ≡ Err f
  ends_fault f e = told t l (Err f) e (λ h. omega (arith, h))

  pub ends_mark : peeked t.at l ≡ Err (BadMark t.at) → report t l ≡ Err (BadMark t.at)
  ends_mark = ends_fault (BadMark t.at)

  pub ends_long : peeked t.at l ≡ Err TooLong → report t l ≡ Err TooLong
  ends_long = ends_fault TooLong

pub ends_empty : (t : Total) → report t [] ≡ Ok t
ends_empty t = told t [] (Ok None) (peek_empty t.at) (λ h. omega (arith, h))

some_bytes : (t : Total) (l : List ℕ) → 0 < length l → finished t l ≡ Err (BadRecord t.at)
some_bytes t [] a = absurd (omega arith)
some_bytes t (x ∷ l) a = refl

pub ends_few : (t : Total) (l : List ℕ) → 0 < length l → peeked t.at l ≡ Ok None → report t l ≡ Err (BadRecord t.at)
ends_few t l a e = told t l (Ok None) e (λ h. omega (arith, h)) ∙ some_bytes t l a

pub ends_cut : (t : Total) (l : List ℕ) → 0 < length l → ¬ peeked t.at l ≡ Err (BadMark t.at) → ¬ peeked t.at l ≡ Err TooLong → ((n : ℕ) → ¬ peeked t.at l ≡ Ok (Some n))
    → report t l ≡ Err (BadRecord t.at)
ends_cut t l a m o w =
    peek_cases t.at l
    (λ _ e. absurd (m e))
    (λ _ b e. ends_few t l a e)
    (λ _ b c e. ends_fault t l (BadRecord t.at) e)
    (λ _ b c d e. ends_few t l a e)
    (λ _ b c d f e. absurd (o e))
    (λ _ b c d f e. absurd (w _ e))

pub append_nil : (l : List ℕ) → l ++ [] ≡ l
append_nil [] = refl
append_nil (x ∷ l) = ap (λ m. x ∷ m) (append_nil l)

-- what holds whatever comes behind, where nothing does
pub nothing_behind : (t : Total) (l : List ℕ) (u : Total) (m : List ℕ) → ((rest : List ℕ) → report t (l ++ rest) ≡ report u (m ++ rest)) → report t l ≡ report u m
nothing_behind t l u m e = ap (report t) (sym (append_nil l)) ∙ e [] ∙ ap (report u) (append_nil m)

-- the same of a log off whose front records were taken
module _ (t : Total) (l : List ℕ) (u : Total) (m : List ℕ) (same : (rest : List ℕ) → report t (l ++ rest) ≡ report u (m ++ rest)) where
  pub then_fault : (f : Fault) → peeked u.at m ≡ Err f → Err f ≡ report t l
  then_fault f e = sym (nothing_behind t l u m same ∙ ends_fault u m f e)

  pub then_mark : peeked u.at m ≡ Err (BadMark u.at) → Err (BadMark u.at) ≡ report t l
  then_mark = then_fault (BadMark u.at)

  pub then_long : peeked u.at m ≡ Err TooLong → Err TooLong ≡ report t l
  then_long = then_fault TooLong

  pub then_cut : 0 < length m → ¬ peeked u.at m ≡ Err (BadMark u.at) → ¬ peeked u.at m ≡ Err TooLong → ((n : ℕ) → ¬ peeked u.at m ≡ Ok (Some n))
      → Err (BadRecord u.at) ≡ report t l
  then_cut a b c d = sym (nothing_behind t l u m same ∙ ends_cut u m a b c d)

  pub then_few : 0 < length m → peeked u.at m ≡ Ok None → Err (BadRecord u.at) ≡ report t l
  then_few a e = sym (nothing_behind t l u m same ∙ ends_few u m a e)

  pub then_empty : m ≡ [] → Ok u ≡ report t l
  then_empty e = sym (nothing_behind t l u m same ∙ ap (report u) e ∙ ends_empty u)

-- ---- totals

-- what is counted is no more than the log has bytes
pub sound_step : (t : Total) (l : List ℕ) (n : ℕ) → Sound t → peeked t.at l ≡ Ok (Some n) → Sound (advanced t (take n (drop 4 l)))
sound_step t l n s w =
    let (a, b, c) = whole_is t.at l n w in
    let k : length (take n (drop 4 l)) ≡ n = length-take-le n (drop 4 l) (let d = length-drop 4 l in omega (arith, d, a)) in
    sound_more t (take n (drop 4 l)) s (omega (arith, k, c))

pub at_step : (t : Total) (l : List ℕ) (n : ℕ) → peeked t.at l ≡ Ok (Some n) → (advanced t (take n (drop 4 l))).at ≡ t.at + (4 + n)
unfolding advanced
at_step t l n w =
    let a = whole_fits t.at l n w in
    let k : length (take n (drop 4 l)) ≡ n = length-take-le n (drop 4 l) (let d = length-drop 4 l in omega (arith, d, a)) in
    omega (arith, k)

-- one record more fits: no total is more than the log's bytes, nor the frames more than the record
pub record_fits : (t : Total) (l : List ℕ) (c : Counted) → Sound t → t.at + (4 + length l) ≤ 4294967295 → c ≡ counted_in l
    → (t.frames + c.frames ≤ 4294967295) × (t.inside + c.inside ≤ 4294967295) × (c.inside ≤ length l) × (t.other + length l ≤ 4294967295)
record_fits t l c s h e =
    let f = ap (λ (x : Counted). x.frames) e in
    let i = ap (λ (x : Counted). x.inside) e in
    let (p, q) = counted_fits l in
    (omega (arith, f, p, q, h, s.2), omega (arith, i, q, h, s.3), omega (arith, i, q), omega (arith, h, s.3))
