-- What is counted in a record: from a place on, with enough fuel, and how much at most.
-- Assumes nothing.
use mathlib.Core.Path.{◌≡◌, refl, sym, ap, ◌∙◌}
use mathlib.Core.List.{List}
use Prim.Native.Nat.{ℕ, zero, suc, ◌+◌, ◌-◌, ◌≤◌, ◌<◌}
use native.Mathlib.Omega.{arith}
use lib.ListN.{length}
use Rattle.logs.specs.Search.{Seen, none, stood, first_in}
use Rattle.logs.specs.Log.{counted, more, behind, counting, counted_in, rest, Sound, advanced}
use Rattle.logs.specs.declared.Counted.{Counted}
use Rattle.logs.specs.declared.Total.{Total}
use Rattle.logs.proofs.FirstLaws.{search_cases}

behind_none : (f : ℕ → Counted) (x : Seen) → x ≡ none → behind f x ≡ counted 0 0
behind_none f x e = rw e refl

behind_stood : (f : ℕ → Counted) (x : Seen) (s n : ℕ) → x ≡ stood s n → behind f x ≡ more n (f (s + n))
behind_stood f x s n e = rw e refl

-- behind the last byte nothing is counted
pub counting_end : (k : ℕ) (l : List ℕ) (s : ℕ) → length l ≤ s → counting k l s ≡ counted 0 0
unfolding counting
counting_end zero l s h = refl
counting_end (suc k) l s h =
    search_cases l s (λ a n p e. absurd (omega (arith, p.after, p.least, p.inside))) (λ p e. behind_none (counting k l) _ e)

-- more fuel than bytes changes nothing
pub enough : (k j : ℕ) (l : List ℕ) (s : ℕ) → length l - s ≤ k → length l - s ≤ j → counting k l s ≡ counting j l s
unfolding counting
enough zero j l s a b = sym (counting_end j l s (omega arith))
enough (suc k) zero l s a b = counting_end (suc k) l s (omega arith)
enough (suc k) (suc j) l s a b =
    search_cases l s
    (λ t n p e. behind_stood (counting k l) _ t n e ∙ ap (more n) (enough k j l (t + n) (omega (arith, p.after, p.least)) (omega (arith, p.after, p.least))) ∙ sym (behind_stood (counting j l) _ t n e))
    (λ p e. behind_none (counting k l) _ e ∙ sym (behind_none (counting j l) _ e))

zero_fuel : (l : List ℕ) (s : ℕ) → counting zero l s ≡ counted 0 0
unfolding counting
zero_fuel l s = refl

suc_none : (k : ℕ) (l : List ℕ) (s : ℕ) → first_in l s ≡ none → counting (suc k) l s ≡ counted 0 0
unfolding counting
suc_none k l s e = behind_none (counting k l) _ e

suc_stood : (k : ℕ) (l : List ℕ) (s t n : ℕ) → first_in l s ≡ stood t n → counting (suc k) l s ≡ more n (counting k l (t + n))
unfolding counting
suc_stood k l s t n e = behind_stood (counting k l) _ t n e

pub rest_none : (l : List ℕ) (s : ℕ) → first_in l s ≡ none → rest l s ≡ counted 0 0
rest_none l s e = by_fuel (length l - s)
  where
    by_fuel : (k : ℕ) → counting k l s ≡ counted 0 0
    by_fuel zero = zero_fuel l s
    by_fuel (suc k) = suc_none k l s e

pub rest_more : (l : List ℕ) (s t n : ℕ) → s < length l → first_in l s ≡ stood t n → s ≤ t → 4 ≤ n → rest l s ≡ more n (rest l (t + n))
rest_more l s t n h e a b =
    let z : length l - s ≡ suc (length l - s - 1) = omega arith in
    ap (λ k. counting k l s) z ∙ suc_stood (length l - s - 1) l s t n e ∙ ap (more n) (enough (length l - s - 1) (length l - (t + n)) l (t + n) (omega arith) (omega arith))

pub counted_rest : (l : List ℕ) → counted_in l ≡ rest l 0
unfolding counted_in
counted_rest l = ap (λ k. counting k l 0) (let z : length l ≡ length l - 0 = omega arith in z)

-- bytes in frames are bytes of the record
inside_by : (k : ℕ) (l : List ℕ) (s : ℕ) → s ≤ length l → (counting k l s).inside ≤ length l - s
unfolding counting
inside_by zero l s h = omega arith
inside_by (suc k) l s h =
    search_cases l s
    (λ t n p e.
    let q = ap (λ (x : Counted). x.inside) (behind_stood (counting k l) _ t n e) in
    let r = inside_by k l (t + n) p.inside in
    omega (arith, p.after, p.inside, q, r))
    (λ p e. let q = ap (λ (x : Counted). x.inside) (behind_none (counting k l) _ e) in omega (arith, q))

-- a frame has more bytes than one
frames_by : (k : ℕ) (l : List ℕ) (s : ℕ) → (counting k l s).frames ≤ (counting k l s).inside
unfolding counting
frames_by zero l s = omega arith
frames_by (suc k) l s =
    search_cases l s
    (λ t n p e.
    let q = behind_stood (counting k l) _ t n e in
    let f = ap (λ (x : Counted). x.frames) q in
    let i = ap (λ (x : Counted). x.inside) q in
    let r = frames_by k l (t + n) in
    omega (arith, p.least, f, i, r))
    (λ p e. let q = behind_none (counting k l) _ e in let f = ap (λ (x : Counted). x.frames) q in omega (arith, f))

pub rest_fits : (l : List ℕ) (s : ℕ) → s ≤ length l → ((rest l s).frames ≤ (rest l s).inside) × ((rest l s).inside ≤ length l - s)
rest_fits l s h = (frames_by (length l - s) l s, inside_by (length l - s) l s h)

pub counted_fits : (l : List ℕ) → ((counted_in l).frames ≤ (counted_in l).inside) × ((counted_in l).inside ≤ length l)
counted_fits l =
    let f = ap (λ (x : Counted). x.frames) (counted_rest l) in
    let i = ap (λ (x : Counted). x.inside) (counted_rest l) in
    let r = rest_fits l 0 (omega arith) in
    (omega (arith, f, i, r.0), omega (arith, i, r.1))

-- one record more leaves the totals sound
pub sound_more : (t : Total) (l : List ℕ) → Sound t → t.at + (4 + length l) ≤ 4294967295 → Sound (advanced t l)
unfolding advanced
sound_more t l s h =
    let (f, i) = counted_fits l in
    (omega (arith, h), omega (arith, s.1), omega (arith, s.2, f, i), omega (arith, s.3, i))
