-- The shortest frame at each start, and the search start by start.
-- Assumes nothing.
use mathlib.Core.Logic.{by_cases}
use Rattle.std.proofs.Common.{◌≡◌, ℕ, suc, ◌+◌, ◌-◌, ◌<◌, ◌≤◌, min, List, length, sym, ap, ◌∙◌, arith}
use native.Mathlib.Decide.{dec_lt}
use Rattle.logs.specs.Search.{Stands, none, stood, lengths, starts, longest, first_in}
use Rattle.logs.specs.Log.{counted, more, rest}
use Rattle.logs.proofs.SearchLaws.{next_start, no_start}
use Rattle.logs.proofs.FirstLaws.{NoneAt, lengths_cases, search_cases}
use Rattle.logs.proofs.CountLaws.{rest_none, rest_more}
use Rattle.linecount.specs.Sums.{length_of, shortest}

pub shortest_cases : {C : Type 0} (l : List ℕ) (s : ℕ)
    → ((m : ℕ) → 4 ≤ m → m ≤ longest (length l - s) → Stands l s m → NoneAt l s 4 m → shortest l s ≡ m → C)
    → (NoneAt l s 4 (suc (longest (length l - s))) → shortest l s ≡ 0 → C) → C
unfolding shortest
shortest_cases l s f g =
    lengths_cases l s (longest (length l - s) - 3) 4 none
    (λ m a b h n e. f m a (omega arith) h n (ap length_of e))
    (λ n e. g (λ j a b. n j a (omega arith)) (ap length_of e))

-- the least is one
same_least : (l : List ℕ) (s m n : ℕ) → 4 ≤ m → 4 ≤ n → Stands l s m → NoneAt l s 4 m → Stands l s n → NoneAt l s 4 n → m ≡ n
same_least l s m n a b p q r t =
    by_cases (dec_lt m n) (λ h. absurd (t m a h p)) (λ h. by_cases (dec_lt n m) (λ k. absurd (q n b k r)) (λ k. omega (arith, h, k)))

first_is : (l : List ℕ) (s : ℕ) → s < length l - 3 → first_in l s ≡ lengths l s (longest (length l - s) - 3) 4 (first_in l (suc s))
unfolding first_in
first_is l s h =
    next_start l (length l - 3) s h
    ∙ ap (λ k. lengths l s k 4 (starts l (length l - 3 - suc s) (suc s))) (let z : suc (min 256 (length l - s)) - 4 ≡ min 256 (length l - s) - 3 = omega arith in z)

first_end : (l : List ℕ) (s : ℕ) → length l - 3 ≤ s → first_in l s ≡ none
unfolding first_in
first_end l s h = no_start l (length l - 3) s h

pub first_skip : (l : List ℕ) (s : ℕ) → shortest l s ≡ 0 → first_in l s ≡ first_in l (suc s)
first_skip l s z =
    by_cases (dec_lt s (length l - 3))
    (λ h. shortest_cases l s
    (λ m a b p q e. absurd (omega (arith, a, z, e)))
    (λ n e. lengths_cases l s (longest (length l - s) - 3) 4 (first_in l (suc s))
    (λ m a b p q w. absurd (n m a (omega arith) p))
    (λ q w. first_is l s h ∙ w)))
    (λ h. first_end l s (omega (arith, h)) ∙ sym (first_end l (suc s) (omega (arith, h))))

pub first_here : (l : List ℕ) (s : ℕ) → 0 < shortest l s → first_in l s ≡ stood s (shortest l s)
first_here l s z =
    shortest_cases l s
    (λ m a b p q e.
    by_cases (dec_lt s (length l - 3))
    (λ h. lengths_cases l s (longest (length l - s) - 3) 4 (first_in l (suc s))
    (λ k u v r t w. first_is l s h ∙ w ∙ ap (stood s) (same_least l s k m u a r t p q ∙ sym e))
    (λ t w. absurd (t m a (omega arith) p)))
    (λ h. absurd (omega (arith, h, a, b))))
    (λ n e. absurd (omega (arith, z, e)))

-- a start with no frame, and one with a frame
pub walk_skip : (l : List ℕ) (s : ℕ) → s < length l → shortest l s ≡ 0 → rest l s ≡ rest l (suc s)
walk_skip l s h z =
    let e = first_skip l s z in
    search_cases l (suc s)
    (λ t n p q. rest_more l s t n h (e ∙ q) (omega (arith, p.after)) p.least
    ∙ sym (rest_more l (suc s) t n (omega (arith, p.after, p.least, p.inside)) q p.after p.least))
    (λ p q. rest_none l s (e ∙ q) ∙ sym (rest_none l (suc s) q))

pub walk_take : (l : List ℕ) (s : ℕ) → s < length l → 0 < shortest l s → rest l s ≡ more (shortest l s) (rest l (s + shortest l s))
walk_take l s h z =
    shortest_cases l s
    (λ m a b p q e. rest_more l s s (shortest l s) h (first_here l s z) (omega arith) (omega (arith, a, e)))
    (λ n e. absurd (omega (arith, z, e)))

pub rest_end : (l : List ℕ) (s : ℕ) → length l < s + 4 → rest l s ≡ counted 0 0
rest_end l s h = rest_none l s (first_end l s (omega arith))
