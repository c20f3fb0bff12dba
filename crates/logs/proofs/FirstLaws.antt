-- What the search finds, and what it tells where it finds nothing.
-- Assumes nothing.
use mathlib.Core.Logic.{by_cases, ◌↔◌}
use mathlib.Core.Path.{◌≡◌, refl, sym, ◌∙◌}
use mathlib.Core.List.{List}
use Prim.Native.Nat.{ℕ, zero, suc, ◌+◌, ◌-◌, ◌≤◌, ◌<◌}
use native.Mathlib.Omega.{arith}
use native.Mathlib.Decide.{ℕ_discrete}
use lib.ListN.{length}
use Rattle.modbus.proofs.StepLaws.{pick_yes, pick_no}
use Rattle.logs.specs.Search.{Stands, stands?, Seen, none, stood, lengths, starts, longest, first_in}

-- no length from n on, below e, stands at s
abbrev pub NoneAt : List ℕ → ℕ → ℕ → ℕ → Type 0
NoneAt l s n e = (j : ℕ) → n ≤ j → j < e → ¬ Stands l s j

on_none : (l : List ℕ) (s n e : ℕ) → ¬ Stands l s n → NoneAt l s (suc n) e → NoneAt l s n e
on_none l s n e p q j a b = by_cases (ℕ_discrete n j) (λ h. rw (sym h) p) (λ h. q j (omega arith) b)

pub lengths_cases : {C : Type 0} (l : List ℕ) (s k n : ℕ) (other : Seen)
    → ((m : ℕ) → n ≤ m → m < n + k → Stands l s m → NoneAt l s n m → lengths l s k n other ≡ stood s m → C)
    → (NoneAt l s n (n + k) → lengths l s k n other ≡ other → C) → C
unfolding lengths
lengths_cases l s zero n other f g = g (λ j a b. absurd (omega arith)) refl
lengths_cases l s (suc k) n other f g =
    by_cases (stands? l s n)
    (λ h. f n (omega arith) (omega arith) h (λ j a b. absurd (omega arith)) (pick_yes (stands? l s n) _ _ h))
    (λ h. lengths_cases l s k (suc n) other
    (λ m a b p q e. f m (omega arith) (omega arith) p (on_none l s n m h q) (pick_no (stands? l s n) _ _ h ∙ e))
    (λ q e. g (on_none l s n (n + suc k) h (λ j a b. q j a (omega arith))) (pick_no (stands? l s n) _ _ h ∙ e)))

-- no start from s on, below e, has a length that stands
abbrev pub NoneFrom : List ℕ → ℕ → ℕ → Type 0
NoneFrom l s e = (a j : ℕ) → s ≤ a → a < e → 4 ≤ j → j ≤ longest (length l - a) → ¬ Stands l a j

start_none : (l : List ℕ) (s e : ℕ) → NoneAt l s 4 (4 + (longest (length l - s) - 3)) → NoneFrom l (suc s) e → NoneFrom l s e
start_none l s e p q a j x y u v =
    by_cases (ℕ_discrete s a) (λ h. p' a h j u v) (λ h. q a j (omega arith) y u v)
  where
    p' : (a : ℕ) → s ≡ a → (j : ℕ) → 4 ≤ j → j ≤ longest (length l - a) → ¬ Stands l a j
    p' a h = rw (sym h) (λ j u v. p j u (omega arith))

pub starts_cases : {C : Type 0} (l : List ℕ) (k s : ℕ)
    → ((a m : ℕ) → s ≤ a → a < s + k → 4 ≤ m → m ≤ longest (length l - a) → Stands l a m → NoneFrom l s a → NoneAt l a 4 m → starts l k s ≡ stood a m → C)
    → (NoneFrom l s (s + k) → starts l k s ≡ none → C) → C
unfolding starts
starts_cases l zero s f g = g (λ a j x y u v. absurd (omega arith)) refl
starts_cases l (suc k) s f g =
    lengths_cases l s (longest (length l - s) - 3) 4 (starts l k (suc s))
    (λ m x y h n e. f s m (omega arith) (omega arith) x (omega arith) h (λ a j x' y' u v. absurd (omega arith)) n e)
    (λ n e. starts_cases l k (suc s)
    (λ a m x y u v h p q e'. f a m (omega arith) (omega arith) u v h (start_none l s a n p) q (e ∙ e'))
    (λ p e'. g (start_none l s (s + suc k) n (λ a j x y u v. p a j x (omega arith) u v)) (e ∙ e')))

-- ---- the promises

-- the first: what is found stands, and nothing before it does
pub record First (l : List ℕ) (from s n : ℕ) : Type 0 where
  pub after : from ≤ s
  pub least : 4 ≤ n
  pub most : n ≤ 256
  pub inside : s + n ≤ length l
  pub stands : Stands l s n
  pub no_earlier : (a j : ℕ) → from ≤ a → a < s → 4 ≤ j → j ≤ 256 → a + j ≤ length l → ¬ Stands l a j
  pub no_shorter : (j : ℕ) → 4 ≤ j → j < n → ¬ Stands l s j

abbrev pub NoFrame : List ℕ → ℕ → Type 0
NoFrame l from = (s n : ℕ) → from ≤ s → 4 ≤ n → n ≤ 256 → s + n ≤ length l → ¬ Stands l s n

pub search_cases : {C : Type 0} (l : List ℕ) (from : ℕ)
    → ((s n : ℕ) → First l from s n → first_in l from ≡ stood s n → C) → (NoFrame l from → first_in l from ≡ none → C) → C
unfolding first_in
search_cases l from f g =
    starts_cases l (length l - 3 - from) from
    (λ a m x y u v h p q e. f a m (record {
      after = x;
      least = u;
      most = omega arith;
      inside = omega arith;
      stands = h;
      no_earlier = λ b j x' y' u' v' w. p b j x' y' u' (omega arith);
      no_shorter = q;
    }) e)
    (λ p e. g (λ s n x u v w. p s n x (omega arith) u (omega arith)) e)

-- the search reports none exactly if no start and length would do
pub none_exactly : (l : List ℕ) (from : ℕ) → (first_in l from ≡ none) ↔ NoFrame l from
none_exactly l from = (
  λ e. search_cases l from (λ s n f q. let z : ◌≡◌ {A = ℕ} 0 1 = cc in absurd (omega arith)) (λ p q. p),
  λ p. search_cases l from (λ s n f q. absurd (p s n f.after f.least f.most f.inside f.stands)) (λ _ q. q),
)
