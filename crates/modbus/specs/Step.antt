-- A computation that stops at its first fault, so that an order of faults is written one line each; and the tests that
-- it may stop at, which carry the proposition that they decide.
-- Assumes nothing.
use Rattle.std.specs.Prelude.{◌⊎◌, ◌≡◌, refl, ℕ, ◌≤◌}
use Rattle.std.proofs.Common.{inl, inr, ap₂}
use Rattle.std.proofs.Math.Logic.Dec
use mathlib.Core.List.{List, [], ◌∷◌, nil≢cons, cons≢nil, head-eq_of_cons-eq, tail-eq_of_cons-eq}
use Rattle.std.proofs.Math.Decide.{dec_le, ℕ_discrete}

infixl 10 ◌>>=◌
infixl 10 ◌>>◌
infix 40 ◌≤?◌
infix 40 ◌≟◌
infixr 30 ◌and?◌
infixr 25 ◌or?◌
pub data Step (F A : Type 0) : Type 0 where
  stop : F → Step F A
  go : A → Step F A

unfoldable pub ◌>>=◌ : {F A B : Type 0} → Step F A → (A → Step F B) → Step F B
◌>>=◌ (stop e) k = stop e
◌>>=◌ (go a) k = k a

unfoldable pub ◌>>◌ : {F B : Type 0} → Step F (Unit {0}) → Step F B → Step F B
◌>>◌ (stop e) k = stop e
◌>>◌ (go a) k = k

-- goes on exactly if P holds
unfoldable pub need : {F P : Type 0} → Dec P → F → Step F (Unit {0})
need (yes p) e = go tt
need (no p) e = stop e

unfoldable pub choose : {A P : Type 0} → Dec P → A → A → A
choose (yes p) a b = a
choose (no p) a b = b

abbrev pub ◌≤?◌ : (m n : ℕ) → Dec (m ≤ n)
◌≤?◌ m n = dec_le m n

abbrev pub ◌≟◌ : (m n : ℕ) → Dec (m ≡ n)
◌≟◌ m n = ℕ_discrete m n

abbrev pub ◌and?◌ : {P Q : Type 0} → Dec P → Dec Q → Dec (P × Q)
◌and?◌ p q = Dec.and p q

unfoldable pub ◌or?◌ : {P Q : Type 0} → Dec P → Dec Q → Dec (P ⊎ Q)
◌or?◌ (yes p) q = yes (inl p)
◌or?◌ (no p) (yes q) = yes (inr q)
◌or?◌ (no p) (no q) = no (λ h. elim h [ inl x ↦ p x | inr y ↦ q y ])

-- the same test for what says the same
unfoldable pub same_as? : {P Q : Type 0} → Dec P → (P → Q) → (Q → P) → Dec Q
same_as? (yes p) f g = yes (f p)
same_as? (no n) f g = no (λ q. n (g q))

abbrev pub not? : {P : Type 0} → Dec P → Dec (¬ P)
not? p = Dec.not p

unfoldable pub cons? : {x y : ℕ} {l m : List ℕ} → Dec (x ≡ y) → Dec (l ≡ m) → Dec (x ∷ l ≡ y ∷ m)
cons? (yes p) (yes q) = yes (ap₂ ◌∷◌ p q)
cons? (yes p) (no q) = no (λ e. q (tail-eq_of_cons-eq e))
cons? (no p) q = no (λ e. p (head-eq_of_cons-eq e))

unfoldable pub same? : (l m : List ℕ) → Dec (l ≡ m)
unfolding cons?
same? [] [] = yes refl
same? [] (y ∷ m) = no (λ e. nil≢cons e)
same? (x ∷ l) [] = no (λ e. cons≢nil e)
same? (x ∷ l) (y ∷ m) = cons? (x ≟ y) (same? l m)
