-- When a run goes through a step and what it then comes to, and what a run that went through tells of its steps.
-- The laws that take a run apart hand what they find to a function: bound by a λ it stays a name, where a `let` would be written out.
-- Assumes nothing.
use mathlib.Core.Bool.{Bool, true, false}
use mathlib.Core.Path.{◌≡◌, refl, sym, ap, ◌∙◌}
use Prim.Native.Nat.{ℕ}
use native.Mathlib.Omega.{arith}
use Rattle.modbus.specs.Step.{Step, stop, go, ◌>>=◌, ◌>>◌, need, choose}

module _ {F B : Type 0} where
  pub pass : {P : Type 0} (d : Dec P) (x : F) (k : Step F B) → P → (need d x >> k) ≡ k
  unfolding ◌>>◌ need
  pass (yes p) x k h = refl
  pass (no p) x k h = absurd (p h)

  pub fail : {P : Type 0} (d : Dec P) (x : F) (k : Step F B) → ¬ P → (need d x >> k) ≡ stop x
  unfolding ◌>>◌ need
  fail (yes p) x k h = absurd (h p)
  fail (no p) x k h = refl

  pub follow : {A : Type 0} (m : Step F A) (k : A → Step F B) {a : A} → m ≡ go a → (m >>= k) ≡ k a
  unfolding ◌>>=◌
  follow m k {a} e = rw e

  pub halt : {A : Type 0} (m : Step F A) (k : A → Step F B) {x : F} → m ≡ stop x → (m >>= k) ≡ stop x
  unfolding ◌>>=◌
  halt m k {x} e = rw e

module _ {F B C : Type 0} where
  pub bound : {A : Type 0} (m : Step F A) (k : A → Step F B) {b : B} → (m >>= k) ≡ go b → ((a : A) → m ≡ go a → k a ≡ go b → C) → C
  unfolding ◌>>=◌
  bound (go a) k e f = f a refl e
  bound (stop x) k e f = let z : ◌≡◌ {A = ℕ} 0 1 = cc in absurd (omega arith)

  pub needed : {P : Type 0} (d : Dec P) (x : F) (k : Step F B) {b : B} → (need d x >> k) ≡ go b → (P → k ≡ go b → C) → C
  unfolding ◌>>◌ need
  needed (yes p) x k e f = f p e
  needed (no p) x k e f = let z : ◌≡◌ {A = ℕ} 0 1 = cc in absurd (omega arith)

  -- a run that stopped did so at this step, or further on
  pub bound_stop : {A : Type 0} (m : Step F A) (k : A → Step F B) {y : F} → (m >>= k) ≡ stop y
      → (m ≡ stop y → C) → ((a : A) → m ≡ go a → k a ≡ stop y → C) → C
  unfolding ◌>>=◌
  bound_stop (go a) k e f g = g a refl e
  bound_stop (stop x) k {y} e f g = f (let z : x ≡ y = cc in ap stop z)

  pub needed_stop : {P : Type 0} (d : Dec P) (x : F) (k : Step F B) {y : F} → (need d x >> k) ≡ stop y
      → (¬ P → x ≡ y → C) → (P → k ≡ stop y → C) → C
  unfolding ◌>>◌ need
  needed_stop (yes p) x k e f g = g p e
  needed_stop (no p) x k {y} e f g = f p cc

  -- a last test stops, or the run goes through
  pub tested : {P : Type 0} (d : Dec P) (x : F) (b : B) → ((need d x >> go b) ≡ stop x → C) → ((need d x >> go b) ≡ go b → C) → C
  unfolding ◌>>◌ need
  tested (yes p) x b f g = g refl
  tested (no p) x b f g = f refl

pub pick_yes : {A P : Type 0} (d : Dec P) (a b : A) → P → choose d a b ≡ a
unfolding choose
pick_yes (yes p) a b h = refl
pick_yes (no p) a b h = absurd (p h)

pub pick_no : {A P : Type 0} (d : Dec P) (a b : A) → ¬ P → choose d a b ≡ b
unfolding choose
pick_no (yes p) a b h = absurd (h p)
pick_no (no p) a b h = refl

-- a choice that came to x
pub picked : {A P C : Type 0} (d : Dec P) (a b : A) {x : A} → choose d a b ≡ x → (P → a ≡ x → C) → (¬ P → b ≡ x → C) → C
unfolding choose
picked (yes p) a b e f g = f p e
picked (no p) a b e f g = g p e

-- what holds of both sides of a choice holds of the choice
pub either : {A P : Type 0} (Q : A → Type 0) (d : Dec P) (a b : A) → (P → Q a) → (¬ P → Q b) → Q (choose d a b)
unfolding choose
either Q (yes p) a b x y = x p
either Q (no p) a b x y = y p

-- a test that answers true where P holds
module _ {P : Type 0} (d : Dec P) (r : Bool) (e : r ≡ choose d true false) where
  pub holds : r ≡ true → P
  holds h = picked _ _ _ (sym e ∙ h) (λ p q. p) (λ p q. let z : ◌≡◌ {A = ℕ} 0 1 = cc in absurd (omega arith))

  pub holds_not : r ≡ false → ¬ P
  holds_not h = picked _ _ _ (sym e ∙ h) (λ p q. let z : ◌≡◌ {A = ℕ} 0 1 = cc in absurd (omega arith)) (λ p q. p)

-- a test that answers true where P does not hold
module _ {P : Type 0} (d : Dec P) (r : Bool) (e : r ≡ choose d false true) where
  pub test_refuses : r ≡ true → ¬ P
  test_refuses h = picked _ _ _ (sym e ∙ h) (λ p q. let z : ◌≡◌ {A = ℕ} 0 1 = cc in absurd (omega arith)) (λ p q. p)

  pub test_passes : r ≡ false → P
  test_passes h = picked _ _ _ (sym e ∙ h) (λ p q. p) (λ p q. let z : ◌≡◌ {A = ℕ} 0 1 = cc in absurd (omega arith))
