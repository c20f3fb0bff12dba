-- A function is found exactly by its number: among those of the documents that a transport offers, and among the crate's eight.
-- Assumes nothing.
use mathlib.Core.Logic.{◌≢◌}
use mathlib.Core.Path.{◌≡◌, refl, ap, ◌∙◌}
use mathlib.Core.List.{List, [], ◌∷◌}
use Prim.Native.Nat.{ℕ, ◌≤◌}
use native.Mathlib.Omega.{arith}
use native.Mathlib.Decide.{ℕ_discrete}
use Rattle.modbus.specs.Step.{stop, go, choose}
use Rattle.modbus.specs.Table.{coils, discretes, holdings, inputs, bit, word}
use Rattle.modbus.specs.Ported as ported
use Rattle.modbus.specs.Ported.{Ported, code_of, all_ported}
use Rattle.modbus.specs.Request.{Fn, reads, one, many, mask, both, code, offered}
use Rattle.modbus.specs.Drive.{find}
use Rattle.modbus.specs.declared.ModbusProto.{ModbusProto}
use Rattle.modbus.proofs.StepLaws.{pick_no, picked}

-- ---- functions of any type with a number each

module _ {A : Type 0} (num : A → ℕ) {F : Type 0} (x : F) (n : ℕ) where
  pub found_fn : (l : List A) (fn : A) → find num x n l ≡ go fn → n ≡ num fn
  unfolding find
  found_fn [] fn e = let z : ◌≡◌ {A = ℕ} 0 1 = cc in absurd (omega arith)
  found_fn (g ∷ l) fn e = picked _ _ _ e (λ p q. let z : g ≡ fn = cc in p ∙ ap num z) (λ p q. found_fn l fn q)

  -- a number of none gives the fault
  pub find_none : ((fn : A) → n ≢ num fn) → (l : List A) → find num x n l ≡ stop x
  unfolding find
  find_none h [] = refl
  find_none h (g ∷ l) = pick_no _ _ _ (h g) ∙ find_none h l

  pub found_fault : {y : F} (l : List A) → find num x n l ≡ stop y → x ≡ y
  unfolding find
  found_fault [] e = cc
  found_fault (g ∷ l) e = picked _ _ _ e (λ p q. let z : ◌≡◌ {A = ℕ} 0 1 = cc in absurd (omega arith)) (λ p q. found_fault l q)

  -- where every number finds its function, a fault means a number of none
  pub found_none : {y : F} (l : List A) → ((fn : A) → n ≡ num fn → find num x n l ≡ go fn) → find num x n l ≡ stop y → (fn : A) → n ≢ num fn
  found_none l h e fn r =
      let g = h fn r in
      let z : ◌≡◌ {A = ℕ} 0 1 = cc in
      omega arith

-- ---- the functions of the documents

pub code_low : (fn : Fn) → code fn ≤ 127
code_low (reads coils) = omega arith
code_low (reads discretes) = omega arith
code_low (reads holdings) = omega arith
code_low (reads inputs) = omega arith
code_low (one bit) = omega arith
code_low (one word) = omega arith
code_low (many bit) = omega arith
code_low (many word) = omega arith
code_low mask = omega arith
code_low both = omega arith

find_code : {F : Type 0} (x : F) (p : ModbusProto) (fn : Fn) → find code x (code fn) (offered p) ≡ go fn
unfolding find choose ℕ_discrete
find_code x p (reads coils) = refl
find_code x p (reads discretes) = refl
find_code x p (reads holdings) = refl
find_code x p (reads inputs) = refl
find_code x p (one bit) = refl
find_code x p (one word) = refl
find_code x p (many bit) = refl
find_code x p (many word) = refl
find_code x p mask = refl
find_code x p both = refl

pub find_fn : {F : Type 0} (x : F) (n : ℕ) (p : ModbusProto) (fn : Fn) → n ≡ code fn → find code x n (offered p) ≡ go fn
find_fn x n p fn e = rw e (find_code x p fn)

-- the numbers one by one
pub none : (n : ℕ) → n ≢ 1 → n ≢ 2 → n ≢ 3 → n ≢ 4 → n ≢ 5 → n ≢ 6 → n ≢ 15 → n ≢ 16 → n ≢ 22 → n ≢ 23
    → (fn : Fn) → n ≢ code fn
none n h1 h2 h3 h4 h5 h6 h15 h16 h22 h23 (reads coils) = h1
none n h1 h2 h3 h4 h5 h6 h15 h16 h22 h23 (reads discretes) = h2
none n h1 h2 h3 h4 h5 h6 h15 h16 h22 h23 (reads holdings) = h3
none n h1 h2 h3 h4 h5 h6 h15 h16 h22 h23 (reads inputs) = h4
none n h1 h2 h3 h4 h5 h6 h15 h16 h22 h23 (one bit) = h5
none n h1 h2 h3 h4 h5 h6 h15 h16 h22 h23 (one word) = h6
none n h1 h2 h3 h4 h5 h6 h15 h16 h22 h23 (many bit) = h15
none n h1 h2 h3 h4 h5 h6 h15 h16 h22 h23 (many word) = h16
none n h1 h2 h3 h4 h5 h6 h15 h16 h22 h23 mask = h22
none n h1 h2 h3 h4 h5 h6 h15 h16 h22 h23 both = h23

-- ---- the crate's eight

find_code_of : {F : Type 0} (x : F) (fn : Ported) → find code_of x (code_of fn) all_ported ≡ go fn
unfolding find choose ℕ_discrete
find_code_of x (ported.reads coils) = refl
find_code_of x (ported.reads discretes) = refl
find_code_of x (ported.reads holdings) = refl
find_code_of x (ported.reads inputs) = refl
find_code_of x (ported.one bit) = refl
find_code_of x (ported.one word) = refl
find_code_of x (ported.many bit) = refl
find_code_of x (ported.many word) = refl

pub find_ported : {F : Type 0} (x : F) (n : ℕ) (fn : Ported) → n ≡ code_of fn → find code_of x n all_ported ≡ go fn
find_ported x n fn e = rw e (find_code_of x fn)

-- the numbers one by one
pub none_ported : (n : ℕ) → n ≢ 1 → n ≢ 2 → n ≢ 3 → n ≢ 4 → n ≢ 5 → n ≢ 6 → n ≢ 15 → n ≢ 16 → (fn : Ported) → n ≢ code_of fn
none_ported n h1 h2 h3 h4 h5 h6 h15 h16 (ported.reads coils) = h1
none_ported n h1 h2 h3 h4 h5 h6 h15 h16 (ported.reads discretes) = h2
none_ported n h1 h2 h3 h4 h5 h6 h15 h16 (ported.reads holdings) = h3
none_ported n h1 h2 h3 h4 h5 h6 h15 h16 (ported.reads inputs) = h4
none_ported n h1 h2 h3 h4 h5 h6 h15 h16 (ported.one bit) = h5
none_ported n h1 h2 h3 h4 h5 h6 h15 h16 (ported.one word) = h6
none_ported n h1 h2 h3 h4 h5 h6 h15 h16 (ported.many bit) = h15
none_ported n h1 h2 h3 h4 h5 h6 h15 h16 (ported.many word) = h16
