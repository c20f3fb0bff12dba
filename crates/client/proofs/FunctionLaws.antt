-- Which function is asked, and whether it has as many values as are given.
-- Assumes nothing.
use mathlib.Core.Path.{◌≡◌, refl, sym, ap, ◌∙◌}
use mathlib.Core.List.{List, [], ◌∷◌}
use Prim.Native.Nat.{ℕ, ◌<◌}
use native.Mathlib.Omega.{arith}
use lib.ListN.{length, get_or}
use Rattle.modbus.specs.Step.{Step, stop, go}
use Rattle.modbus.specs.Table.{Kind, bit, word, coils, discretes, holdings, inputs}
use Rattle.modbus.specs.Request.{Fn, reads, one, many, mask, both, code, write, writes}
use Rattle.modbus.specs.Paper.{proto_of}
use Rattle.modbus.proofs.StepLaws.{follow, halt}
use Rattle.modbus.proofs.FindLaws.{find_fn, found_fn, found_fault}
use Rattle.client.specs.Asking.{bad_request, function_of, read_by, write_by, getting, setting}

-- a run went or stopped
pub by_step : {F A C : Type 0} (s : Step F A) → ((a : A) → s ≡ go a → C) → ((x : F) → s ≡ stop x → C) → C
by_step (go a) f g = f a refl
by_step (stop x) f g = g x refl

-- ---- which function it is

-- a number above 4 reads nothing
read_high : (reg count : ℕ) (fn : Fn) → 4 < code fn → read_by reg count fn ≡ stop bad_request
read_high reg count (reads coils) h = absurd (omega arith)
read_high reg count (reads discretes) h = absurd (omega arith)
read_high reg count (reads holdings) h = absurd (omega arith)
read_high reg count (reads inputs) h = absurd (omega arith)
read_high reg count (one k) h = refl
read_high reg count (many k) h = refl
read_high reg count mask h = refl
read_high reg count both h = refl

module _ (n func reg count : ℕ) where
  pub getting_high : 4 < func → getting n func reg count ≡ stop bad_request
  unfolding getting
  getting_high h =
      by_step (function_of n func)
      (λ fn e. follow _ _ e ∙ read_high reg count fn (rw (found_fn code _ _ _ fn e) at h))
      (λ x e. halt _ _ (e ∙ ap stop (sym (found_fault code _ _ _ e))))

-- what is asked of a number is asked of its function
pub setting_by : (n func reg : ℕ) (vs : List ℕ) (fn : Fn) → func ≡ code fn → setting n func reg vs ≡ write_by reg vs fn
unfolding setting
setting_by n func reg vs fn e = follow _ _ (find_fn bad_request func (proto_of n) fn e)

write_none : (reg : ℕ) (vs : List ℕ) (fn : Fn) → ¬ (code fn ≡ 5) → ¬ (code fn ≡ 6) → ¬ (code fn ≡ 15) → ¬ (code fn ≡ 16)
    → write_by reg vs fn ≡ stop bad_request
write_none reg [] (reads t) a b c d = refl
write_none reg (v ∷ []) (reads t) a b c d = refl
write_none reg (v ∷ w ∷ vs) (reads t) a b c d = refl
write_none reg vs (one bit) a b c d = absurd (a refl)
write_none reg vs (one word) a b c d = absurd (b refl)
write_none reg vs (many bit) a b c d = absurd (c refl)
write_none reg vs (many word) a b c d = absurd (d refl)
write_none reg [] mask a b c d = refl
write_none reg (v ∷ []) mask a b c d = refl
write_none reg (v ∷ w ∷ vs) mask a b c d = refl
write_none reg [] both a b c d = refl
write_none reg (v ∷ []) both a b c d = refl
write_none reg (v ∷ w ∷ vs) both a b c d = refl

pub setting_none : (n func reg : ℕ) (vs : List ℕ) → ¬ (func ≡ 5) → ¬ (func ≡ 6) → ¬ (func ≡ 15) → ¬ (func ≡ 16)
    → setting n func reg vs ≡ stop bad_request
unfolding setting
setting_none n func reg vs a b c d =
    by_step (function_of n func)
    (λ fn e.
    let q = found_fn code _ _ _ fn e in
    follow _ _ e ∙ write_none reg vs fn (λ z. a (q ∙ z)) (λ z. b (q ∙ z)) (λ z. c (q ∙ z)) (λ z. d (q ∙ z)))
    (λ x e. halt _ _ (e ∙ ap stop (sym (found_fault code _ _ _ e))))

-- exactly one value
pub one_value : (k : Kind) (reg : ℕ) (vs : List ℕ) → length vs ≡ 1 → write_by reg vs (one k) ≡ go (write k reg (get_or vs 0 0))
one_value k reg [] e = absurd (omega arith)
one_value k reg (v ∷ []) e = refl
one_value k reg (v ∷ w ∷ vs) e = absurd (omega arith)

pub other_values : (k : Kind) (reg : ℕ) (vs : List ℕ) → ¬ (length vs ≡ 1) → write_by reg vs (one k) ≡ stop bad_request
other_values k reg [] n = refl
other_values k reg (v ∷ []) n = absurd (n refl)
other_values k reg (v ∷ w ∷ vs) n = refl

pub many_values : (k : Kind) (reg : ℕ) (vs : List ℕ) → write_by reg vs (many k) ≡ go (writes k reg vs)
many_values k reg [] = refl
many_values k reg (v ∷ []) = refl
many_values k reg (v ∷ w ∷ vs) = refl
