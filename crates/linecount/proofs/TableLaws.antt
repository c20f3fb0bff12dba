-- The entries of the tables, one after the other.
-- Assumes nothing.
use mathlib.Core.Logic.{by_cases}
use Rattle.std.proofs.Common.{◌≡◌, ℕ, ◌+◌, ◌-◌, ◌*◌, ◌/◌, ◌%◌, ◌<◌, ◌≤◌, List, length, get_or, set, sym, refl, ap, ◌∙◌, ap₂, arith, get_or-set_other, get_or-set_same}
use native.Mathlib.Decide.{ℕ_discrete}
use Rattle.modbus.specs.Check.{shift, shifts}
use Rattle.checks.proofs.FourLaws.{shifts_add}
use Rattle.linecount.specs.Sums.{power, Filled}

-- one entry more
pub entry_put : (f : ℕ → ℕ) (l : List ℕ) (j x : ℕ) → Filled f l j → j < length l → x ≡ f j → Filled f (set l j x) (j + 1)
entry_put f l j x h k e i q =
    by_cases (ℕ_discrete i j)
    (λ s. ap (λ y. get_or (set l j x) y 0) s ∙ get_or-set_same l j x 0 k ∙ e ∙ ap f (sym s))
    (λ n. get_or-set_other l j i x 0 n ∙ h i (omega (arith, q, n)))

pub power_first : (j : ℕ) → j < 16 → 16 * j ≡ power (j / 16) (j % 16)
unfolding shifts
power_first j h =
    let a : 4 * (j / 16) ≡ 0 = omega arith in
    let b : 16 * j ≡ j % 16 * 16 = omega arith in
    b ∙ sym (ap (λ n. shifts n (j % 16 * 16)) a)

pub power_next : (j x : ℕ) → 16 ≤ j → x ≡ power ((j - 16) / 16) ((j - 16) % 16) → shifts 4 x ≡ power (j / 16) (j % 16)
power_next j x h e =
    let a : 4 * ((j - 16) / 16) + 4 ≡ 4 * (j / 16) = omega arith in
    let b : (j - 16) % 16 ≡ j % 16 = omega arith in
    ap (shifts 4) e ∙ sym (shifts_add (4 * ((j - 16) / 16)) 4 _) ∙ ap₂ (λ n m. shifts n (m * 16)) a b

pub opening_first : (k : ℕ) → k ≡ 0 → 0xFFFF ≡ shifts (8 * k) 0xFFFF
unfolding shifts
opening_first k e = sym (ap (λ n. shifts (8 * n) 0xFFFF) e)

pub opening_next : (k x : ℕ) → 1 ≤ k → x ≡ shifts (8 * (k - 1)) 0xFFFF → shifts 4 (shifts 4 x) ≡ shifts (8 * k) 0xFFFF
opening_next k x h e =
    let a : 8 * (k - 1) + (4 + 4) ≡ 8 * k = omega arith in
    sym (shifts_add 4 4 x) ∙ ap (shifts (4 + 4)) e ∙ sym (shifts_add (8 * (k - 1)) (4 + 4) 0xFFFF) ∙ ap (λ n. shifts n 0xFFFF) a

pub shifts_four : (c : ℕ) → shift (shift (shift (shift c))) ≡ shifts 4 c
unfolding shifts
shifts_four c = refl
