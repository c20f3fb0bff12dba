-- The crate's eight functions among the driver's: each has one number in both, and by it the driver finds no other.
-- Assumes nothing.
use mathlib.Core.Logic.{◌⊎◌, inl, inr, ◌≢◌}
use mathlib.Core.Path.{◌≡◌, refl, sym, ◌∙◌, subst}
use Prim.Native.Nat.{ℕ, ◌≤◌}
use native.Mathlib.Omega.{arith}
use Rattle.modbus.specs.Table.{coils, discretes, holdings, inputs, bit, word}
use Rattle.modbus.specs.Ported.{Ported, reads, one, many, code_of}
use Rattle.modbus.specs.Request as driver
use Rattle.modbus.specs.Request.{Fn, code}
use Rattle.modbus.specs.declared.ModbusProto.TheVariants.{Rtu}
use Rattle.modbus.proofs.FindLaws.{code_low, find_fn}
use Rattle.chain.specs.Chain.{as_fn, Shared}

pub as_code : (p : Ported) → code (as_fn p) ≡ code_of p
as_code (reads coils) = refl
as_code (reads discretes) = refl
as_code (reads holdings) = refl
as_code (reads inputs) = refl
as_code (one bit) = refl
as_code (one word) = refl
as_code (many bit) = refl
as_code (many word) = refl

pub ported_low : (p : Ported) → code_of p ≤ 127
ported_low p = subst (λ (n : ℕ). n ≤ 127) (as_code p) (code_low (as_fn p))

-- a number is that of one function
same_fn : (n : ℕ) (f g : Fn) → n ≡ code f → n ≡ code g → f ≡ g
same_fn n f g p q =
    let a = find_fn {F = ℕ} 0 n Rtu f p in
    let b = find_fn {F = ℕ} 0 n Rtu g q in
    cc

pub ported_shared : (n : ℕ) (p : Ported) → n ≡ code_of p → Shared n
ported_shared n p e fn c = (p, same_fn n fn (as_fn p) c (e ∙ sym (as_code p)))

pub unknown_shared : (n : ℕ) → ((fn : Fn) → n ≢ code fn) → Shared n
unknown_shared n h fn c = absurd (h fn c)

-- beside the eight the driver has 22 and 23
pub all_but_two : (n : ℕ) → n ≢ 22 → n ≢ 23 → Shared n
all_but_two n h k (driver.reads t) c = (reads t, refl)
all_but_two n h k (driver.one j) c = (one j, refl)
all_but_two n h k (driver.many j) c = (many j, refl)
all_but_two n h k driver.mask c = absurd (h c)
all_but_two n h k driver.both c = absurd (k c)

-- which the crate does not know
pub two_unknown : (n : ℕ) → (n ≡ 22) ⊎ (n ≡ 23) → (fn : Ported) → n ≢ code_of fn
two_unknown n h fn e = by fn (elim h [ inl q ↦ omega arith | inr q ↦ omega arith ]) e
  where
    by : (fn : Ported) → 17 ≤ n → n ≢ code_of fn
    by (reads coils) l q = omega arith
    by (reads discretes) l q = omega arith
    by (reads holdings) l q = omega arith
    by (reads inputs) l q = omega arith
    by (one bit) l q = omega arith
    by (one word) l q = omega arith
    by (many bit) l q = omega arith
    by (many word) l q = omega arith
