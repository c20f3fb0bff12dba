-- Outcome, code and the cells written, in one number and taken out of it again.
-- Assumes nothing.
use mathlib.Core.Path.{◌≡◌, ap, ◌∙◌}
use Prim.Native.Nat.{ℕ, ◌+◌, ◌*◌, ◌/◌, ◌%◌, ◌<◌}
use native.Mathlib.Omega.{arith}
use native.Mathlib.Nat.{zero-add, add-mul-div_left, add-mul-mod_self_left, div-eq_of_lt, mod-eq_of_lt}
use Rattle.driver.specs.Driven.{making}
use Rattle.driver.specs.Serving.{unpacked}

-- a multiple of d, and what stands below it
above : (d y z w : ℕ) → 0 < d → y < d → w ≡ y + d * z → w / d ≡ z
above d y z w p h e =
    ap (λ (v : ℕ). v / d) e ∙ add-mul-div_left y z p ∙ ap (λ (q : ℕ). q + z) (div-eq_of_lt h) ∙ zero-add z

below : (d y z w : ℕ) → y < d → w ≡ y + d * z → w % d ≡ y
below d y z w h e = ap (λ (v : ℕ). v % d) e ∙ add-mul-mod_self_left y d z ∙ mod-eq_of_lt h

pub takes_apart : (o c t f k w : ℕ) → o < 256 → c < 256 → t < 256 → f < 65536
    → w ≡ o + 256 * c + 65536 * t + 4294967296 * f + 281474976710656 * k → (n : ℕ) → unpacked w n ≡ making n o c t f k
takes_apart o c t f k w ho hc ht hf e n =
    let second = above 256 o (c + 256 * t + 16777216 * f + 1099511627776 * k) w (omega arith) ho (omega arith) in
    let third = above 65536 (o + 256 * c) (t + 65536 * f + 4294967296 * k) w (omega arith) (omega arith) (omega arith) in
    let fifth = above 4294967296 (o + 256 * c + 65536 * t) (f + 65536 * k) w (omega arith) (omega arith) (omega arith) in
    let last = above 281474976710656 (o + 256 * c + 65536 * t + 4294967296 * f) k w (omega arith) (omega arith) e in
    let eo = below 256 o (c + 256 * t + 16777216 * f + 1099511627776 * k) w ho (omega arith) in
    let ec = below 256 c (t + 65536 * f + 4294967296 * k) (w / 256) hc (second ∙ omega arith) in
    let et = below 256 t (256 * f + 16777216 * k) (w / 65536) ht (third ∙ omega arith) in
    let ef = below 65536 f k (w / 4294967296) hf fifth in
    λ i. making n (eo i) (ec i) (et i) (ef i) (last i)
