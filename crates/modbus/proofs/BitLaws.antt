-- The bits of a number: of blocks side by side, of shifts and masks, of a byte with one bit or a run of bits changed; and that its bits
-- determine a number.
-- Assumes nothing.
use mathlib.Core.Path.{◌≡◌, sym, ap, ap₂, ◌∙◌}
use mathlib.Core.Logic.{◌≢◌}
use Prim.Native.Nat.{ℕ, zero, suc, ◌+◌, ◌-◌, ◌*◌, ◌/◌, ◌%◌, ◌^◌, ◌≤◌, ◌<◌, min, max, suc-le-suc}
use native.Mathlib.Nat.{add-zero, mod-lt, one-mul, mod-mod, not-suc-le-zero, zero-add, zero-div, pow-suc}
use native.Mathlib.Numerals.{one-add, add-one}
use native.Mathlib.Omega.{arith, ne_cases}
use native.Mathlib.Decide.{ℕ_discrete, dec_lt}
use lib.Bits.{bit_and, bit_or, and_step, or_step, or_block, or_zero_l, or_zero_r, or_lt, and_le_l, and_mask, and_shr, or_shr}
use lib.Pow.{pow_pos, pow_mono, split, high, low, field, mod-mod-pow, shr-shr, shr_lt, shl_lt, shl_exact, ones_lt, ones_split}
use Rattle.modbus.specs.Storage.{with_bit}

-- bit k of a number, the lowest being 0
abbrev pub bit_at : ℕ → ℕ → ℕ
bit_at b k = b / 2 ^ k % 2

-- what holds at 0 to 7 holds below 8
eight : (P : ℕ → Type 0) → P 0 → P 1 → P 2 → P 3 → P 4 → P 5 → P 6 → P 7 → (n : ℕ) → n < 8 → P n
eight P a b c d e f g h zero l = a
eight P a b c d e f g h (suc zero) l = b
eight P a b c d e f g h (suc (suc zero)) l = c
eight P a b c d e f g h (suc (suc (suc zero))) l = d
eight P a b c d e f g h (suc (suc (suc (suc zero)))) l = e
eight P a b c d e f g h (suc (suc (suc (suc (suc zero))))) l = f
eight P a b c d e f g h (suc (suc (suc (suc (suc (suc zero)))))) l = g
eight P a b c d e f g h (suc (suc (suc (suc (suc (suc (suc zero))))))) l = h
eight P a b c d e f g h (suc (suc (suc (suc (suc (suc (suc (suc n)))))))) l =
    let z : n < 0 = omega arith in absurd (not-suc-le-zero z)

-- ---- the bits of a block over another

-- a bit below n is a bit of the n lowest
bit_low : (x y n k : ℕ) → k < n → x % 2 ^ n ≡ y % 2 ^ n → bit_at x k ≡ bit_at y k
bit_low x y n k l e =
    let j = n - (1 + k) in
    let s : j + (1 + k) ≡ n = omega arith in
    let e' : x % 2 ^ (j + (1 + k)) ≡ y % 2 ^ (j + (1 + k)) = rw s e in
    sym (field x 1 k)
    ∙ ap (λ (m : ℕ). m / 2 ^ k) (sym (mod-mod-pow x j (1 + k)) ∙ ap (λ (m : ℕ). m % 2 ^ (1 + k)) e' ∙ mod-mod-pow y j (1 + k))
    ∙ field y 1 k

-- a bit from n on is one of what stands above the n lowest
pub bit_shr : (x n k : ℕ) → bit_at (x / 2 ^ n) k ≡ bit_at x (n + k)
bit_shr x n k = ap (λ (m : ℕ). m % 2) (shr-shr x n k)

pub bit_mod : (x n k : ℕ) → k < n → bit_at (x % 2 ^ n) k ≡ bit_at x k
bit_mod x n k l = bit_low (x % 2 ^ n) x n k l (mod-mod x (2 ^ n))

pub bit_below : (h n r k : ℕ) → r < 2 ^ n → k < n → bit_at (h * 2 ^ n + r) k ≡ bit_at r k
bit_below h n r k f l = sym (bit_mod (h * 2 ^ n + r) n k l) ∙ ap (λ (m : ℕ). bit_at m k) (low h n f)

pub bit_above : (h n r k : ℕ) → r < 2 ^ n → bit_at (h * 2 ^ n + r) (n + k) ≡ bit_at h k
bit_above h n r k f = sym (bit_shr (h * 2 ^ n + r) n k) ∙ ap (λ (m : ℕ). bit_at m k) (high h n f)

-- the bit after, of the half
pub bit_half : (x k : ℕ) → bit_at (x / 2) k ≡ bit_at x (suc k)
bit_half x k = bit_shr x 1 k ∙ ap (bit_at x) (one-add k)

-- its bits determine a number
pub bits_determine : (w a b : ℕ) → a < 2 ^ w → b < 2 ^ w → ((k : ℕ) → k < w → bit_at a k ≡ bit_at b k) → a ≡ b
bits_determine zero a b ha hb e = omega arith
bits_determine (suc w) a b ha hb e =
    let q : a / 2 ≡ b / 2 =
    bits_determine w (a / 2) (b / 2) (shr_lt w 1 (rw add-one ha)) (shr_lt w 1 (rw add-one hb))
    (λ k l. bit_half a k ∙ e (suc k) (suc-le-suc l) ∙ sym (bit_half b k)) in
    let r : a / 1 % 2 ≡ b / 1 % 2 = e 0 (omega arith) in
    omega arith

-- ---- the bits of shifts and masks

pub bit_shl_low : (x n k : ℕ) → k < n → bit_at (x * 2 ^ n) k ≡ 0
bit_shl_low x n k l =
    ap (λ (m : ℕ). bit_at m k) (sym (add-zero (x * 2 ^ n))) ∙ bit_below x n 0 k (pow_pos n) l ∙ ap (λ (m : ℕ). m % 2) (zero-div (2 ^ k))

pub bit_shl : (x n k : ℕ) → bit_at (x * 2 ^ n) (n + k) ≡ bit_at x k
bit_shl x n k = ap (λ (m : ℕ). bit_at m (n + k)) (sym (add-zero (x * 2 ^ n))) ∙ bit_above x n 0 k (pow_pos n)

pub bit_ones : (n k : ℕ) → k < n → bit_at (2 ^ n - 1) k ≡ 1
bit_ones zero k l = absurd (not-suc-le-zero l)
bit_ones (suc n) zero l = omega (arith, pow-suc 2 n, pow_pos n)
bit_ones (suc n) (suc k) l =
    let e : (2 ^ suc n - 1) / 2 ≡ 2 ^ n - 1 = omega (arith, pow-suc 2 n, pow_pos n) in
    sym (bit_half (2 ^ suc n - 1) k) ∙ ap (λ (m : ℕ). bit_at m k) e ∙ bit_ones n k (omega arith)

pub bit_over : (x n k : ℕ) → x < 2 ^ n → n ≤ k → bit_at x k ≡ 0
bit_over x n k f l =
    let h : x / 2 ^ k < 1 = shr_lt 0 k (rw zero-add (omega (arith, pow_mono l))) in
    omega arith

-- all bits turned over
pub bit_not : (w x : ℕ) → x < 2 ^ w → (k : ℕ) → k < w → bit_at (2 ^ w - 1 - x) k ≡ 1 - bit_at x k
bit_not zero x h k l = absurd (not-suc-le-zero l)
bit_not (suc w) x h zero l = omega (arith, pow-suc 2 w, pow_pos w)
bit_not (suc w) x h (suc k) l =
    let e : (2 ^ suc w - 1 - x) / 2 ≡ 2 ^ w - 1 - x / 2 = omega (arith, pow-suc 2 w, pow_pos w) in
    sym (bit_half (2 ^ suc w - 1 - x) k)
    ∙ ap (λ (m : ℕ). bit_at m k) e
    ∙ bit_not w (x / 2) (omega (arith, pow-suc 2 w)) k (omega arith)
    ∙ ap (λ (m : ℕ). 1 - m) (bit_half x k)

pub bit_or_law : (a b k : ℕ) → bit_at (bit_or a b) k ≡ max (bit_at a k) (bit_at b k)
bit_or_law a b k = rw (or_shr, or_step) (omega arith)

pub bit_and_law : (a b k : ℕ) → bit_at (bit_and a b) k ≡ min (bit_at a k) (bit_at b k)
bit_and_law a b k = rw (and_shr, and_step) (omega arith)

-- ---- a byte with one bit changed

module _ (b n v : ℕ) (fits : v ≤ 1) where
  pub bit_same : bit_at (with_bit b n v) n ≡ v
  unfolding with_bit
  bit_same =
      let e = high (b / 2 ^ n / 2 * 2 + v) n (mod-lt b (pow_pos n)) in
      omega arith

  pub bit_other : (k : ℕ) → k ≢ n → bit_at (with_bit b n v) k ≡ bit_at b k
  unfolding with_bit
  bit_other k ne = ne_cases k n (bit_at (with_bit b n v) k ≡ bit_at b k) ne below above
    where
      below : k < n → bit_at ((b / 2 ^ n / 2 * 2 + v) * 2 ^ n + b % 2 ^ n) k ≡ bit_at b k
      below l = bit_below (b / 2 ^ n / 2 * 2 + v) n (b % 2 ^ n) k (mod-lt b (pow_pos n)) l ∙ bit_mod b n k l

      above : n < k → bit_at ((b / 2 ^ n / 2 * 2 + v) * 2 ^ n + b % 2 ^ n) k ≡ bit_at b k
      above l =
          let j = k - suc n in
          let s : n + suc j ≡ k = omega arith in
          let d : (b / 2 ^ n / 2 * 2 + v) / 2 ≡ b / 2 ^ n / 2 = omega arith in
          rw s at (bit_above (b / 2 ^ n / 2 * 2 + v) n (b % 2 ^ n) (suc j) (mod-lt b (pow_pos n))
          ∙ sym (bit_half (b / 2 ^ n / 2 * 2 + v) j) ∙ ap (λ (m : ℕ). bit_at m j) d ∙ bit_half (b / 2 ^ n) j ∙ bit_shr b n (suc j))

  pub bit_byte : b < 256 → n < 8 → with_bit b n v < 256
  unfolding with_bit
  bit_byte h l =
      eight (λ (k : ℕ). (b / 2 ^ k / 2 * 2 + v) * 2 ^ k + b % 2 ^ k < 256) (omega arith) (omega arith) (omega arith) (omega arith)
      (omega arith) (omega arith) (omega arith) (omega arith) n l

-- ---- the same by masks

pub one_shl : (n : ℕ) → n < 8 → (1 * 2 ^ n) % 256 ≡ 2 ^ n
one_shl n l = shl_exact {a = 1} 1 n 8 (omega arith) (omega arith) ∙ one-mul (2 ^ n)

or_one : (a : ℕ) → bit_or a 1 ≡ a / 2 * 2 + 1
or_one a = or_step a 1 ∙ ap₂ (λ (x y : ℕ). x * 2 + y) (or_zero_r (a / 2)) (omega arith)

pub or_bit : (b n : ℕ) → bit_or b (2 ^ n) ≡ with_bit b n 1
unfolding with_bit
or_bit b n =
    ap₂ bit_or (sym (split b n)) (sym (add-zero (1 * 2 ^ n) ∙ one-mul (2 ^ n)))
    ∙ or_block n (b / 2 ^ n) 1 (b % 2 ^ n) 0 (mod-lt b (pow_pos n)) (pow_pos n)
    ∙ ap₂ (λ (x y : ℕ). x * 2 ^ n + y) (or_one (b / 2 ^ n)) (or_zero_r (b % 2 ^ n))

power_is : (n : ℕ) → with_bit 0 n 1 ≡ 2 ^ n
power_is n = sym (or_bit 0 n) ∙ or_zero_l (2 ^ n)

pub and_bit : (b n : ℕ) → b < 256 → n < 8 → bit_and b (255 - 2 ^ n) ≡ with_bit b n 0
and_bit b n h l =
    bits_determine 8 (bit_and b (255 - 2 ^ n)) (with_bit b n 0) (omega (arith, and_le_l b (255 - 2 ^ n)))
    (bit_byte b n 0 (omega arith) h l) (λ k f. at k f (ℕ_discrete k n))
  where
    small : 2 ^ n < 256
    small = rw power_is at (bit_byte 0 n 1 (omega arith) (omega arith) l)

    at : (k : ℕ) → k < 8 → Dec (k ≡ n) → bit_at (bit_and b (255 - 2 ^ n)) k ≡ bit_at (with_bit b n 0) k
    at k f (yes e) =
        let one : bit_at (2 ^ n) n ≡ 1 = rw power_is at (bit_same 0 n 1 (omega arith)) in
        rw (bit_and_law b (255 - 2 ^ n) k, bit_not 8 (2 ^ n) small k f, e, one, bit_same b n 0 (omega arith)) (omega arith)
    at k f (no e) =
        let none : bit_at (2 ^ n) k ≡ 0 = rw power_is at (bit_other 0 n 1 (omega arith) k e) ∙ ap (λ (m : ℕ). m % 2) (zero-div (2 ^ k)) in
        rw (bit_and_law b (255 - 2 ^ n) k, bit_not 8 (2 ^ n) small k f, none, bit_other b n 0 (omega arith) k e) (omega arith)

-- ---- a byte with a run of bits changed

-- bits s to s + n of the byte are those of w, by masks
abbrev pub merged : ℕ → ℕ → ℕ → ℕ → ℕ
merged b s n w = bit_or (bit_and b (255 - (2 ^ n - 1) * 2 ^ s)) (w * 2 ^ s)

shl_byte : (x s n : ℕ) → x < 2 ^ n → s + n ≤ 8 → x * 2 ^ s < 256
shl_byte x s n f h = omega (arith, shl_lt n s f, pow_mono {i = n + s} {j = 8} (omega arith))

-- outside the run a shifted number has no bits
shl_out : (x s n k : ℕ) → x < 2 ^ n → ¬ ((s ≤ k) × (k < s + n)) → bit_at (x * 2 ^ s) k ≡ 0
shl_out x s n k f o = by (dec_lt k s) (dec_lt k (s + n))
  where
    by : Dec (k < s) → Dec (k < s + n) → bit_at (x * 2 ^ s) k ≡ 0
    by (yes l) d = bit_shl_low x s k l
    by (no l) (yes m) = absurd (o (omega (arith, l), m))
    by (no l) (no m) =
        let e : s + (k - s) ≡ k = omega (arith, l) in
        rw e at (bit_shl x s (k - s) ∙ bit_over x n (k - s) f (omega (arith, m)))

-- the n lowest ones of a byte, as a shift makes them
ones_shr : (n : ℕ) → n ≤ 8 → 255 / 2 ^ (8 - n) ≡ 2 ^ n - 1
ones_shr n h =
    let e : n + (8 - n) ≡ 8 = omega arith in
    ap (λ (x : ℕ). x / 2 ^ (8 - n)) (rw e at (ones_split n (8 - n))) ∙ high (2 ^ n - 1) (8 - n) (ones_lt (8 - n))

pub low_masked : (x n : ℕ) → n ≤ 8 → bit_and (x % 256) (255 / 2 ^ (8 - n)) ≡ x % 2 ^ n
low_masked x n h =
    let e : 8 - n + n ≡ 8 = omega arith in
    rw (ones_shr n h, and_mask) (rw e at (mod-mod-pow x (8 - n) n))

-- in a byte the shifts lose nothing
pub merged_shl : (b s n w : ℕ) → s + n ≤ 8 → w < 2 ^ n
    → bit_or (bit_and b (255 - 255 / 2 ^ (8 - n) * 2 ^ s % 256)) (w * 2 ^ s % 256) ≡ merged b s n w
merged_shl b s n w h f = rw (ones_shr n (omega arith), shl_exact n s 8 (ones_lt n) (omega arith), shl_exact n s 8 f (omega arith))

module _ (b s n w : ℕ) (byte : b < 256) (room : s + n ≤ 8) (fits : w < 2 ^ n) where
  mask_byte : (2 ^ n - 1) * 2 ^ s < 256
  mask_byte = shl_byte (2 ^ n - 1) s n (ones_lt n) room

  pub merged_byte : merged b s n w < 256
  merged_byte =
      let kept = and_le_l b (255 - (2 ^ n - 1) * 2 ^ s) in
      or_lt 8 (bit_and b (255 - (2 ^ n - 1) * 2 ^ s)) (w * 2 ^ s) (omega arith) (shl_byte w s n fits room)

  pub merged_in : (k : ℕ) → k < n → bit_at (merged b s n w) (s + k) ≡ bit_at w k
  merged_in k l =
      let one : bit_at ((2 ^ n - 1) * 2 ^ s) (s + k) ≡ 1 = bit_shl (2 ^ n - 1) s k ∙ bit_ones n k l in
      rw (
        bit_or_law (bit_and b (255 - (2 ^ n - 1) * 2 ^ s)) (w * 2 ^ s) (s + k),
        bit_and_law b (255 - (2 ^ n - 1) * 2 ^ s) (s + k),
        bit_not 8 ((2 ^ n - 1) * 2 ^ s) mask_byte (s + k) (omega arith),
        one,
        bit_shl w s k,
      ) (omega arith)

  pub merged_out : (k : ℕ) → k < 8 → ¬ ((s ≤ k) × (k < s + n)) → bit_at (merged b s n w) k ≡ bit_at b k
  merged_out k l o =
      rw (
        bit_or_law (bit_and b (255 - (2 ^ n - 1) * 2 ^ s)) (w * 2 ^ s) k,
        bit_and_law b (255 - (2 ^ n - 1) * 2 ^ s) k,
        bit_not 8 ((2 ^ n - 1) * 2 ^ s) mask_byte k l,
        shl_out (2 ^ n - 1) s n k (ones_lt n) o,
        shl_out w s n k fits o,
      ) (omega arith)
