-- A run of at most eight packed cells, moved as a number: put into one byte, and read from two.
-- Assumes nothing.
use mathlib.Core.Path.{◌≡◌, sym, ap, ◌∙◌}
use mathlib.Core.List.{List, [], ◌∷◌}
use Prim.Native.Nat.{ℕ, zero, suc, ◌+◌, ◌-◌, ◌*◌, ◌/◌, ◌%◌, ◌^◌, ◌≤◌, ◌<◌}
use native.Mathlib.Omega.{arith}
use native.Mathlib.Decide.{ℕ_discrete, dec_lt, dec_le}
use native.Mathlib.Nat.{mod-lt, not-suc-le-zero, pow-suc}
use lib.ListN.{length, get_or, set, length-set}
use lib.Seq.{get_or-set_same, get_or-set_other}
use lib.Bits.{bit_and, bit_or}
use lib.Pow.{pow_pos}
use Rattle.modbus.specs.Bytes.{All, Bytes}
use Rattle.modbus.specs.Table.{part}
use Rattle.modbus.specs.Storage.{coil_at, packed, store}
use Rattle.modbus.proofs.BytesLaws.{byte_at, bytes_set}
use Rattle.modbus.proofs.BitLaws.{bit_at, bits_determine, bit_half, bit_shr, bit_mod, bit_below, bit_above, low_masked, merged, merged_shl, merged_byte, merged_in, merged_out}
use Rattle.modbus.proofs.StorageLaws.{length_part, get_d_part, part_all, coil_bit, packed_law, store_length, store_in, store_out, store_bytes, coils_determine}
use Rattle.tables.specs.Runs.{binary}

-- ---- bits as a number

abbrev pub Bits : List ℕ → Type 0
Bits vs = All (λ v. v ≤ 1) vs

pub binary_lt : (vs : List ℕ) → Bits vs → binary vs < 2 ^ length vs
unfolding binary
binary_lt [] a = omega arith
binary_lt (v ∷ vs) a = omega (arith, binary_lt vs a.1, pow-suc 2 (length vs), a.0)

pub binary_bit : (vs : List ℕ) → Bits vs → (i : ℕ) → i < length vs → bit_at (binary vs) i ≡ get_or vs i 0
unfolding binary
binary_bit [] a i h = absurd (not-suc-le-zero h)
binary_bit (v ∷ vs) a zero h = omega (arith, a.0)
binary_bit (v ∷ vs) a (suc i) h =
    let e : (v + 2 * binary vs) / 2 ≡ binary vs = omega (arith, a.0) in
    sym (bit_half (v + 2 * binary vs) i) ∙ ap (λ (m : ℕ). bit_at m i) e ∙ binary_bit vs a.1 i (omega arith)

-- no other number has those bits and none above
binary_only : (vs : List ℕ) (x : ℕ) → Bits vs → x < 2 ^ length vs → ((i : ℕ) → i < length vs → bit_at x i ≡ get_or vs i 0)
    → x ≡ binary vs
binary_only vs x a h e =
    bits_determine (length vs) x (binary vs) h (binary_lt vs a) (λ i l. e i l ∙ sym (binary_bit vs a i l))

-- ---- a run within one byte

-- that byte changed, so that its bits in the run are the values and its others are as they were
pub store_byte : (l : List ℕ) (s : ℕ) (vs : List ℕ) (x : ℕ) → Bytes l → x < 256 → Bits vs → s / 8 < length l → s % 8 + length vs ≤ 8
    → ((i : ℕ) → i < length vs → bit_at x (s % 8 + i) ≡ get_or vs i 0)
    → ((k : ℕ) → k < 8 → ¬ ((s % 8 ≤ k) × (k < s % 8 + length vs)) → bit_at x k ≡ bit_at (get_or l (s / 8) 0) k)
    → set l (s / 8) x ≡ store packed l s vs
unfolding coil_at
store_byte l s vs x y f a h room inside outside =
    coils_determine (set l (s / 8) x) (store packed l s vs) (bytes_set l (s / 8) x y f) (store_bytes l s vs y a)
    (length-set l (s / 8) x ∙ sym (store_length packed_law l s vs))
    (λ k g. at k (ℕ_discrete (k / 8) (s / 8)) (dec_le s k) (dec_lt k (s + length vs)))
  where
    in_byte : (k : ℕ) → k / 8 ≡ s / 8 → coil_at (set l (s / 8) x) k ≡ bit_at x (k % 8)
    in_byte k e = rw e (ap (λ (b : ℕ). bit_at b (k % 8)) (get_or-set_same l (s / 8) x 0 h))

    old : (k : ℕ) → k / 8 ≡ s / 8 → ¬ ((s ≤ k) × (k < s + length vs)) → coil_at (set l (s / 8) x) k ≡ coil_at (store packed l s vs) k
    old k e o =
        in_byte k e ∙ outside (k % 8) (omega arith) (λ p. o (omega arith, omega arith))
        ∙ ap (λ (j : ℕ). bit_at (get_or l j 0) (k % 8)) (sym e) ∙ sym (store_out packed_law l s vs k a o)

    at : (k : ℕ) → Dec (k / 8 ≡ s / 8) → Dec (s ≤ k) → Dec (k < s + length vs)
        → coil_at (set l (s / 8) x) k ≡ coil_at (store packed l s vs) k
    at k (no e) d d' =
        ap (λ (b : ℕ). bit_at b (k % 8)) (get_or-set_other l (s / 8) (k / 8) x 0 e)
        ∙ sym (store_out packed_law l s vs k a (λ p. e (omega arith)))
    at k (yes e) (yes p) (yes q) =
        let i = k - s in
        let m : s + i ≡ k = omega arith in
        let r : s % 8 + i ≡ k % 8 = omega arith in
        in_byte k e ∙ rw r at (inside i (omega arith)) ∙ sym (rw m at (store_in packed_law l s vs i a (omega arith) (omega arith)))
    at k (yes e) (no p) d = old k e (λ h. p h.0)
    at k (yes e) (yes p) (no q) = old k e (λ h. q h.1)

-- the same by masks
pub store_masked : (l : List ℕ) (s n x : ℕ) (vs : List ℕ) → Bytes l → Bits vs → s / 8 < length l → s % 8 + n ≤ 8 → length vs ≡ n
    → x ≡ binary vs
    → set l (s / 8) (bit_or (bit_and (get_or l (s / 8) 0) (255 - 255 / 2 ^ (8 - n) * 2 ^ (s % 8) % 256)) (x * 2 ^ (s % 8) % 256))
    ≡ store packed l s vs
store_masked l s n x vs y a h room e f =
    let b = get_or l (s / 8) 0 in
    let byte = byte_at l (s / 8) y in
    let fits : x < 2 ^ n = rw (f, ← e) (binary_lt vs a) in
    let z = merged_byte b (s % 8) n x byte room fits in
    rw (merged_shl b (s % 8) n x room fits) (store_byte l s vs (merged b (s % 8) n x) y z a h (omega arith)
    (λ i g. merged_in b (s % 8) n x byte room fits i (omega arith) ∙ rw f (binary_bit vs a i g))
    (λ k g o. merged_out b (s % 8) n x byte room fits k g (rw e at o)))

-- ---- a run read from two bytes: that of its first cell, and the next, which need not be there where no cell of the run lies in it

coil_in : (l : List ℕ) (s last i : ℕ) → Bytes l → i < 8 → (s / 8 < (s + i) / 8 → (s + i) / 8 ≡ last)
    → bit_at (get_or l last 0 * 256 + get_or l (s / 8) 0) (s % 8 + i) ≡ coil_at l (s + i)
unfolding coil_at
coil_in l s last i y h next = by (dec_lt (s % 8 + i) 8)
  where
    low : ℕ
    low = get_or l (s / 8) 0

    byte : low < 256
    byte = byte_at l (s / 8) y

    by : Dec (s % 8 + i < 8) → bit_at (get_or l last 0 * 256 + low) (s % 8 + i) ≡ coil_at l (s + i)
    by (yes f) =
        let q : (s + i) / 8 ≡ s / 8 = omega arith in
        let r : (s + i) % 8 ≡ s % 8 + i = omega arith in
        rw (q, r) (bit_below (get_or l last 0) 8 low (s % 8 + i) byte f)
    by (no f) =
        let q : (s + i) / 8 ≡ last = next (omega (arith, f)) in
        let r : 8 + (s + i) % 8 ≡ s % 8 + i = omega (arith, f) in
        rw (q, ← r) (bit_above (get_or l last 0) 8 low ((s + i) % 8) byte)

run_read : (l : List ℕ) (s last n : ℕ) → Bytes l → n ≤ 8 → ((i : ℕ) → i < n → s / 8 < (s + i) / 8 → (s + i) / 8 ≡ last)
    → (get_or l last 0 * 256 + get_or l (s / 8) 0) / 2 ^ (s % 8) % 2 ^ n ≡ binary (part (coil_at l) s n)
run_read l s last n y h next =
    binary_only (part (coil_at l) s n) _ (part_all (coil_at l) (λ v. v ≤ 1) s n (coil_bit l)) (rw length_part (mod-lt _ (pow_pos n)))
    (λ i g. at i (rw length_part at g))
  where
    x : ℕ
    x = get_or l last 0 * 256 + get_or l (s / 8) 0

    at : (i : ℕ) → i < n → bit_at (x / 2 ^ (s % 8) % 2 ^ n) i ≡ get_or (part (coil_at l) s n) i 0
    at i g =
        bit_mod (x / 2 ^ (s % 8)) n i g ∙ bit_shr x (s % 8) i ∙ coil_in l s last i y (omega arith) (next i g)
        ∙ sym (get_d_part (coil_at l) s n i 0 g)

-- the i-th eight cells from s on: both bytes move on with i
pub eight_read : (l : List ℕ) (s i x : ℕ) → Bytes l
    → x ≡ (get_or l ((s + 7) / 8 + i) 0 * 256 + get_or l (s / 8 + i) 0) / 2 ^ (s % 8) % 256 → x ≡ binary (part (coil_at l) (s + 8 * i) 8)
eight_read l s i x y e =
    let q : s / 8 + i ≡ (s + 8 * i) / 8 = omega arith in
    let r : s % 8 ≡ (s + 8 * i) % 8 = omega arith in
    rw (q, r) at e ∙ run_read l (s + 8 * i) ((s + 7) / 8 + i) 8 y (omega arith) (λ k h j. omega arith)

-- n cells, the others masked away
pub run_masked : (l : List ℕ) (s last n x : ℕ) → Bytes l → n ≤ 8 → ((i : ℕ) → i < n → s / 8 < (s + i) / 8 → (s + i) / 8 ≡ last)
    → x ≡ (get_or l last 0 * 256 + get_or l (s / 8) 0) / 2 ^ (s % 8) % 256 → bit_and x (255 / 2 ^ (8 - n)) ≡ binary (part (coil_at l) s n)
run_masked l s last n x y h next e =
    let w = (get_or l last 0 * 256 + get_or l (s / 8) 0) / 2 ^ (s % 8) in
    rw e (low_masked w n h ∙ run_read l s last n y h next)
