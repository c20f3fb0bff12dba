-- Laws of the two checks: one turn of each loop that computes them, that a CRC keeps to 16 bits, that the LRC is the one byte that
-- brings the sum to zero, and that a byte from which all are taken off, wrapping at 256, comes to it.
-- Assumes nothing.
use mathlib.Core.Path.{◌≡◌, sym, ◌∙◌}
use mathlib.Core.List.{List, [], ◌∷◌, ◌++◌}
use Prim.Native.Nat.{ℕ, zero, suc, ◌+◌, ◌-◌, ◌/◌, ◌%◌, ◌^◌, ◌<◌, ◌≤◌, min}
use native.Mathlib.Omega.{arith}
use native.Mathlib.Numerals.{add-one}
use lib.Bits.{bit_and, bit_xor, and_mask, xor_lt}
use lib.Dec.{lit<}
use lib.ListN.{length, get_or, take, drop, length-take, drop_of_length-le}
use lib.Seq.{drop-cons, get_or-take, take-suc}
use Rattle.modbus.specs.Step.{choose, ◌≟◌}
use Rattle.modbus.specs.Bytes.{Bytes}
use Rattle.modbus.specs.Check.{shift, shifts, crc_byte, crc_from, crc, sum, lrc}
use Rattle.modbus.proofs.StepLaws.{pick_yes, pick_no}

-- ---- CRC

-- the low bit as code tests it
pub shift_none : (c : ℕ) → bit_and c 1 ≡ 0 → c / 2 ≡ shift c
unfolding shift
shift_none c e = sym (pick_no _ _ _ (λ (h : c % 2 ≡ 1). omega (arith, and_mask c 1)))

pub shift_one : (c : ℕ) → (bit_and c 1 ≡ 0 → ⊥) → bit_xor (c / 2) 0xA001 ≡ shift c
unfolding shift
shift_one c ne = sym (pick_yes _ _ _ (omega (arith, and_mask c 1, ne)))

-- one of the n shifts, of which i are done
pub shifts_step : (n i c d z : ℕ) → shifts (n - i) c ≡ z → d ≡ shift c → i < n → shifts (n - (i + 1)) d ≡ z
unfolding shifts
shifts_step n i c d z inv e h = let k : n - i ≡ suc (n - (i + 1)) = omega arith in rw e (rw k at inv)

pub shifts_done : (n i c z : ℕ) → shifts (n - i) c ≡ z → n ≤ i → c ≡ z
unfolding shifts
shifts_done n i c z inv h = let k : n - i ≡ 0 = omega arith in rw k at inv

-- one byte of the first n: those from i on are the byte at i and those from i + 1 on
pub crc_step : (s : List ℕ) (n i c d z : ℕ) → crc_from c (drop i (take n s)) ≡ z → d ≡ crc_byte c (get_or s i 0)
    → i < n → i < length s → crc_from d (drop (i + 1) (take n s)) ≡ z
unfolding crc_from
crc_step s n i c d z inv e hn hs =
    let h : i < length (take n s) = simp length-take (omega arith) in
    rw (e, add-one) (rw (drop-cons (take n s) i 0, get_or-take) at inv)

pub crc_done : (s : List ℕ) (n i c z : ℕ) → crc_from c (drop i (take n s)) ≡ z → min n (length s) ≤ i → c ≡ z
unfolding crc_from
crc_done s n i c z inv h =
    let k : length (take n s) ≤ i = simp length-take h in
    rw drop_of_length-le at inv

pub shift_lt : (c : ℕ) → c < 2 ^ 16 → shift c < 2 ^ 16
unfolding shift choose
shift_lt c h =
    elim (c % 2 ≟ 1) as (λ d. choose d (bit_xor (c / 2) 0xA001) (c / 2) < 2 ^ 16)
    [ yes p ↦ xor_lt 16 (c / 2) 0xA001 (omega arith) (lit< tt) | no p ↦ omega arith ]

pub shifts_lt : (n c : ℕ) → c < 2 ^ 16 → shifts n c < 2 ^ 16
unfolding shifts
shifts_lt zero c h = h
shifts_lt (suc n) c h = shifts_lt n (shift c) (shift_lt c h)

pub crc_from_lt : (l : List ℕ) (c : ℕ) → c < 2 ^ 16 → Bytes l → crc_from c l < 2 ^ 16
unfolding crc_from crc_byte
crc_from_lt [] c h y = h
crc_from_lt (b ∷ l) c h y = crc_from_lt l _ (shifts_lt 8 _ (xor_lt 16 c b h (omega (arith, y.0)))) y.1

pub crc_lt : (l : List ℕ) → Bytes l → crc l < 2 ^ 16
unfolding crc
crc_lt l y = crc_from_lt l 0xFFFF (lit< tt) y

-- ---- LRC

pub sum_append : (l m : List ℕ) → sum (l ++ m) ≡ sum l + sum m
unfolding sum
sum_append [] m = omega arith
sum_append (x ∷ l) m = omega (arith, sum_append l m)

-- one byte more
pub sum_step : (s : List ℕ) (i : ℕ) → i < length s → sum (take (i + 1) s) ≡ sum (take i s) + get_or s i 0
unfolding sum
sum_step s i h =
    rw (add-one, take-suc s i 0) (sum_append (take i s) (get_or s i 0 ∷ []) ∙ omega arith)

pub lrc_lt : (l : List ℕ) → lrc l < 256
unfolding lrc
lrc_lt l = omega arith

-- the LRC brings the sum to zero, and no other byte does
pub lrc_zero : (l : List ℕ) → sum (l ++ (lrc l ∷ [])) % 256 ≡ 0
unfolding lrc sum
lrc_zero l = omega (arith, sum_append l (lrc l ∷ []))

pub lrc_only : (l : List ℕ) (b : ℕ) → b < 256 → sum (l ++ (b ∷ [])) % 256 ≡ 0 → b ≡ lrc l
unfolding lrc sum
lrc_only l b h e = omega (arith, sum_append l (b ∷ []))

-- one byte more is taken off the running byte, whose wrapping difference is r
carried : (s b r l : ℕ) → (r + b) % 256 ≡ l → (s + (l + 0)) % 256 ≡ 0 → (s + b + (r + 0)) % 256 ≡ 0
carried s b r l e z = omega arith

pub lrc_step : (s : List ℕ) (i r : ℕ) → i < length s → r < 256 → (r + get_or s i 0) % 256 ≡ lrc (take i s) → r ≡ lrc (take (i + 1) s)
unfolding sum
lrc_step s i r h k e =
    let l = lrc (take i s) in
    let z = rw (sum_append (take i s) (l ∷ [])) at (lrc_zero (take i s)) in
    lrc_only (take (i + 1) s) r k
    (rw (sum_append (take (i + 1) s) (r ∷ []), sum_step s i h) (carried (sum (take i s)) (get_or s i 0) r l e z))

-- ... and all of them, one after the other: a running byte that begins at 0 ends as the LRC
unfoldable pub running : ℕ → List ℕ → ℕ
running r [] = r
running r (b ∷ l) = running ((r + (256 - b)) % 256) l

less : (r b : ℕ) → r < 256 → b < 256 → ((r + (256 - b)) % 256 + b) % 256 ≡ r
less r b h k = omega arith

more : (x b s q r : ℕ) → (x + s) % 256 ≡ q → (q + b) % 256 ≡ r → (x + (b + s)) % 256 ≡ r
more x b s q r e d = omega arith

runs : (l : List ℕ) (r : ℕ) → Bytes l → r < 256 → (running r l < 256) × ((running r l + sum l) % 256 ≡ r)
unfolding running sum
runs [] r y h = (h, omega arith)
runs (b ∷ l) r y h =
    let (k, e) = runs l ((r + (256 - b)) % 256) y.1 (omega arith) in
    (k, more _ b (sum l) _ r e (less r b h y.0))

pub lrc_running : (l : List ℕ) → Bytes l → running 0 l ≡ lrc l
unfolding sum
lrc_running l y =
    let (k, e) = runs l 0 y (omega arith) in
    lrc_only l _ k (rw (sum_append l (running 0 l ∷ [])) (omega arith))
