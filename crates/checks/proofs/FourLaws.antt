-- Two or four bytes of a CRC at once: a shift is linear, so the bytes above the low eight bits wait there until their turn.
-- Assumes nothing.
use Rattle.std.proofs.Common.{◌≡◌, ℕ, zero, suc, ◌+◌, ◌*◌, ◌/◌, ◌%◌, ◌^◌, ◌<◌, ◌≤◌, min, List, [], ◌∷◌, length, get_or, take, drop, sym, refl, ap, ◌∙◌, subst, ap₂, mod-eq_of_lt, mul_assoc, suc-add, pow-suc, zero-add, arith}
use native.Mathlib.Nat.{zero-min, min-zero, suc-min-suc}
use lib.Arith.{bin_ind}
use lib.Bits.{bit_xor, differ, xor_step, xor_comm, xor_zero_r, xor_shr, xor_mod, xor_shifted}
use Rattle.modbus.specs.Step.{choose, ◌≟◌}
use Rattle.modbus.specs.Bytes.{Bytes}
use Rattle.modbus.specs.Check.{shift, shifts, crc_byte, crc_from, crc}
use Rattle.modbus.proofs.BytesLaws.{bytes_by}
use Rattle.modbus.proofs.CheckLaws.{crc_step, crc_done, crc_lt}

-- ---- the order of three operands

digit : (P : ℕ → Type 0) → P 0 → P 1 → (x : ℕ) → x < 2 → P x
digit P a b zero h = a
digit P a b (suc zero) h = b
digit P a b (suc (suc x)) h = absurd (omega arith)

digits_swap : (x y z : ℕ) → x < 2 → y < 2 → z < 2 → differ (bit_xor x y) z ≡ differ (bit_xor x z) y
digits_swap x y z hx hy hz =
    digit (λ (i : ℕ). differ (bit_xor i y) z ≡ differ (bit_xor i z) y)
    (digit (λ (j : ℕ). differ (bit_xor 0 j) z ≡ differ (bit_xor 0 z) j)
    (digit (λ (k : ℕ). differ (bit_xor 0 0) k ≡ differ (bit_xor 0 k) 0) refl refl z hz)
    (digit (λ (k : ℕ). differ (bit_xor 0 1) k ≡ differ (bit_xor 0 k) 1) refl refl z hz) y hy)
    (digit (λ (j : ℕ). differ (bit_xor 1 j) z ≡ differ (bit_xor 1 z) j)
    (digit (λ (k : ℕ). differ (bit_xor 1 0) k ≡ differ (bit_xor 1 k) 0) refl refl z hz)
    (digit (λ (k : ℕ). differ (bit_xor 1 1) k ≡ differ (bit_xor 1 k) 1) refl refl z hz) y hy) x hx

low_digit : (a b c : ℕ) → bit_xor (bit_xor a b) c ≡ bit_xor (bit_xor (a / 2) (b / 2)) (c / 2) * 2 + differ (bit_xor (a % 2) (b % 2)) (c % 2)
low_digit a b c =
    xor_step (bit_xor a b) c
    ∙ ap₂ (λ (x y : ℕ). bit_xor x (c / 2) * 2 + differ y (c % 2)) (xor_shr a b 1) (xor_mod a b 1)

pub xor_swap : (a b c : ℕ) → bit_xor (bit_xor a b) c ≡ bit_xor (bit_xor a c) b
xor_swap =
    bin_ind (λ (a : ℕ). (b c : ℕ) → bit_xor (bit_xor a b) c ≡ bit_xor (bit_xor a c) b) (λ b c. xor_comm b c) (λ a ih b c.
    low_digit a b c
    ∙ ap₂ (λ (x y : ℕ). x * 2 + y) (ih (b / 2) (c / 2)) (digits_swap (a % 2) (b % 2) (c % 2) (omega arith) (omega arith) (omega arith))
    ∙ sym (low_digit a c b))

-- ---- what waits

halved : (x k : ℕ) → bit_xor x (k * 2) / 2 ≡ bit_xor (x / 2) k
halved x k = let e : k * 2 / 2 ≡ k = omega arith in xor_shr x (k * 2) 1 ∙ ap (bit_xor (x / 2)) e

lowest : (x k : ℕ) → bit_xor x (k * 2) % 2 ≡ x % 2
lowest x k = let e : k * 2 % 2 ≡ 0 = omega arith in xor_mod x (k * 2) 1 ∙ ap (bit_xor (x % 2)) e ∙ xor_zero_r (x % 2)

shift_waits : (x k : ℕ) → shift (bit_xor x (k * 2)) ≡ bit_xor (shift x) k
unfolding shift choose
shift_waits x k =
    ap₂ (λ (i j : ℕ). choose (i ≟ 1) (bit_xor j 0xA001) j) (lowest x k) (halved x k)
    ∙ elim (x % 2 ≟ 1) as (λ d. choose d (bit_xor (bit_xor (x / 2) k) 0xA001) (bit_xor (x / 2) k) ≡ bit_xor (choose d (bit_xor (x / 2) 0xA001) (x / 2)) k)
    [ yes p ↦ xor_swap (x / 2) k 0xA001 | no p ↦ refl ]

shifts_wait : (n x k : ℕ) → shifts n (bit_xor x (k * 2 ^ n)) ≡ bit_xor (shifts n x) k
unfolding shifts
shifts_wait zero x k = let e : k * 1 ≡ k = omega arith in ap (bit_xor x) e
shifts_wait (suc n) x k =
    let e : k * 2 ^ suc n ≡ k * 2 ^ n * 2 = ap (λ (i : ℕ). k * i) (pow-suc 2 n) ∙ sym (mul_assoc k (2 ^ n) 2) in
    ap (λ (i : ℕ). shifts n (shift (bit_xor x i))) e ∙ ap (shifts n) (shift_waits x (k * 2 ^ n)) ∙ shifts_wait n (shift x) k

pub shifts_add : (m n c : ℕ) → shifts (m + n) c ≡ shifts n (shifts m c)
unfolding shifts
shifts_add zero n c = ap (λ (i : ℕ). shifts i c) (zero-add n)
shifts_add (suc m) n c = ap (λ (i : ℕ). shifts i c) (suc-add m n) ∙ shifts_add m n (shift c)

-- a byte is shifted out, and the number over it comes down
byte_out : (n c b m : ℕ) → b < 256 → shifts (8 + n) (bit_xor c (m * 256 + b)) ≡ shifts n (bit_xor (crc_byte c b) m)
unfolding crc_byte
byte_out n c b m h =
    ap (λ (i : ℕ). shifts (8 + n) (bit_xor c i)) (sym (xor_shifted m 8 b h))
    ∙ ap (shifts (8 + n)) (xor_comm c (bit_xor (m * 256) b) ∙ xor_swap (m * 256) b c ∙ ap (λ (i : ℕ). bit_xor i b) (xor_comm (m * 256) c) ∙ xor_swap c (m * 256) b)
    ∙ shifts_add 8 n (bit_xor (bit_xor c b) (m * 256))
    ∙ ap (shifts n) (shifts_wait 8 (bit_xor c b) m)

pub two_out : (c a b : ℕ) → a < 256 → shifts 16 (bit_xor c (b * 256 + a)) ≡ crc_byte (crc_byte c a) b
unfolding crc_byte
two_out c a b ha = byte_out 8 c a b ha

pub four_out : (c a b d e : ℕ) → a < 256 → b < 256 → d < 256
    → shifts 32 (bit_xor c ((e * 256 + d) * 65536 + (b * 256 + a))) ≡ crc_byte (crc_byte (crc_byte (crc_byte c a) b) d) e
unfolding crc_byte
four_out c a b d e ha hb hd =
    let k : (e * 256 + d) * 65536 + (b * 256 + a) ≡ ((e * 256 + d) * 256 + b) * 256 + a = omega arith in
    ap (λ (i : ℕ). shifts 32 (bit_xor c i)) k
    ∙ byte_out 24 c a ((e * 256 + d) * 256 + b) ha
    ∙ byte_out 16 (crc_byte c a) b (e * 256 + d) hb ∙ byte_out 8 (crc_byte (crc_byte c a) b) d e hd

-- ---- the loop

pub moved : (s : List ℕ) (n z c i j : ℕ) → i ≡ j → crc_from c (drop i (take n s)) ≡ z → crc_from c (drop j (take n s)) ≡ z
moved s n z c i j e h = subst (λ (k : ℕ). crc_from c (drop k (take n s)) ≡ z) e h

pub crc_two : (s : List ℕ) (n i c d z : ℕ) → crc_from c (drop i (take n s)) ≡ z → d ≡ crc_byte (crc_byte c (get_or s i 0)) (get_or s (i + 1) 0)
    → i + 1 < n → i + 1 < length s → crc_from d (drop (i + 2) (take n s)) ≡ z
crc_two s n i c d z inv e hn hs =
    let x = crc_step s n i c _ z inv refl (omega arith) (omega arith) in
    moved s n z _ (i + 1 + 1) (i + 2) (omega arith) (crc_step s n (i + 1) _ d z x e hn hs)

pub crc_four : (s : List ℕ) (n i c d z : ℕ) → crc_from c (drop i (take n s)) ≡ z
    → d ≡ crc_byte (crc_byte (crc_byte (crc_byte c (get_or s i 0)) (get_or s (i + 1) 0)) (get_or s (i + 2) 0)) (get_or s (i + 3) 0)
    → i + 3 < n → i + 3 < length s → crc_from d (drop (i + 4) (take n s)) ≡ z
crc_four s n i c d z inv e hn hs =
    let j : i + 2 + 1 ≡ i + 3 = omega arith in
    let x = crc_two s n i c _ z inv refl (omega arith) (omega arith) in
    let q = e ∙ ap (λ (k : ℕ). crc_byte (crc_byte (crc_byte (crc_byte c (get_or s i 0)) (get_or s (i + 1) 0)) (get_or s (i + 2) 0)) (get_or s k 0)) (sym j) in
    moved s n z _ (i + 2 + 2) (i + 4) (omega arith) (crc_two s n (i + 2) _ d z x q (omega arith) (omega arith))

-- the last byte, if there is one: the register is the result
pub crc_none : (s : List ℕ) (n i c : ℕ) → min n (length s) ≤ i → c ≡ crc_from c (drop i (take n s))
crc_none s n i c h = crc_done s n i c _ refl h

pub crc_one : (s : List ℕ) (n i c d : ℕ) → d ≡ crc_byte c (get_or s i 0) → i < length s → n ≡ i + 1 → d ≡ crc_from c (drop i (take n s))
crc_one s n i c d e h k = crc_done s n (i + 1) d _ (crc_step s n i c d _ refl e (omega arith) h) (omega arith)

bytes_take : (n : ℕ) (l : List ℕ) → Bytes l → Bytes (take n l)
bytes_take zero l y = tt
bytes_take (suc n) [] y = tt
bytes_take (suc n) (x ∷ l) y = (y.0, bytes_take n l y.1)

take_least : (n : ℕ) (l : List ℕ) → take (min n (length l)) l ≡ take n l
take_least zero l = ap (λ (i : ℕ). take i l) (zero-min (length l))
take_least (suc n) [] = ap (λ (i : ℕ). take i []) (min-zero (suc n))
take_least (suc n) (x ∷ l) = ap (λ (i : ℕ). take i (x ∷ l)) (suc-min-suc n (length l)) ∙ ap (◌∷◌ x) (take_least n l)

-- the register keeps to 16 bits
pub crc_whole : (s : List ℕ) (n m c : ℕ) → ((i : ℕ) → get_or s i 0 < 256) → m ≡ min n (length s) → c ≡ crc (take m s) → c % 65536 ≡ crc (take n s)
crc_whole s n m c y e k =
    let q : c < 65536 = subst (λ (x : ℕ). x < 65536) (sym k) (crc_lt _ (bytes_take m s (bytes_by s y))) in
    mod-eq_of_lt q ∙ k ∙ ap (λ (x : ℕ). crc (take x s)) e ∙ ap crc (take_least n s)
