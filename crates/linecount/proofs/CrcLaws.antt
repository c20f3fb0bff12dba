-- A CRC's register is linear in its start value, and a frame is where two CRCs of what is left of the record agree.
-- Assumes nothing.
use Rattle.std.proofs.Common.{◌≡◌, ℕ, zero, suc, ◌+◌, ◌-◌, ◌*◌, ◌/◌, ◌%◌, ◌^◌, ◌<◌, ◌≤◌, ◌↔◌, List, [], ◌∷◌, ◌++◌, length, get_or, take, drop, sym, refl, ap, ◌∙◌, ap₂, arith, lit<, length-drop, take-append-drop, get_or-drop, drop-cons, drop-drop}
use mathlib.Core.Logic.{by_cases}
use lib.Bits.{bit_xor, xor_comm, xor_zero_r, xor_zero_l, xor_self, xor_shr, xor_mod, xor_lt, xor_shifted}
use Rattle.modbus.specs.Step.{◌≟◌}
use Rattle.modbus.specs.Bytes.{Bytes}
use Rattle.modbus.specs.Check.{shift, shifts, crc_byte, crc_from, crc}
use Rattle.modbus.proofs.StepLaws.{pick_yes, pick_no}
use Rattle.modbus.proofs.BytesLaws.{all_take, all_drop, byte_at}
use Rattle.modbus.proofs.CheckLaws.{shift_lt, crc_from_lt, crc_lt}
use Rattle.checks.proofs.FourLaws.{xor_swap, shifts_add, two_out}
use Rattle.logs.specs.Search.{Stands}
use Rattle.linecount.specs.Sums.{tail, opened, power}

-- ---- exclusive or

pub xor_assoc : (a b c : ℕ) → bit_xor (bit_xor a b) c ≡ bit_xor a (bit_xor b c)
xor_assoc a b c = ap (λ (x : ℕ). bit_xor x c) (xor_comm a b) ∙ xor_swap b a c ∙ xor_comm (bit_xor b c) a

pub xor_back : (a b : ℕ) → bit_xor (bit_xor a b) b ≡ a
xor_back a b = xor_assoc a b b ∙ ap (bit_xor a) (xor_self b) ∙ xor_zero_r a

pub xor_none : (a b : ℕ) → bit_xor a b ≡ 0 → a ≡ b
xor_none a b e = sym (xor_back a b) ∙ ap (λ (x : ℕ). bit_xor x b) e ∙ xor_zero_l b

both : (a b k : ℕ) → bit_xor (bit_xor a k) (bit_xor b k) ≡ bit_xor a b
both a b k = sym (xor_assoc (bit_xor a k) b k) ∙ ap (λ (x : ℕ). bit_xor x k) (xor_swap a k b) ∙ xor_back (bit_xor a b) k

-- ---- a shift is linear, and nothing but 0 comes to 0

one_of : (x : ℕ) → ¬ (x % 2 ≡ 1) → x % 2 ≡ 0
one_of x n = omega (arith, n)

halves : (a b : ℕ) → bit_xor a b / 2 ≡ bit_xor (a / 2) (b / 2)
halves a b = xor_shr a b 1

lows : (a b : ℕ) → bit_xor a b % 2 ≡ bit_xor (a % 2) (b % 2)
lows a b = xor_mod a b 1

shift_odd : (c : ℕ) → c % 2 ≡ 1 → shift c ≡ bit_xor (c / 2) 0xA001
unfolding shift
shift_odd c h = pick_yes _ _ _ h

shift_even : (c : ℕ) → ¬ (c % 2 ≡ 1) → shift c ≡ c / 2
unfolding shift
shift_even c h = pick_no _ _ _ h

pub shift_xor : (a b : ℕ) → shift (bit_xor a b) ≡ bit_xor (shift a) (shift b)
shift_xor a b =
    by_cases (a % 2 ≟ 1)
    (λ p. by_cases (b % 2 ≟ 1)
    (λ q.
    let low : ¬ (bit_xor a b % 2 ≡ 1) = λ h. (let z : bit_xor (a % 2) (b % 2) ≡ 1 = sym (lows a b) ∙ h in let y : bit_xor 1 1 ≡ 1 = rw (p, q) at z in omega (arith, y)) in
    shift_even (bit_xor a b) low ∙ halves a b
    ∙ sym (ap₂ bit_xor (shift_odd a p) (shift_odd b q) ∙ both (a / 2) (b / 2) 0xA001))
    (λ q.
    let low : bit_xor a b % 2 ≡ 1 = lows a b ∙ (rw (p, one_of b q) refl) in
    shift_odd (bit_xor a b) low ∙ ap (λ (x : ℕ). bit_xor x 0xA001) (halves a b)
    ∙ xor_swap (a / 2) (b / 2) 0xA001 ∙ sym (ap₂ bit_xor (shift_odd a p) (shift_even b q))))
    (λ p. by_cases (b % 2 ≟ 1)
    (λ q.
    let low : bit_xor a b % 2 ≡ 1 = lows a b ∙ (rw (one_of a p, q) refl) in
    shift_odd (bit_xor a b) low ∙ ap (λ (x : ℕ). bit_xor x 0xA001) (halves a b)
    ∙ xor_assoc (a / 2) (b / 2) 0xA001 ∙ sym (ap₂ bit_xor (shift_even a p) (shift_odd b q)))
    (λ q.
    let low : ¬ (bit_xor a b % 2 ≡ 1) = λ h. (let z : bit_xor (a % 2) (b % 2) ≡ 1 = sym (lows a b) ∙ h in let y : bit_xor 0 0 ≡ 1 = rw (one_of a p, one_of b q) at z in omega (arith, y)) in
    shift_even (bit_xor a b) low ∙ halves a b ∙ sym (ap₂ bit_xor (shift_even a p) (shift_even b q))))

pub shifts_xor : (n a b : ℕ) → shifts n (bit_xor a b) ≡ bit_xor (shifts n a) (shifts n b)
unfolding shifts
shifts_xor zero a b = refl
shifts_xor (suc n) a b = ap (shifts n) (shift_xor a b) ∙ shifts_xor n (shift a) (shift b)

shift_none_out : (c : ℕ) → c < 2 ^ 16 → shift c ≡ 0 → c ≡ 0
shift_none_out c h e =
    by_cases (c % 2 ≟ 1)
    (λ p. let z = xor_none (c / 2) 0xA001 (sym (shift_odd c p) ∙ e) in absurd (omega (arith, z, h)))
    (λ p. let z = sym (shift_even c p) ∙ e in omega (arith, z, p))

pub shifts_none_out : (n c : ℕ) → c < 2 ^ 16 → shifts n c ≡ 0 → c ≡ 0
unfolding shifts
shifts_none_out zero c h e = e
shifts_none_out (suc n) c h e = shift_none_out c h (shifts_none_out n (shift c) (shift_lt c h) e)

zero_shift : shift 0 ≡ 0
zero_shift = shift_even 0 (λ h. omega (arith, h))

pub shifts_zero : (n : ℕ) → shifts n 0 ≡ 0
unfolding shifts
shifts_zero zero = refl
shifts_zero (suc n) = ap (shifts n) zero_shift ∙ shifts_zero n

-- ---- the register over some bytes, by where it started

pub crc_append : (c : ℕ) (l m : List ℕ) → crc_from c (l ++ m) ≡ crc_from (crc_from c l) m
unfolding crc_from
crc_append c [] m = refl
crc_append c (b ∷ l) m = crc_append (crc_byte c b) l m

byte_xor : (c d b : ℕ) → crc_byte (bit_xor c d) b ≡ bit_xor (crc_byte c b) (shifts 8 d)
unfolding crc_byte
byte_xor c d b = ap (shifts 8) (xor_swap c d b) ∙ shifts_xor 8 (bit_xor c b) d

pub crc_xor : (l : List ℕ) (c d : ℕ) → crc_from (bit_xor c d) l ≡ bit_xor (crc_from c l) (shifts (8 * length l) d)
unfolding crc_from shifts
crc_xor [] c d = refl
crc_xor (b ∷ l) c d =
    let k : 8 + 8 * length l ≡ 8 * suc (length l) = omega arith in
    ap (λ (x : ℕ). crc_from x l) (byte_xor c d b) ∙ crc_xor l (crc_byte c b) (shifts 8 d)
    ∙ ap (bit_xor (crc_from (crc_byte c b) l)) (sym (shifts_add 8 (8 * length l) d) ∙ ap (λ (n : ℕ). shifts n d) k)

-- ---- a frame

-- over all its bytes, check included, the register comes to 0
two_more : (m : List ℕ) (n : ℕ) → suc (suc n) ≤ length m → take (suc (suc n)) m ≡ take n m ++ (get_or m n 0 ∷ get_or m (suc n) 0 ∷ [])
two_more (x ∷ y ∷ m) zero h = refl
two_more (x ∷ m) (suc n) h = ap (λ r. x ∷ r) (two_more m n (omega arith))
two_more [] n h = absurd (omega arith)
two_more (x ∷ []) zero h = absurd (omega arith)

residue : (c lo hi : ℕ) → c < 2 ^ 16 → lo < 256 → hi < 256 → (crc_from c (lo ∷ hi ∷ []) ≡ 0) ↔ ((lo ≡ c % 256) × (hi ≡ c / 256))
unfolding crc_from
residue c lo hi h a b = (
  λ e.
      let x : c ≡ hi * 256 + lo = xor_none c (hi * 256 + lo) (shifts_none_out 16 _ (xor_lt 16 c (hi * 256 + lo) h (omega arith)) (two_out c lo hi a ∙ e)) in
      (omega (arith, x), omega (arith, x)),
  λ (p, q).
      let x : hi * 256 + lo ≡ c = omega (arith, p, q) in
      sym (two_out c lo hi a) ∙ ap (λ (y : ℕ). shifts 16 (bit_xor c y)) x ∙ ap (shifts 16) (xor_self c) ∙ shifts_zero 16,
)

module _ (l : List ℕ) (y : Bytes l) (s n : ℕ) (h : 2 ≤ n) (k : s + n ≤ length l) where
  abbrev frame : List ℕ
  frame = take n (drop s l)

  abbrev body : ℕ
  body = crc (take (n - 2) (drop s l))

  body_lt : body < 2 ^ 16
  body_lt = crc_lt (take (n - 2) (drop s l)) (all_take (λ b. b < 256) (n - 2) (drop s l) (all_drop (λ b. b < 256) s l y))

  frame_is : crc_from 0xFFFF frame ≡ crc_from body (get_or l (s + n - 2) 0 ∷ get_or l (s + n - 1) 0 ∷ [])
  unfolding crc
  frame_is =
      let d = length-drop s l in
      let e : n ≡ suc (suc (n - 2)) = omega arith in
      let a : s + (n - 2) ≡ s + n - 2 = omega arith in
      let b : s + suc (n - 2) ≡ s + n - 1 = omega arith in
      ap (λ (i : ℕ). crc_from 0xFFFF (take i (drop s l))) e ∙ ap (crc_from 0xFFFF) (two_more (drop s l) (n - 2) (omega (arith, d)))
      ∙ crc_append 0xFFFF (take (n - 2) (drop s l)) _
      ∙ ap₂ (λ (u v : ℕ). crc_from body (u ∷ v ∷ []))
      (get_or-drop s l (n - 2) 0 ∙ ap (λ (i : ℕ). get_or l i 0) a) (get_or-drop s l (suc (n - 2)) 0 ∙ ap (λ (i : ℕ). get_or l i 0) b)

  frame_lt : crc_from 0xFFFF frame < 2 ^ 16
  frame_lt = crc_from_lt frame 0xFFFF (lit< tt) (all_take (λ b. b < 256) n (drop s l) (all_drop (λ b. b < 256) s l y))

  -- the register runs on over what is behind the frame
  runs_on : opened l s ≡ bit_xor (tail l (s + n)) (shifts (8 * length (drop (s + n) l)) (crc_from 0xFFFF frame))
  runs_on =
      ap (crc_from 0xFFFF) (sym (take-append-drop n (drop s l)) ∙ ap (λ m. frame ++ m) (drop-drop n s l))
      ∙ crc_append 0xFFFF frame (drop (s + n) l)
      ∙ ap (λ (c : ℕ). crc_from c (drop (s + n) l)) (sym (xor_zero_l (crc_from 0xFFFF frame)))
      ∙ crc_xor (drop (s + n) l) 0 (crc_from 0xFFFF frame)

  -- n bytes from s on are a frame exactly where the two agree
  pub stands_iff : Stands l s n ↔ (opened l s ≡ tail l (s + n))
  stands_iff =
      let r = residue body (get_or l (s + n - 2) 0) (get_or l (s + n - 1) 0) body_lt (byte_at l _ y) (byte_at l _ y) in (
        λ p.
            let z : crc_from 0xFFFF frame ≡ 0 = frame_is ∙ r.1 p in
            runs_on ∙ ap (λ (c : ℕ). bit_xor (tail l (s + n)) (shifts (8 * length (drop (s + n) l)) c)) z
            ∙ ap (bit_xor (tail l (s + n))) (shifts_zero _) ∙ xor_zero_r _,
        λ e.
            let x : shifts (8 * length (drop (s + n) l)) (crc_from 0xFFFF frame) ≡ 0 =
            sym (xor_back _ (tail l (s + n))) ∙ ap (λ (c : ℕ). bit_xor c (tail l (s + n))) (xor_comm _ (tail l (s + n)) ∙ sym runs_on ∙ e) ∙ xor_self (tail l (s + n)) in
            r.0 (sym frame_is ∙ shifts_none_out _ _ frame_lt x),
      )

-- ---- one byte more, from the end on

-- a byte is its two halves
halves_of : (b : ℕ) → b ≡ bit_xor (b / 16 * 16) (b % 16)
halves_of b = (let z : b ≡ b / 16 * 2 ^ 4 + b % 16 = omega arith in z) ∙ sym (xor_shifted (b / 16) 4 (b % 16) (omega arith))

low_half : (x : ℕ) → x < 16 → shifts 4 (x * 16) ≡ x
unfolding shifts
low_half x h = four x
  where
    twice : (a : ℕ) → shift (a * 2) ≡ a
    twice a = shift_even (a * 2) (λ e. omega (arith, e)) ∙ (let z : a * 2 / 2 ≡ a = omega arith in z)

    four : (x : ℕ) → shift (shift (shift (shift (x * 16)))) ≡ x
    four x =
        (let z : x * 16 ≡ x * 2 * 2 * 2 * 2 = omega arith in ap (λ (a : ℕ). shift (shift (shift (shift a)))) z)
        ∙ ap (λ (a : ℕ). shift (shift (shift a))) (twice (x * 2 * 2 * 2)) ∙ ap (λ (a : ℕ). shift (shift a)) (twice (x * 2 * 2)) ∙ ap shift (twice (x * 2)) ∙ twice x

byte_power : (k b : ℕ) → shifts (8 * k) b ≡ bit_xor (power (2 * k) (b / 16)) (power (2 * k + 1) (b % 16))
byte_power k b =
    let e : 8 * k ≡ 4 * (2 * k) = omega arith in
    let f : 4 + 4 * (2 * k) ≡ 4 * (2 * k + 1) = omega arith in
    ap (λ (n : ℕ). shifts n b) e ∙ ap (shifts (4 * (2 * k))) (halves_of b) ∙ shifts_xor (4 * (2 * k)) (b / 16 * 16) (b % 16)
    ∙ ap (bit_xor (power (2 * k) (b / 16)))
    (ap (shifts (4 * (2 * k))) (sym (low_half (b % 16) (omega arith))) ∙ sym (shifts_add 4 (4 * (2 * k)) (b % 16 * 16)) ∙ ap (λ (n : ℕ). shifts n (b % 16 * 16)) f)

-- what a byte adds to the register over it and what is behind
crc_cons : (b : ℕ) (l : List ℕ) → crc_from 0 (b ∷ l) ≡ bit_xor (crc_from 0 l) (shifts (8 * suc (length l)) b)
unfolding crc_from crc_byte
crc_cons b l =
    let k : 8 + 8 * length l ≡ 8 * suc (length l) = omega arith in
    ap (λ (c : ℕ). crc_from (shifts 8 c) l) (xor_zero_l b) ∙ ap (λ (c : ℕ). crc_from c l) (sym (xor_zero_l (shifts 8 b))) ∙ crc_xor l 0 (shifts 8 b)
    ∙ ap (bit_xor (crc_from 0 l)) (sym (shifts_add 8 (8 * length l) b) ∙ ap (λ (n : ℕ). shifts n b) k)

pub tail_step : (l : List ℕ) (i k : ℕ) → i + k ≡ length l → i < length l
    → tail l i ≡ bit_xor (tail l (suc i)) (bit_xor (power (2 * k) (get_or l i 0 / 16)) (power (2 * k + 1) (get_or l i 0 % 16)))
tail_step l i k e h =
    let d = length-drop (suc i) l in
    let z : suc (length (drop (suc i) l)) ≡ k = omega (arith, d, e) in
    ap (crc_from 0) (drop-cons l i 0 h) ∙ crc_cons (get_or l i 0) (drop (suc i) l)
    ∙ ap (bit_xor (tail l (suc i))) (ap (λ (n : ℕ). shifts (8 * n) (get_or l i 0)) z ∙ byte_power k (get_or l i 0))

pub opened_is : (l : List ℕ) (i k : ℕ) → i + k ≡ length l → opened l i ≡ bit_xor (tail l i) (shifts (8 * k) 0xFFFF)
opened_is l i k e =
    let d = length-drop i l in
    let z : length (drop i l) ≡ k = omega (arith, d, e) in
    ap (λ (c : ℕ). crc_from c (drop i l)) (sym (xor_zero_l 0xFFFF)) ∙ crc_xor (drop i l) 0 0xFFFF ∙ ap (λ (n : ℕ). bit_xor (tail l i) (shifts (8 * n) 0xFFFF)) z

pub tail_lt : (l : List ℕ) (i : ℕ) → Bytes l → tail l i < 2 ^ 16
tail_lt l i y = crc_from_lt (drop i l) 0 (lit< tt) (all_drop (λ b. b < 256) i l y)
