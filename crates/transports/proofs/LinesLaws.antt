-- A line of seven bytes: its digits by place, and its bytes as a loop decodes them.
-- Assumes nothing.
use mathlib.Core.Logic.{by_cases}
use Rattle.std.proofs.Common.{◌≡◌, ℕ, ◌+◌, ◌-◌, ◌*◌, ◌≤◌, List, [], length, get_or, take, drop, set, refl, ap, ◌∙◌, subst, add-one, arith, length-drop, drop_of_length-le, length-take, get_or-drop, get_or-take}
use lib.Bits.{bit_or}
use lib.Seq.{sets, take-set-le}
use Rattle.modbus.specs.Step.{◌≤?◌}
use Rattle.modbus.specs.Bytes.{All}
use Rattle.modbus.proofs.BytesLaws.{all_by}
use Rattle.ascii.specs.Plain.{Digit, value, pair_values}
use Rattle.ascii.proofs.PlainLaws.{or_none, digits_two, length_values, values_step}
use Rattle.transports.specs.Lines.{Digits, ShortLine}
use Rattle.transports.proofs.AsciiLaws.{front}

-- one more
pub digits_more : (s : List ℕ) (at i o x : ℕ) → (o ≡ 0 → Digits s at i) → (x ≡ 0 → Digit (get_or s (at + i) 0)) → bit_or o x ≡ 0
    → Digits s at (i + 1)
digits_more s at i o x inv d e j h =
    let n = or_none o x e in
    by_cases (i ≤? j)
    (λ k. let q : i ≡ j = omega arith in subst (λ (m : ℕ). Digit (get_or s (at + m) 0)) q (d n.1))
    (λ k. inv n.0 j (omega (arith, k)))

-- the first eight and the last eight are all
pub short_line : (f : List ℕ) → length f ≡ 17 → Digits f 1 8 → Digits f 7 8 → ShortLine f
short_line f n a b =
    let k : length (drop 1 (take 15 f)) ≡ 14 = simp (length-drop, length-take) (omega arith) in (
      n,
      all_by Digit (drop 1 (take 15 f)) λ i h.
          let e = get_or-drop 1 (take 15 f) i 0 ∙ get_or-take 15 f (1 + i) 0 (omega arith) in
          rw e (by_cases (i ≤? 7)
          (λ p. a i (omega arith))
          (λ p. let q : 7 + (i - 6) ≡ 1 + i = omega (arith, p) in
          subst (λ (m : ℕ). Digit (get_or f m 0)) q (b (i - 6) (omega (arith, p))))),
    )

-- i bytes of eight are decoded: the first seven are those of the line once the pairs that are left are laid behind them
abbrev pub Seven : List ℕ → List ℕ → ℕ → Type 0
Seven s raw i =
    All Digit (drop (2 * i + 1) (take 15 s))
    × (take 7 (sets raw i (pair_values (drop (2 * i + 1) (take 15 s)))) ≡ pair_values (drop 1 (take 15 s)))

pub seven_start : (s raw : List ℕ) → ShortLine s → 7 ≤ length raw → Seven s raw 0
seven_start s raw (n, d) h =
    let k = length_values 7 (drop 1 (take 15 s)) (simp (length-drop, length-take) (omega arith)) in
    (d, front (pair_values (drop 1 (take 15 s))) raw 7 k h)

-- nothing is left behind the seventh
none_left : (s : List ℕ) (k : ℕ) → 15 ≤ k → drop k (take 15 s) ≡ []
none_left s k h = let j : length (take 15 s) ≤ k = simp length-take (omega arith) in drop_of_length-le (take 15 s) j

pub seven_end : (s raw : List ℕ) (i : ℕ) → 7 ≤ i → Seven s raw i → take 7 raw ≡ pair_values (drop 1 (take 15 s))
unfolding pair_values
seven_end s raw i h v = rw (none_left s (2 * i + 1) (omega arith)) at v.1

pub seven_step : (s raw : List ℕ) (i x y : ℕ) → length s ≡ 17 → Seven s raw i
    → (Digit (get_or s (2 * i + 1) 0) → x ≡ value (get_or s (2 * i + 1) 0))
    → (Digit (get_or s (2 * i + 2) 0) → y ≡ value (get_or s (2 * i + 2) 0))
    → Seven s (set raw i (x * 16 + y)) (i + 1)
unfolding pair_values
seven_step s raw i x y n v p q =
    let k = 2 * i + 1 in
    let m : 2 * (i + 1) + 1 ≡ k + 2 = omega arith in
    let g : 2 * i + 2 ≡ k + 1 = omega arith in
    by_cases (i ≤? 6)
    (λ h.
    let (a, b, d) = digits_two s 15 k v.0 (omega arith) (omega arith) in
    rw (m, add-one i) (
      d,
      ap (take 7) (values_step s 15 k raw i x y _ refl (omega arith) (omega arith) (p a) (rw g at (q (rw g b)))) ∙ v.1,
    ))
    (λ h.
    let w = seven_end s raw i (omega (arith, h)) v in
    rw (m, none_left s (k + 2) (omega (arith, h))) (tt, take-set-le 7 raw i _ (omega (arith, h)) ∙ w))
