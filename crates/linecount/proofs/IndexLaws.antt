-- One start of a record by its sums: the shortest frame there, and what is counted from there on.
-- Assumes nothing.
use mathlib.Core.Logic.{by_cases}
use Rattle.std.proofs.Common.{◌≡◌, ℕ, suc, ◌+◌, ◌-◌, ◌*◌, ◌/◌, ◌%◌, ◌<◌, ◌≤◌, List, length, get_or, set, sym, ap, subst, ◌∙◌, ap₂, arith, drop_of_length-le, get_or-set_other, get_or-set_same}
use Rattle.std.proofs.Math.ListN.{get_or-map}
use Rattle.std.proofs.lemmas.List.{map-set, length-map}
use native.Mathlib.Decide.{ℕ_discrete}
use lib.Bits.{bit_xor}
use Rattle.modbus.specs.Bytes.{Bytes}
use Rattle.modbus.specs.Check.{shifts, crc_from}
use Rattle.modbus.specs.Step.{choose}
use Rattle.modbus.proofs.StepLaws.{pick_yes, pick_no}
use Rattle.logs.specs.Search.{Stands}
use Rattle.logs.specs.Log.{counted, more, counted_in, rest}
use Rattle.logs.specs.declared.Counted.{Counted}
use Rattle.logs.proofs.FirstLaws.{NoneAt}
use Rattle.logs.proofs.CountLaws.{counted_rest, rest_fits}
use Rattle.linecount.specs.Sums.{tail, opened, power, packed, sums, counts, Sums, Near, Counts, Reaches, reaches?, shortest}
use Rattle.linecount.specs.declared.index.Place.{Place}
use Rattle.linecount.proofs.TableLaws.{entry_put}
use Rattle.linecount.proofs.CrcLaws.{stands_iff, tail_step, opened_is}
use Rattle.linecount.proofs.StartLaws.{shortest_cases, walk_skip, walk_take, rest_end}

-- ---- the sums

pub tail_end : (l : List ℕ) (i : ℕ) → length l ≤ i → tail l i ≡ 0
unfolding crc_from
tail_end l i h = ap (crc_from 0) (drop_of_length-le l {i = i} h)

-- one byte more
pub sums_step : (l : List ℕ) (k z x : ℕ) → 1 ≤ k → k ≤ length l → z ≡ tail l (length l - (k - 1))
    → x ≡ bit_xor (power (2 * k) (get_or l (length l - k) 0 / 16)) (power (2 * k + 1) (get_or l (length l - k) 0 % 16))
    → bit_xor z x ≡ tail l (length l - k)
sums_step l k z x h j e q =
    let i : length l - (k - 1) ≡ suc (length l - k) = omega arith in
    ap₂ bit_xor (e ∙ ap (tail l) i) q ∙ sym (tail_step l (length l - k) k (omega arith) (omega arith))

-- the sum that the end of a frame must have
pub opens : (l : List ℕ) (k z x : ℕ) → k ≤ length l → z ≡ tail l (length l - k) → x ≡ shifts (8 * k) 0xFFFF → bit_xor z x ≡ opened l (length l - k)
opens l k z x h e o = ap₂ bit_xor e o ∙ sym (opened_is l (length l - k) k (omega arith))

-- ---- the places

abbrev empty : Place
empty = record { sum = 0; counted = 0 }

pub sum_at : (places : List Place) (k : ℕ) → get_or (sums places) k 0 ≡ (get_or places k empty).sum
sum_at places k = get_or-map (λ (p : Place). p.sum) places k empty

pub counted_at : (places : List Place) (k : ℕ) → get_or (counts places) k 0 ≡ (get_or places k empty).counted
counted_at places k = get_or-map (λ (p : Place). p.counted) places k empty

-- one place more
pub place_put : (l : List ℕ) (places : List Place) (k : ℕ) (p : Place) → Sums (sums places) l k → Counts (counts places) l k → k < length places
    → p.sum ≡ tail l (length l - k) → p.counted ≡ packed (rest l (length l - k))
    → Sums (sums (set places k p)) l (k + 1) × Counts (counts (set places k p)) l (k + 1)
place_put l places k p s c h e f =
    let u = length-map places (λ (q : Place). q.sum) in
    let v = length-map places (λ (q : Place). q.counted) in (
      subst (λ m. Sums m l (k + 1)) (sym (map-set (λ (q : Place). q.sum) places k p)) (entry_put (λ j. tail l (length l - j)) (sums places) k p.sum s (omega (arith, u, h)) e),
      subst (λ m. Counts m l (k + 1)) (sym (map-set (λ (q : Place). q.counted) places k p))
          (entry_put (λ j. packed (rest l (length l - j))) (counts places) k p.counted c (omega (arith, v, h)) f),
    )

-- ---- the latest place with a sum

pub near_none : (nearest l : List ℕ) → Near nearest l 0
near_none nearest l k v q w = absurd (omega (arith, q))

pub near_put : (l nearest : List ℕ) (b v : ℕ) → Near nearest l b → v ≡ tail l (length l - b) → v < length nearest → Near (set nearest v b) l (suc b)
near_put l nearest b v near p room k w q e =
    by_cases (ℕ_discrete w v)
    (λ same.
    let z : get_or (set nearest v b) w 0 ≡ b = ap (λ x. get_or (set nearest v b) x 0) same ∙ get_or-set_same nearest v b 0 room in
    (omega (arith, z, q), omega (arith, z), ap (λ x. tail l (length l - x)) z ∙ sym p ∙ sym same))
    (λ other.
    let z : get_or (set nearest v b) w 0 ≡ get_or nearest w 0 = get_or-set_other nearest v w b 0 other in
    let past : k < b = by_cases (ℕ_discrete k b) (λ s. absurd (other (sym e ∙ ap (λ x. tail l (length l - x)) s ∙ sym p))) (λ n. omega (arith, q, n)) in
    let (x, y, t) = near k w past e in
    (omega (arith, z, x), omega (arith, z, y), ap (λ x. tail l (length l - x)) z ∙ t))

-- ---- a start

module _ (l : List ℕ) (y : Bytes l) (k : ℕ) (least : 4 ≤ k) (most : k ≤ length l) (sums : List ℕ) (right : Sums sums l k) (nearest : List ℕ)
    (near : Near nearest l (k - 3)) (h w : ℕ) (is : w ≡ opened l (length l - k)) (at : h ≡ get_or nearest w 0) where
  -- a frame of m bytes ends where k - m are left
  frame_ends : (m : ℕ) → 4 ≤ m → m ≤ k → Stands l (length l - k) m → tail l (length l - (k - m)) ≡ w
  frame_ends m a b p =
      let e : length l - (k - m) ≡ length l - k + m = omega arith in
      ap (tail l) e ∙ sym ((stands_iff l y (length l - k) m (omega arith) (omega arith)).0 p) ∙ sym is

  ends_frame : (j : ℕ) → j + 4 ≤ k → tail l (length l - j) ≡ w → Stands l (length l - k) (k - j)
  ends_frame j a e =
      let z : length l - j ≡ length l - k + (k - j) = omega arith in
      (stands_iff l y (length l - k) (k - j) (omega arith) (omega arith)).1 (sym is ∙ sym e ∙ ap (tail l) z)

  -- the latest place with the sum that a frame's end must have is that of the shortest
  at_end : (m : ℕ) → 4 ≤ m → m ≤ 256 → m ≤ k → Stands l (length l - k) m → NoneAt l (length l - k) 4 m → Reaches sums k h w × (k ≡ h + m)
  at_end m a b c p q =
      let (u, v, t) = near (k - m) w (omega (arith, a, least)) (frame_ends m a c p) in
      let u' : k ≤ h + m = omega (arith, u, at) in
      let v' : h + 4 ≤ k = omega (arith, v, at, least) in
      let t' : tail l (length l - h) ≡ w = ap (λ x. tail l (length l - x)) at ∙ t in
      let s : k ≡ h + m = by_cases (ℕ_discrete k (h + m)) (λ s. s) (λ n. absurd (q (k - h) (omega (arith, v')) (omega (arith, u', n)) (ends_frame h v' t'))) in
      ((v', (omega (arith, u', b), right h (omega (arith, v')) ∙ t')), s)

  -- what is counted from here on: with a frame, and with none
  with_frame : (m : ℕ) → shortest l (length l - k) ≡ m → 4 ≤ m → k ≡ h + m → packed (rest l (length l - h)) + (65536 + m) ≡ packed (rest l (length l - k))
  with_frame m f a s =
      let x : length l - k + m ≡ length l - h = omega (arith, s, most) in
      let r : rest l (length l - k) ≡ more m (rest l (length l - h)) =
      walk_take l (length l - k) (omega (arith, least, most)) (omega (arith, f, a)) ∙ ap (λ n. more n (rest l (length l - k + n))) f ∙ ap (λ z. more m (rest l z)) x in
      let g = ap (λ (z : Counted). z.frames) r in
      let d = ap (λ (z : Counted). z.inside) r in
      omega (arith, g, d)

  with_none : shortest l (length l - k) ≡ 0 → rest l (length l - (k - 1)) ≡ rest l (length l - k)
  with_none f =
      let z : length l - (k - 1) ≡ suc (length l - k) = omega (arith, least, most) in
      ap (rest l) z ∙ sym (walk_skip l (length l - k) (omega (arith, least, most)) f)

  pub counts_next : (counts : List ℕ) (c : ℕ) → Counts counts l k → c ≡ packed (rest l (length l - (k - 1)))
      → choose (reaches? sums k h w) (get_or counts h 0 + (65536 + (k - h))) c ≡ packed (rest l (length l - k))
  counts_next counts c known e =
      shortest_cases l (length l - k)
      (λ m a b p q f.
      let (r, s) = at_end m a (omega (arith, b)) (omega (arith, b)) p q in
      let z : k - h ≡ m = omega (arith, s) in
      pick_yes _ _ _ r ∙ ap₂ (λ x y. x + (65536 + y)) (known h (omega (arith, s, a))) z ∙ with_frame m f a s)
      (λ n f.
      pick_no _ _ _ (λ (u, (v, t)). n (k - h) (omega (arith, u)) (omega (arith, u, v, most)) (ends_frame h u (sym (right h (omega (arith, u))) ∙ t)))
      ∙ e ∙ ap packed (with_none f))

-- ---- what is counted

pub counts_few : (l : List ℕ) (k : ℕ) → k < 4 → packed (rest l (length l - k)) ≡ 0
counts_few l k h = ap packed (rest_end l (length l - k) (omega (arith, h)))

pub packed_small : (l : List ℕ) (s : ℕ) → s ≤ length l → length l ≤ 4096 → packed (rest l s) ≤ 268439552
packed_small l s h k = let f = rest_fits l s h in omega (arith, f.0, f.1)

pub unpacked : (l : List ℕ) (c : ℕ) → length l ≤ 4096 → c ≡ packed (rest l (length l - length l)) → counted (c / 65536) (c % 65536) ≡ counted_in l
unpacked l c h e =
    let z : length l - length l ≡ 0 = omega arith in
    let f = rest_fits l 0 (omega arith) in
    let x : c ≡ packed (rest l 0) = e ∙ ap (λ i. packed (rest l i)) z in
    ap₂ counted (let u : c / 65536 ≡ (rest l 0).frames = omega (arith, x, f.0, f.1) in u) (let v : c % 65536 ≡ (rest l 0).inside = omega (arith, x, f.0, f.1) in v)
    ∙ sym (counted_rest l)

pub none_counted : (l : List ℕ) → length l < 4 → counted 0 0 ≡ counted_in l
none_counted l h = sym (counted_rest l ∙ rest_end l 0 (omega arith))
