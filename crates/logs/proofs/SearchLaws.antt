-- One step of the search, and one byte more of a CRC.
-- Assumes nothing.
use mathlib.Core.Path.{◌≡◌, refl, ap, ◌∙◌}
use mathlib.Core.List.{List, [], ◌∷◌, ◌++◌}
use Prim.Native.Nat.{ℕ, suc, ◌+◌, ◌-◌, ◌≤◌, ◌<◌, min}
use native.Mathlib.Omega.{arith}
use lib.ListN.{length, take, drop, get_or, length-drop}
use lib.Seq.{take-suc, get_or-drop}
use Rattle.modbus.specs.Check.{crc_byte, crc_from, crc}
use Rattle.modbus.proofs.StepLaws.{pick_yes, pick_no}
use Rattle.logs.specs.Search.{Stands, stands?, Seen, none, stood, lengths, starts}

crc_from_snoc : (c : ℕ) (l : List ℕ) (b : ℕ) → crc_from c (l ++ (b ∷ [])) ≡ crc_byte (crc_from c l) b
unfolding crc_from
crc_from_snoc c [] b = refl
crc_from_snoc c (x ∷ l) b = crc_from_snoc (crc_byte c x) l b

pub crc_more : (l : List ℕ) (s n : ℕ) → s + n < length l → crc (take (suc n) (drop s l)) ≡ crc_byte (crc (take n (drop s l))) (get_or l (s + n) 0)
unfolding crc
crc_more l s n h =
    let k : n < length (drop s l) = simp length-drop (omega arith) in
    ap (crc_from 0xFFFF) (take-suc (drop s l) n 0 k) ∙ crc_from_snoc 0xFFFF (take n (drop s l)) (get_or (drop s l) n 0)
    ∙ ap (crc_byte (crc_from 0xFFFF (take n (drop s l)))) (get_or-drop s l n 0)

module _ (l : List ℕ) (s m n : ℕ) (other : Seen) (h : n ≤ m) where
  pub taken : Stands l s n → lengths l s (suc m - n) n other ≡ stood s n
  unfolding lengths
  taken p = let k : suc m - n ≡ suc (m - n) = omega arith in rw k (pick_yes (stands? l s n) _ _ p)

  pub passed : ¬ Stands l s n → lengths l s (suc m - n) n other ≡ lengths l s (suc m - suc n) (suc n) other
  unfolding lengths
  passed p =
      let k : suc m - n ≡ suc (m - n) = omega arith in
      let j : suc m - suc n ≡ m - n = omega arith in
      rw (k, j) (pick_no (stands? l s n) _ _ p)

pub no_more : (l : List ℕ) (s m n : ℕ) (other : Seen) → m < n → lengths l s (suc m - n) n other ≡ other
unfolding lengths
no_more l s m n other h = let k : suc m - n ≡ 0 = omega arith in rw k refl

-- the next start, where there is one
pub next_start : (l : List ℕ) (last s : ℕ) → s < last
    → starts l (last - s) s ≡ lengths l s (suc (min 256 (length l - s)) - 4) 4 (starts l (last - suc s) (suc s))
unfolding starts
next_start l last s h =
    let k : last - s ≡ suc (last - suc s) = omega arith in
    let j : suc (min 256 (length l - s)) - 4 ≡ min 256 (length l - s) - 3 = omega arith in
    rw (k, j) refl

pub no_start : (l : List ℕ) (last s : ℕ) → last ≤ s → starts l (last - s) s ≡ none
unfolding starts
no_start l last s h = let k : last - s ≡ 0 = omega arith in rw k refl
