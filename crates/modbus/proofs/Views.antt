-- A list of so many elements, with its first ones named, or taken by eights: after a match on such a view, every place computes.
-- Assumes nothing.
use mathlib.Core.Path.{◌≡◌, refl}
use mathlib.Core.List.{List, [], ◌∷◌}
use Prim.Native.Nat.{ℕ, ◌-◌, ◌*◌, ◌≤◌}
use native.Mathlib.Omega.{arith}
use lib.ListN.{length, drop, get_or}

-- at least one
pub headed : (l : List ℕ) → 1 ≤ length l → l ≡ get_or l 0 0 ∷ drop 1 l
headed [] h = absurd (omega arith)
headed (x ∷ l) h = refl

-- at least six
pub data Six : List ℕ → Type 0 where
  six : (a b c d e f : ℕ) (r : List ℕ) → Six (a ∷ b ∷ c ∷ d ∷ e ∷ f ∷ r)

pub six? : (l : List ℕ) → 6 ≤ length l → Six l
six? [] h = absurd (omega arith)
six? (a ∷ []) h = absurd (omega arith)
six? (a ∷ b ∷ []) h = absurd (omega arith)
six? (a ∷ b ∷ c ∷ []) h = absurd (omega arith)
six? (a ∷ b ∷ c ∷ d ∷ []) h = absurd (omega arith)
six? (a ∷ b ∷ c ∷ d ∷ e ∷ []) h = absurd (omega arith)
six? (a ∷ b ∷ c ∷ d ∷ e ∷ f ∷ r) h = six a b c d e f r

-- exactly six
pub data Hexad : List ℕ → Type 0 where
  hexad : (a b c d e f : ℕ) → Hexad (a ∷ b ∷ c ∷ d ∷ e ∷ f ∷ [])

pub hexad? : (l : List ℕ) → length l ≡ 6 → Hexad l
hexad? l e = exact (six? l (omega arith)) e
  where
    exact : {l : List ℕ} → Six l → length l ≡ 6 → Hexad l
    exact (six a b c d e f []) q = hexad a b c d e f
    exact (six a b c d e f (x ∷ r)) q = absurd (omega arith)

-- at least seven
pub data Seven : List ℕ → Type 0 where
  seven : (a b c d e f g : ℕ) (r : List ℕ) → Seven (a ∷ b ∷ c ∷ d ∷ e ∷ f ∷ g ∷ r)

pub seven? : (l : List ℕ) → 7 ≤ length l → Seven l
seven? l e = more (six? l (omega arith)) e
  where
    more : {l : List ℕ} → Six l → 7 ≤ length l → Seven l
    more (six a b c d e f []) q = absurd (omega arith)
    more (six a b c d e f (g ∷ r)) q = seven a b c d e f g r

-- exactly eight
pub data Octad : List ℕ → Type 0 where
  octad : (a b c d e f g h : ℕ) → Octad (a ∷ b ∷ c ∷ d ∷ e ∷ f ∷ g ∷ h ∷ [])

pub octad? : (l : List ℕ) → length l ≡ 8 → Octad l
octad? l e = exact (seven? l (omega arith)) e
  where
    exact : {l : List ℕ} → Seven l → length l ≡ 8 → Octad l
    exact (seven a b c d e f g []) q = absurd (omega arith)
    exact (seven a b c d e f g (h ∷ [])) q = octad a b c d e f g h
    exact (seven a b c d e f g (h ∷ x ∷ r)) q = absurd (omega arith)

-- at least eleven
pub data Eleven : List ℕ → Type 0 where
  eleven : (a b c d e f g h i j k : ℕ) (r : List ℕ) → Eleven (a ∷ b ∷ c ∷ d ∷ e ∷ f ∷ g ∷ h ∷ i ∷ j ∷ k ∷ r)

pub eleven? : (l : List ℕ) → 11 ≤ length l → Eleven l
eleven? l e = more (seven? l (omega arith)) e
  where
    more : {l : List ℕ} → Seven l → 11 ≤ length l → Eleven l
    more (seven a b c d e f g []) q = absurd (omega arith)
    more (seven a b c d e f g (h ∷ [])) q = absurd (omega arith)
    more (seven a b c d e f g (h ∷ i ∷ [])) q = absurd (omega arith)
    more (seven a b c d e f g (h ∷ i ∷ j ∷ [])) q = absurd (omega arith)
    more (seven a b c d e f g (h ∷ i ∷ j ∷ k ∷ r)) q = eleven a b c d e f g h i j k r

-- a multiple of eight
pub data Eights : List ℕ → Type 0 where
  none : Eights []
  eight : (a b c d e f g h : ℕ) {r : List ℕ} → Eights r → Eights (a ∷ b ∷ c ∷ d ∷ e ∷ f ∷ g ∷ h ∷ r)

pub eights? : (l : List ℕ) (n : ℕ) → length l ≡ 8 * n → Eights l
eights? [] n q = none
eights? (a ∷ []) n q = absurd (omega arith)
eights? (a ∷ b ∷ []) n q = absurd (omega arith)
eights? (a ∷ b ∷ c ∷ []) n q = absurd (omega arith)
eights? (a ∷ b ∷ c ∷ d ∷ []) n q = absurd (omega arith)
eights? (a ∷ b ∷ c ∷ d ∷ e ∷ []) n q = absurd (omega arith)
eights? (a ∷ b ∷ c ∷ d ∷ e ∷ f ∷ []) n q = absurd (omega arith)
eights? (a ∷ b ∷ c ∷ d ∷ e ∷ f ∷ g ∷ []) n q = absurd (omega arith)
eights? (a ∷ b ∷ c ∷ d ∷ e ∷ f ∷ g ∷ h ∷ r) n q = eight a b c d e f g h (eights? r (n - 1) (omega arith))
