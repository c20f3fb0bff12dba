-- What holds of every element holds of the elements of parts; bytes laid in two parts; 16-bit numbers in two bytes.
-- Assumes nothing.
use mathlib.Core.Path.{◌≡◌}
use mathlib.Core.List.{List, [], ◌∷◌, ◌++◌}
use Prim.Native.Nat.{ℕ, zero, suc, ◌+◌, ◌<◌, suc-le-suc}
use native.Mathlib.Omega.{arith}
use lib.ListN.{length, take, drop, get_or, set}
use lib.Seq.{sets}
use Rattle.modbus.specs.Bytes.{All, Bytes, two, word_at}

module _ (P : ℕ → Type 0) where
  pub all_append : (l m : List ℕ) → All P l → All P m → All P (l ++ m)
  all_append [] m p q = q
  all_append (x ∷ l) m p q = (p.0, all_append l m p.1 q)

  pub all_front : (l m : List ℕ) → All P (l ++ m) → All P l
  all_front [] m p = tt
  all_front (x ∷ l) m p = (p.0, all_front l m p.1)

  pub all_take : (n : ℕ) (l : List ℕ) → All P l → All P (take n l)
  all_take zero l p = tt
  all_take (suc n) [] p = tt
  all_take (suc n) (x ∷ l) p = (p.0, all_take n l p.1)

  pub all_drop : (n : ℕ) (l : List ℕ) → All P l → All P (drop n l)
  all_drop zero l p = p
  all_drop (suc n) [] p = tt
  all_drop (suc n) (x ∷ l) p = all_drop n l p.1

  -- by place
  pub all_by : (l : List ℕ) → ((i : ℕ) → i < length l → P (get_or l i 0)) → All P l
  all_by [] h = tt
  all_by (x ∷ l) h = (h 0 (omega arith), all_by l (λ i k. h (suc i) (suc-le-suc k)))

  pub all_set : (l : List ℕ) (i v : ℕ) → All P l → P v → All P (set l i v)
  all_set [] i v a h = tt
  all_set (x ∷ l) zero v a h = (h, a.1)
  all_set (x ∷ l) (suc i) v a h = (a.0, all_set l i v a.1 h)

pub bytes_append : (l m : List ℕ) → Bytes l → Bytes m → Bytes (l ++ m)
bytes_append l m p q = all_append (λ b. b < 256) l m p q

pub bytes_front : (l m : List ℕ) → Bytes (l ++ m) → Bytes l
bytes_front l m p = all_front (λ b. b < 256) l m p

pub bytes_by : (l : List ℕ) → ((i : ℕ) → get_or l i 0 < 256) → Bytes l
bytes_by l h = all_by (λ b. b < 256) l (λ i k. h i)

pub bytes_set : (l : List ℕ) (i v : ℕ) → Bytes l → v < 256 → Bytes (set l i v)
bytes_set l i v y h = all_set (λ b. b < 256) l i v y h

pub byte_at : (l : List ℕ) (i : ℕ) → Bytes l → get_or l i 0 < 256
byte_at [] i y = omega arith
byte_at (x ∷ l) zero y = y.0
byte_at (x ∷ l) (suc i) y = byte_at l i y.1

pub word_at_law : (l : List ℕ) (i : ℕ) → Bytes l → word_at l i < 65536
word_at_law l i y = omega (arith, byte_at l i y, byte_at l (suc i) y)

pub bytes_two : (n : ℕ) → n < 65536 → Bytes (two n)
bytes_two n h = (omega arith, (omega arith, tt))

-- bytes laid over a buffer from i on: the first part, and the second from where the first ends
pub sets_append : (l m buf : List ℕ) (i j : ℕ) → i + length l ≡ j → sets buf i (l ++ m) ≡ sets (sets buf i l) j m
sets_append [] m buf i j e = let k : i ≡ j = omega arith in rw k
sets_append (x ∷ l) m buf i j e = sets_append l m (set buf i x) (suc i) j (omega arith)
