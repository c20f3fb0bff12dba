-- Runs of cells; what holds of any storage whose single cell keeps to three laws; the packed storage, whose bit arithmetic ends here; and
-- what the cells of a table have room for.
-- Assumes nothing.
use mathlib.Core.Path.{◌≡◌, refl, sym, ap, ap₂, ◌∙◌}
use mathlib.Core.Logic.{◌≢◌}
use mathlib.Core.List.{List, [], ◌∷◌, ◌++◌}
use Prim.Native.Nat.{ℕ, zero, suc, ◌+◌, ◌-◌, ◌*◌, ◌/◌, ◌%◌, ◌≤◌, ◌<◌}
use native.Mathlib.Omega.{arith}
use native.Mathlib.Decide.{ℕ_discrete, dec_lt, dec_le}
use native.Mathlib.Nat.{zero-add, add-zero, add-suc, suc-add, not-suc-le-zero}
use lib.ListN.{length, get_or, set, length-set}
use lib.Seq.{get_or-set_same, get_or-set_other, ext_get_or, set_out}
use Rattle.modbus.specs.Bytes.{All, Bytes}
use Rattle.modbus.specs.Table.{Fits, part}
use Rattle.modbus.specs.Storage.{coil_at, with_bit, put_coil, Storage, packed, store, Sound, size}
use Rattle.modbus.proofs.StepLaws.{pick_yes, pick_no}
use Rattle.modbus.proofs.BytesLaws.{byte_at, bytes_set}
use Rattle.modbus.proofs.BitLaws.{bit_at, bits_determine, bit_same, bit_other, bit_byte}

-- ---- a run of cells

module _ (f : ℕ → ℕ) where
  pub length_part : (s n : ℕ) → length (part f s n) ≡ n
  unfolding part
  length_part s zero = refl
  length_part s (suc n) = ap suc (length_part (suc s) n)

  pub get_d_part : (s n i d : ℕ) → i < n → get_or (part f s n) i d ≡ f (s + i)
  unfolding part
  get_d_part s zero i d h = absurd (not-suc-le-zero h)
  get_d_part s (suc n) zero d h = ap f (sym (add-zero s))
  get_d_part s (suc n) (suc i) d h = get_d_part (suc s) n i d (omega arith) ∙ ap f (omega arith)

  pub part_add : (s m n : ℕ) → part f s (m + n) ≡ part f s m ++ part f (s + m) n
  unfolding part
  part_add s zero n = rw (zero-add, add-zero)
  part_add s (suc m) n = rw (suc-add, add-suc, ← suc-add) (ap (λ (l : List ℕ). f s ∷ l) (part_add (suc s) m n))

  pub part_all : (P : ℕ → Type 0) (s n : ℕ) → ((i : ℕ) → P (f i)) → All P (part f s n)
  unfolding part
  part_all P s zero h = tt
  part_all P s (suc n) h = (h s, part_all P (suc s) n h)

-- cells that hold the same
pub part_same : (f g : ℕ → ℕ) (s n : ℕ) → ((i : ℕ) → s ≤ i → i < s + n → f i ≡ g i) → part f s n ≡ part g s n
unfolding part
part_same f g s zero h = refl
part_same f g s (suc n) h = ap₂ ◌∷◌ (h s (omega arith) (omega arith)) (part_same f g (suc s) n (λ i p q. h i (omega arith) (omega arith)))

-- ---- any storage

-- a cell put reads back its value, where it lies inside the bytes; every other cell, spare ones included, keeps its own
pub record Lawful (S : Storage) : Type 0 where
  pub keeps : (l : List ℕ) (n v : ℕ) → length (S.put l n v) ≡ length l
  pub same : (l : List ℕ) (n v : ℕ) → S.bytes (suc n) ≤ length l → Fits S.kind v → S.cell (S.put l n v) n ≡ v
  pub other : (l : List ℕ) (n v k : ℕ) → Fits S.kind v → k ≢ n → S.cell (S.put l n v) k ≡ S.cell l k

-- one run after the other
pub store_append : (S : Storage) (l : List ℕ) (s : ℕ) (vs ws : List ℕ)
    → store S l s (vs ++ ws) ≡ store S (store S l s vs) (s + length vs) ws
unfolding store
store_append S l s [] ws = rw add-zero
store_append S l s (v ∷ vs) ws = rw (add-suc, ← suc-add) (store_append S (S.put l s v) (suc s) vs ws)

module _ {S : Storage} (law : Lawful S) where
  pub store_length : (l : List ℕ) (s : ℕ) (vs : List ℕ) → length (store S l s vs) ≡ length l
  unfolding store
  store_length l s [] = refl
  store_length l s (v ∷ vs) = store_length (S.put l s v) (suc s) vs ∙ law.keeps l s v

  pub store_out : (l : List ℕ) (s : ℕ) (vs : List ℕ) (k : ℕ) → All (Fits S.kind) vs → ¬ ((s ≤ k) × (k < s + length vs))
      → S.cell (store S l s vs) k ≡ S.cell l k
  unfolding store
  store_out l s [] k a o = refl
  store_out l s (v ∷ vs) k a o =
      store_out (S.put l s v) (suc s) vs k a.1 (λ h. o (omega arith, omega arith))
      ∙ law.other l s v k a.0 (λ e. o (omega arith, omega arith))

  pub store_in : (l : List ℕ) (s : ℕ) (vs : List ℕ) (i : ℕ) → All (Fits S.kind) vs → i < length vs → S.bytes (suc (s + i)) ≤ length l
      → S.cell (store S l s vs) (s + i) ≡ get_or vs i 0
  unfolding store
  store_in l s [] i a h room = absurd (not-suc-le-zero h)
  store_in l s (v ∷ vs) zero a h room =
      let e : s + 0 ≡ s = add-zero s in
      rw e (store_out (S.put l s v) (suc s) vs s a.1 (λ h. omega arith) ∙ law.same l s v (rw e at room) a.0)
  store_in l s (v ∷ vs) (suc i) a h room =
      let inside : S.bytes (suc (suc s + i)) ≤ length (S.put l s v) = rw (law.keeps l s v) (rw (add-suc, ← suc-add) at room) in
      rw (add-suc, ← suc-add) (store_in (S.put l s v) (suc s) vs i a.1 (omega arith) inside)

  -- the run reads back
  pub store_read : (l : List ℕ) (s : ℕ) (vs : List ℕ) → All (Fits S.kind) vs
      → ((i : ℕ) → i < length vs → S.bytes (suc (s + i)) ≤ length l) → part (S.cell (store S l s vs)) s (length vs) ≡ vs
  store_read l s vs a room =
      let f = S.cell (store S l s vs) in
      ext_get_or 0 (part f s (length vs)) vs (length_part f s (length vs)) (λ i h.
      let k : i < length vs = rw length_part at h in
      get_d_part f s (length vs) i 0 k ∙ store_in l s vs i a k (room i k))

  -- what was read and is written back changes no cell
  pub store_back : (l : List ℕ) (s n k : ℕ) → All (Fits S.kind) (part (S.cell l) s n) → S.bytes (suc k) ≤ length l
      → S.cell (store S l s (part (S.cell l) s n)) k ≡ S.cell l k
  store_back l s n k a room = by (dec_le s k) (dec_lt k (s + n))
    where
      by : Dec (s ≤ k) → Dec (k < s + n) → S.cell (store S l s (part (S.cell l) s n)) k ≡ S.cell l k
      by (yes p) (yes q) =
          let e : s + (k - s) ≡ k = omega arith in
          rw e at (store_in l s (part (S.cell l) s n) (k - s) a (rw length_part (omega arith)) (rw e room)
          ∙ get_d_part (S.cell l) s n (k - s) 0 (omega arith))
      by (yes p) (no q) = store_out l s (part (S.cell l) s n) k a (λ h. q (rw length_part at h.1))
      by (no p) d = store_out l s (part (S.cell l) s n) k a (λ h. p h.0)

-- ---- the packed storage

pub coil_bit : (l : List ℕ) (k : ℕ) → coil_at l k ≤ 1
unfolding coil_at
coil_bit l k = omega arith

put_keeps : (l : List ℕ) (n v : ℕ) → length (put_coil l n v) ≡ length l
unfolding put_coil
put_keeps l n v = simp length-set

coil_same : (l : List ℕ) (n v : ℕ) → (suc n + 7) / 8 ≤ length l → v ≤ 1 → coil_at (put_coil l n v) n ≡ v
unfolding coil_at put_coil
coil_same l n v h f =
    let b = get_or l (n / 8) 0 in
    ap (λ (x : ℕ). bit_at x (n % 8)) (get_or-set_same l (n / 8) (with_bit b (n % 8) v) 0 (omega arith)) ∙ bit_same b (n % 8) v f

coil_other : (l : List ℕ) (n v k : ℕ) → v ≤ 1 → k ≢ n → coil_at (put_coil l n v) k ≡ coil_at l k
unfolding coil_at put_coil
coil_other l n v k f ne = by (ℕ_discrete (k / 8) (n / 8)) (dec_lt (n / 8) (length l))
  where
    x : ℕ
    x = with_bit (get_or l (n / 8) 0) (n % 8) v

    by : Dec (k / 8 ≡ n / 8) → Dec (n / 8 < length l)
        → bit_at (get_or (set l (n / 8) x) (k / 8) 0) (k % 8) ≡ bit_at (get_or l (k / 8) 0) (k % 8)
    by (no e) d = ap (λ (y : ℕ). bit_at y (k % 8)) (get_or-set_other l (n / 8) (k / 8) x 0 e)
    by (yes e) (no d) = ap (λ (m : List ℕ). bit_at (get_or m (k / 8) 0) (k % 8)) (set_out l (n / 8) x (omega (arith, d)))
    by (yes e) (yes d) =
        rw e (ap (λ (y : ℕ). bit_at y (k % 8)) (get_or-set_same l (n / 8) x 0 d)
        ∙ bit_other (get_or l (n / 8) 0) (n % 8) v f (k % 8) (λ (q : k % 8 ≡ n % 8). ne (omega arith)))

pub packed_law : Lawful packed
packed_law = record { keeps = put_keeps; same = coil_same; other = coil_other }

put_bytes : (l : List ℕ) (n v : ℕ) → Bytes l → v ≤ 1 → Bytes (put_coil l n v)
unfolding put_coil
put_bytes l n v y f =
    bytes_set l (n / 8) _ y (bit_byte (get_or l (n / 8) 0) (n % 8) v f (byte_at l (n / 8) y) (omega arith))

pub store_bytes : (l : List ℕ) (s : ℕ) (vs : List ℕ) → Bytes l → All (λ v. v ≤ 1) vs → Bytes (store packed l s vs)
unfolding store
store_bytes l s [] y a = y
store_bytes l s (v ∷ vs) y a = store_bytes (put_coil l s v) (suc s) vs (put_bytes l s v y a.0) a.1

-- the cells determine the bytes
pub coils_determine : (l m : List ℕ) → Bytes l → Bytes m → length l ≡ length m
    → ((k : ℕ) → k < 8 * length l → coil_at l k ≡ coil_at m k) → l ≡ m
unfolding coil_at
coils_determine l m y z e h =
    ext_get_or 0 l m e (λ i f.
    bits_determine 8 (get_or l i 0) (get_or m i 0) (byte_at l i y) (byte_at m i z) (λ j g. at i j g (h (i * 8 + j) (omega arith))))
  where
    at : (i j : ℕ) → j < 8 → coil_at l (i * 8 + j) ≡ coil_at m (i * 8 + j) → bit_at (get_or l i 0) j ≡ bit_at (get_or m i 0) j
    at i j g c =
        let q : (i * 8 + j) / 8 ≡ i = omega arith in
        let r : (i * 8 + j) % 8 ≡ j = omega arith in
        rw (q, r) at c

-- what was read and is written back changes nothing
pub coils_back : (l : List ℕ) (s n : ℕ) → Bytes l → store packed l s (part (coil_at l) s n) ≡ l
coils_back l s n y =
    coils_determine _ l (store_bytes l s (part (coil_at l) s n) y fit) y (store_length packed_law l s (part (coil_at l) s n))
    (λ k h. store_back packed_law l s n k fit (omega (arith, store_length packed_law l s (part (coil_at l) s n))))
  where
    fit : All (λ v. v ≤ 1) (part (coil_at l) s n)
    fit = part_all (coil_at l) (λ v. v ≤ 1) s n (coil_bit l)

-- ---- the size of a table

module _ (S : Storage) (l : List ℕ) (cells : ℕ) where
  pub size_sound : Sound S l cells → size S l cells ≡ cells
  unfolding size
  size_sound h = pick_yes _ _ _ h

  pub size_unsound : ¬ Sound S l cells → size S l cells ≡ 0
  unfolding size
  size_unsound h = pick_no _ _ _ h
