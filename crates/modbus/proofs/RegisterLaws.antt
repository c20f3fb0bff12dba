-- Laws of registers in lent bytes: a cell put is read back and leaves the others, and a run of cells is a run of bytes as they stand.
-- The elements of a lent slice are bytes; a law that needs it takes it as a hypothesis on every place.
-- Assumes nothing.
use mathlib.Core.Logic.{◌≢◌}
use mathlib.Core.Path.{◌≡◌, refl, sym, subst, ◌∙◌}
use mathlib.Core.List.{List, ◌∷◌}
use Prim.Native.Nat.{ℕ, zero, suc, ◌+◌, ◌*◌, ◌/◌, ◌%◌, ◌≤◌, ◌<◌}
use native.Mathlib.Omega.{arith}
use lib.ListN.{length, get_or, take, drop, set, length-set, drop_of_length-le}
use lib.Seq.{sets, drop-cons, get_or-set_same, get_or-set_other, ext_get_or}
use Rattle.modbus.specs.Step.{◌≟◌}
use Rattle.modbus.specs.Bytes.{twos}
use Rattle.modbus.specs.Table.{word, part}
use Rattle.modbus.specs.Request.{shown}
use Rattle.modbus.specs.Storage.{register_at, put_register, registers, store, values}
use Rattle.modbus.proofs.StorageLaws.{Lawful}

-- ---- one cell

register_keeps : (l : List ℕ) (n v : ℕ) → length (put_register l n v) ≡ length l
unfolding put_register
register_keeps l n v = simp length-set

register_same : (l : List ℕ) (n v : ℕ) → 2 * n + 2 ≤ length l → v < 65536 → register_at (put_register l n v) n ≡ v
unfolding put_register register_at
register_same l n v h k =
    let m = set l (2 * n) (v / 256) in
    let kept = get_or-set_other m (suc (2 * n)) (2 * n) (v % 256) 0 (λ p. omega arith) in
    let high = get_or-set_same l (2 * n) (v / 256) 0 (omega arith) in
    let low = get_or-set_same m (suc (2 * n)) (v % 256) 0 (simp length-set (omega arith)) in
    omega arith

other_byte : (l : List ℕ) (n v i : ℕ) → i ≢ 2 * n → i ≢ suc (2 * n) → get_or (put_register l n v) i 0 ≡ get_or l i 0
unfolding put_register
other_byte l n v i h k = get_or-set_other (set l (2 * n) (v / 256)) _ i _ 0 k ∙ get_or-set_other l _ i _ 0 h

register_other : (l : List ℕ) (n k v : ℕ) → k ≢ n → register_at (put_register l n v) k ≡ register_at l k
unfolding register_at
register_other l n k v h =
    let high = other_byte l n v (2 * k) (λ p. h (omega arith)) (λ p. omega arith) in
    let low = other_byte l n v (suc (2 * k)) (λ p. omega arith) (λ p. h (omega arith)) in
    omega arith

pub registers_law : Lawful registers
registers_law =
    record {
      keeps = register_keeps;
      same = λ l n v h f. register_same l n v (omega arith) f;
      other = λ l n v k f ne. register_other l n k v ne;
    }

-- ---- bytes and cells

-- a register's two bytes
halves : (l : List ℕ) (n : ℕ) → ((i : ℕ) → get_or l i 0 < 256)
    → (register_at l n / 256 ≡ get_or l (2 * n) 0) × (register_at l n % 256 ≡ get_or l (suc (2 * n)) 0)
unfolding register_at
halves l n b = let y = b (suc (2 * n)) in (omega arith, omega arith)

pub registers_equal : (l m : List ℕ) (n : ℕ) → length l ≡ 2 * n → length m ≡ 2 * n
    → ((i : ℕ) → get_or l i 0 < 256) → ((i : ℕ) → get_or m i 0 < 256)
    → ((k : ℕ) → k < n → register_at l k ≡ register_at m k) → l ≡ m
registers_equal l m n e f b d h = ext_get_or 0 l m (e ∙ sym f) (λ i p. by i (omega arith) (i % 2 ≟ 0))
  where
    same : (k : ℕ) → k < n → (get_or l (2 * k) 0 ≡ get_or m (2 * k) 0) × (get_or l (suc (2 * k)) 0 ≡ get_or m (suc (2 * k)) 0)
    same k p =
        let x = halves l k b in
        let y = halves m k d in
        let z = h k p in
        (cc, cc)

    by : (i : ℕ) → i < 2 * n → Dec (i % 2 ≡ 0) → get_or l i 0 ≡ get_or m i 0
    by i p (yes q) = subst (λ (j : ℕ). get_or l j 0 ≡ get_or m j 0) (omega arith) (same (i / 2) (omega arith)).0
    by i p (no q) = subst (λ (j : ℕ). get_or l j 0 ≡ get_or m j 0) (omega (arith, q)) (same (i / 2) (omega arith)).1

-- the bytes from a register on are its two and those from the next on
drop_two : (l : List ℕ) (s : ℕ) → 2 * s + 2 ≤ length l
    → drop (2 * s) l ≡ get_or l (2 * s) 0 ∷ get_or l (suc (2 * s)) 0 ∷ drop (2 * suc s) l
drop_two l s h =
    let e : 2 * suc s ≡ suc (suc (2 * s)) = omega arith in
    rw (e, drop-cons l (2 * s) 0 (omega arith), drop-cons l (suc (2 * s)) 0 (omega arith))

stored_from : (l d : List ℕ) (s k n : ℕ) → length d ≡ 2 * k + 2 * n → ((i : ℕ) → get_or d i 0 < 256)
    → store registers l s (part (register_at d) k n) ≡ sets l (2 * s) (drop (2 * k) d)
unfolding store part put_register
stored_from l d s k zero e b = rw (drop_of_length-le d {i = 2 * k} (omega arith))
stored_from l d s k (suc n) e b =
    let next : 2 * suc s ≡ suc (suc (2 * s)) = omega arith in
    stored_from (put_register l s (register_at d k)) d (suc s) (suc k) n (omega arith) b
    ∙ rw (drop_two d k (omega arith), (halves d k b).0, (halves d k b).1, next)

-- registers stored from data bytes are the bytes laid over
pub stored_bytes : (l : List ℕ) (s n : ℕ) (d : List ℕ) → length d ≡ 2 * n → ((i : ℕ) → get_or d i 0 < 256)
    → store registers l s (values word n d) ≡ sets l (2 * s) d
stored_bytes l s n d e b = stored_from l d s 0 n (omega arith) b

-- registers shown are the bytes as they stand
pub shown_bytes : (l : List ℕ) (s n : ℕ) → 2 * s + 2 * n ≤ length l → ((i : ℕ) → get_or l i 0 < 256)
    → shown word (part (register_at l) s n) ≡ take (2 * n) (drop (2 * s) l)
unfolding part twos
shown_bytes l s zero h b = refl
shown_bytes l s (suc n) h b =
    let next : 2 * suc n ≡ suc (suc (2 * n)) = omega arith in
    rw ((halves l s b).0, (halves l s b).1, next, drop_two l s (omega arith), shown_bytes l (suc s) n (omega arith) b)
