-- The answer to a permitted request has 2 to 252 bytes; they are bytes, if the request came as bytes and the tables hold proper values.
-- Assumes nothing.
use mathlib.Core.Path.{◌≡◌, refl, sym, subst}
use mathlib.Core.List.{List, [], ◌∷◌}
use Prim.Native.Nat.{ℕ, zero, suc, ◌-◌, ◌*◌, ◌≤◌, ◌<◌}
use native.Mathlib.Omega.{arith}
use lib.ListN.{length, get_or, replicate, length-replicate}
use Rattle.modbus.specs.Bytes.{All, Bytes}
use Rattle.modbus.specs.Table.{Kind, bit, word, Tab, coils, discretes, holdings, inputs, kind_of, Fits, Tables, part, Range, hits?, assign}
use Rattle.modbus.specs.Request.{code, reads, both, Ask, read, write, writes, masks, swaps, most_read, Permitted, octets, Fills, Encodes, shown, apply, seen, found, answer}
use Rattle.modbus.proofs.StepLaws.{either}
use Rattle.modbus.proofs.StorageLaws.{length_part, part_all}
use Rattle.modbus.proofs.CargoLaws.{length_cargo, bytes_cargo}

-- every cell holds what a cell of its kind can hold
abbrev pub Proper : Tables → Type 0
Proper t = (tab : Tab) (i : ℕ) → Fits (kind_of tab) (t tab i)

none_fits : (k : Kind) → Fits k 0
none_fits bit = omega arith
none_fits word = omega arith

fits_at : (k : Kind) (vs : List ℕ) (i : ℕ) → All (Fits k) vs → Fits k (get_or vs i 0)
fits_at k [] i f = none_fits k
fits_at k (v ∷ vs) zero f = f.0
fits_at k (v ∷ vs) (suc i) f = fits_at k vs i f.1

-- and goes on doing so
pub assign_proper : (r : Range) (vs : List ℕ) (t : Tables) → All (Fits (kind_of r.tab)) vs → Proper t → Proper (assign r vs t)
assign_proper r vs t f p tab i =
    either (Fits (kind_of tab)) (hits? r tab i) _ _
    (λ h. subst (λ x. Fits (kind_of x) (get_or vs (i - r.first) 0)) (sym h.0) (fits_at (kind_of r.tab) vs (i - r.first) f))
    (λ _. p tab i)

zeros : (n : ℕ) → All (Fits bit) (replicate n 0)
zeros zero = tt
zeros (suc n) = (omega arith, zeros n)

fills_zeros : (vs : List ℕ) → Fills bit vs (replicate (8 * octets bit (length vs) - length vs) 0)
fills_zeros vs = (zeros (8 * octets bit (length vs) - length vs), simp length-replicate (omega arith))

pub length_shown : (k : Kind) (vs : List ℕ) → length (shown k vs) ≡ octets k (length vs)
length_shown bit vs = length_cargo bit vs _ (fills_zeros vs)
length_shown word vs = length_cargo word vs [] refl

bytes_shown : (k : Kind) (vs : List ℕ) → All (Fits k) vs → Bytes (shown k vs)
bytes_shown bit vs p = bytes_cargo bit vs _ p (fills_zeros vs)
bytes_shown word vs p = bytes_cargo word vs [] p refl

octets_most : (k : Kind) (n : ℕ) → 1 ≤ n → n ≤ most_read k → octets k n ≤ 250
octets_most bit n l h = omega arith
octets_most word n l h = omega arith

code_byte : (t : Tab) → code (reads t) ≤ 4
code_byte coils = omega arith
code_byte discretes = omega arith
code_byte holdings = omega arith
code_byte inputs = omega arith

-- as many as fit behind a unit number
pub record Fitting (l : List ℕ) : Type 0 where
  pub low : 2 ≤ length l
  pub high : length l ≤ 252

-- values behind a function and a byte count
shown_fits : (c : ℕ) (k : Kind) (vs : List ℕ) → 1 ≤ length vs → length vs ≤ most_read k → Fitting (c ∷ octets k (length vs) ∷ shown k vs)
shown_fits c k vs l h =
    let n = octets_most k (length vs) l h in
    let m = length_shown k vs in
    record { low = omega arith; high = omega arith }

part_fits : (c : ℕ) (k : Kind) (f : ℕ → ℕ) (s n : ℕ) → 1 ≤ n → n ≤ most_read k
    → Fitting (c ∷ octets k (length (part f s n)) ∷ shown k (part f s n))
part_fits c k f s n l h = let m = length_part f s n in shown_fits c k (part f s n) (omega arith) (rw m h)

pub answer_fits : (a : Ask) (t : Tables) → Permitted a → Fitting (answer a (found a (seen (apply a t))))
answer_fits (read tab s n) t p = part_fits (code (reads tab)) (kind_of tab) (t tab) s n p.0 p.1
answer_fits (write k a v) t p = record { low = omega arith; high = omega arith }
answer_fits (writes k s ws) t p = record { low = omega arith; high = omega arith }
answer_fits (masks a x y) t p = record { low = omega arith; high = omega arith }
answer_fits (swaps r n s ws) t p = part_fits (code both) word (apply (swaps r n s ws) t holdings) r n p.0 p.1

part_bytes : (c : ℕ) (tab : Tab) (t : Tables) (s n : ℕ) → c < 256 → Proper t → 1 ≤ n → n ≤ most_read (kind_of tab)
    → Bytes (c ∷ octets (kind_of tab) (length (part (t tab) s n)) ∷ shown (kind_of tab) (part (t tab) s n))
part_bytes c tab t s n b proper l h =
    let m = length_part (t tab) s n in
    let k = octets_most (kind_of tab) n l h in
    (b, (rw m (omega arith), bytes_shown (kind_of tab) (part (t tab) s n) (part_all (t tab) (Fits (kind_of tab)) s n (proper tab))))

pub answer_bytes : (a : Ask) (t : Tables) (l : List ℕ) → Proper t → Permitted a → Encodes a l → Bytes l
    → Bytes (answer a (found a (seen (apply a t))))
answer_bytes (read tab s n) t l proper p e y =
    part_bytes (code (reads tab)) tab t s n (omega (arith, code_byte tab)) proper p.0 p.1
answer_bytes (write k a v) t l proper p (pad, q, e) y = rw e at y
answer_bytes (masks a v w) t l proper p (pad, q, e) y = rw e at y
answer_bytes (swaps r n s ws) t l proper p e y =
    part_bytes (code both) holdings (apply (swaps r n s ws) t) r n (omega arith) (assign_proper _ ws t p.4 proper) p.0 p.1
answer_bytes (writes k s ws) t l proper p (pad, q, e) y =
    let b = rw e at y in
    (b.0, (b.1.0, (b.1.1.0, (b.1.1.1.0, (b.1.1.1.1.0, tt)))))
