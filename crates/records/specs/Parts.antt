-- The numbers and the parts of a record, and what a laid buffer holds.
-- Assumes nothing.
use Rattle.std.specs.Prelude.{ℕ, zero, suc, ◌+◌, ◌-◌, ◌*◌, ◌%◌, Bool, true, false, List, [], ◌∷◌, ◌++◌, length, get_or, take, drop, slice_index_or}
use Rattle.std.specs.Borrow.{Bor}
use Rattle.modbus.specs.Bytes.{word_at}
use Rattle.modbus.specs.Step.{choose, ◌≤?◌, ◌and?◌, same?}

-- numbers of four and of eight bytes, high byte first; a byte outside counts as 0
abbrev pub wide_at : List ℕ → ℕ → ℕ
wide_at l i = word_at l i * 65536 + word_at l (i + 2)

abbrev pub eight_at : List ℕ → ℕ → ℕ
eight_at l i = wide_at l i * 4294967296 + wide_at l (i + 4)

-- how long the part k is, and where it begins: behind the parts before it
abbrev pub length_of : List ℕ → ℕ → ℕ → ℕ
length_of l lengths k = word_at l (lengths + 2 * k)

unfoldable pub part_start : List ℕ → ℕ → ℕ → ℕ → ℕ
part_start l lengths parts zero = parts
part_start l lengths parts (suc k) = part_start l lengths parts k + length_of l lengths k

-- so many bytes from a place on, and where they stand, so it is no copy; none where they are not all there
abbrev pub cut_of : Bor (List ℕ) → ℕ → ℕ → List ℕ × (ℕ × ℕ)
cut_of t from len =
    choose (from + len ≤? length t.now) (take len (drop from t.now), (t.ref_ptr.0, from + t.ref_ptr.1))
    ([], (t.ref_ptr.0, 0 + t.ref_ptr.1))

abbrev pub part_of : Bor (List ℕ) → ℕ → ℕ → ℕ → List ℕ × (ℕ × ℕ)
part_of t lengths parts k = cut_of t (part_start t.now lengths parts k) (length_of t.now lengths k)

-- n bytes, each said by its place
unfoldable pub made : (ℕ → ℕ) → ℕ → List ℕ
made f zero = []
made f (suc n) = made f n ++ (f n ∷ [])

-- a buffer that holds `front`, and then the byte `filler` to its end
abbrev pub laid_in : List ℕ → List ℕ → ℕ → List ℕ
laid_in buffer front filler = made (λ i. get_or front i filler) (length buffer)

-- the same with the bytes 5A, 5B and so on behind it, each by its place
abbrev pub counted_in : List ℕ → List ℕ → List ℕ
counted_in buffer front = made (λ i. get_or front i ((90 + i) % 256)) (length buffer)

-- the byte i where `front` was laid with `filler` behind it, and then `after` came to stand from `at` on
abbrev pub wanted_at : List ℕ → ℕ → ℕ → List ℕ → ℕ → ℕ
wanted_at front filler at after i =
    choose (suc i ≤? at) (slice_index_or front i filler) (slice_index_or after (i - at) (slice_index_or front i filler))

-- whether the buffer holds such bytes, and all of `after`
abbrev pub stood : List ℕ → List ℕ → ℕ → ℕ → List ℕ → Bool
stood buffer front filler at after =
    let n = length buffer in
    choose ((at + length after ≤? n) and? same? buffer (made (wanted_at front filler at after) n)) true false
