-- Each contract of module 7 leaves one possible result, and one possible content of the lent response.
-- Assumes nothing.
use mathlib.Core.Path.{◌≡◌, refl, sym, ap, ◌∙◌}
use mathlib.Core.Bool.{cond}
use mathlib.Core.List.{List, [], ◌∷◌}
use Prim.Native.Nat.{ℕ}
use lib.Dec.{eqb}
use lib.ListN.{get_or}
use Rattle.modbus.proofs.Unique.{Unique, back, refused_back, by_back}
use Rattle.external.specs.External.{data_paper, read_answer_paper, write_answer_paper, Described, described}
use Rattle.frame.specs.declared.ModbusFrame.{ModbusFrame}
use Rattle.external.specs.declared.Data.{Data}
use Rattle.external.specs.declared.Data.TheVariants as place
use Rattle.external.specs.declared.Write.{Write}
use Rattle.external.specs.declared.Write.TheVariants as write
use Rattle.external.specs.declared.Read.{Read}
use Rattle.external.specs.declared.Read.TheVariants as read
use Rattle.std.specs.Prelude.{Result, Ok, Err}
use Rattle.modbus.specs.declared.ErrorKind.{ErrorKind}
use Rattle.frame.proofs.Unique.{left_paper_law}
use Rattle.external.proofs.set_modbus_error_if_unset.Kinds as set-error-kinds
use Rattle.external.proofs.set_modbus_error_if_unset.Reads as set-error-reads
use Rattle.external.proofs.process_external_read.Kinds as process-read-kinds
use Rattle.external.proofs.process_external_read.Reads as process-read-reads
use Rattle.external.proofs.process_external_write.Kinds as process-write-kinds
use Rattle.external.proofs.process_external_write.Reads as process-write-reads
use Rattle.external.proofs.get_external_read.Kinds as get-read-kinds
use Rattle.external.proofs.get_external_read.Reads as get-read-reads
use Rattle.external.proofs.get_external_write.Kinds as get-write-kinds
use Rattle.external.proofs.get_external_write.Reads as get-write-reads

-- ---- the way back from the numbers

abbrev read_turned : List ℕ → Read
read_turned l =
    cond (eqb (get_or l 0 0) 0)
    (read.Bits record { address = get_or l 1 0; count = get_or l 2 0; at = get_or l 3 0; len = get_or l 4 0 })
    (read.Words record { address = get_or l 1 0; count = get_or l 2 0; at = get_or l 3 0; len = get_or l 4 0 })

abbrev data_back : List ℕ → Data
data_back l = cond (eqb (get_or l 3 0) 0) (place.Value (get_or l 4 0)) (place.Place (get_or l 4 0) (get_or l 5 0))

abbrev write_back : List ℕ → Write
write_back l =
    cond (eqb (get_or l 0 0) 0) (write.Bits record { address = get_or l 1 0; count = get_or l 2 0; «data» = data_back l })
    (write.Words record { address = get_or l 1 0; count = get_or l 2 0; «data» = data_back l })

abbrev read_answer_back : ℕ × List ℕ → Result Read ErrorKind
read_answer_back = back (λ l. Ok (read_turned l)) Err

abbrev write_answer_back : ℕ × List ℕ → Result Write ErrorKind
write_answer_back = back (λ l. Ok (write_back l)) Err

read_back : (x : Result Read ErrorKind) → read_answer_back (read_answer_paper x) ≡ x
read_back (Ok (read.Bits r)) = refl
read_back (Ok (read.Words r)) = refl
read_back (Err k) = refused_back (λ l. Ok (read_turned l)) Err [] k

data_back_law : (k address count : ℕ) (d : Data) → data_back (k ∷ address ∷ count ∷ data_paper d) ≡ d
data_back_law k address count (place.Value v) = refl
data_back_law k address count (place.Place at n) = refl

write_back_law : (x : Result Write ErrorKind) → write_answer_back (write_answer_paper x) ≡ x
write_back_law (Ok (write.Bits w)) =
    ap (λ (d : Data). Ok (write.Bits record { address = w.address; count = w.count; «data» = d }))
    (data_back_law 0 w.address w.count w.«data»)
write_back_law (Ok (write.Words w)) =
    ap (λ (d : Data). Ok (write.Words record { address = w.address; count = w.count; «data» = d }))
    (data_back_law 1 w.address w.count w.«data»)
write_back_law (Err k) = refused_back (λ l. Ok (write_back l)) Err [] k

-- what a call leaves, told apart by its numbers and the slice's bytes: `lasts` puts the state and the slice in their places
module _ {A U : Type 0} (paper : A → ℕ × List ℕ) (way : ℕ × List ℕ → A) (ways : (a : A) → way (paper a) ≡ a)
    (lasts : ModbusFrame → List ℕ → U) where
  described_apart : (a b : A) (s t : ModbusFrame) (l m : List ℕ) → described (paper a) s l ≡ described (paper b) t m
      → (a ≡ b) × (lasts s l ≡ lasts t m)
  described_apart a b s t l m e = (
    by_back paper way ways a b (ap (λ (f : Described). (f.left.kind, f.numbers)) e),
    ap (λ (f : Described). lasts f.left.frame f.left.out) e,
  )

-- ---- the public functions

pub set_modbus_error_if_unset : Unique 2 set-error-kinds.ps set-error-kinds.r set-error-reads.Post
set_modbus_error_if_unset κs a x y u v p q =
    left_paper_law (λ s l. (s, (u.1.0, (l, u.1.1.1)))) x y _ _ _ _ (p ∙ sym q)

pub process_external_read : Unique 2 process-read-kinds.ps process-read-kinds.r process-read-reads.Post
process_external_read κs a x y u v p q =
    left_paper_law (λ s l. (s, (u.1.0, (l, u.1.1.1)))) x y _ _ _ _ (p ∙ sym q)

pub process_external_write : Unique 3 process-write-kinds.ps process-write-kinds.r process-write-reads.Post
process_external_write κs a x y u v p q =
    left_paper_law (λ s l. (s, (u.1.0, (u.1.1.0, (l, u.1.1.1.1))))) x y _ _ _ _ (p ∙ sym q)

pub get_external_read : Unique 3 get-read-kinds.ps get-read-kinds.r get-read-reads.Post
get_external_read κs a x y u v p q =
    described_apart read_answer_paper read_answer_back read_back (λ s l. (s, (u.1.0, (l, u.1.1.1)))) x y _ _ _ _ (p ∙ sym q)

pub get_external_write : Unique 3 get-write-kinds.ps get-write-kinds.r get-write-reads.Post
get_external_write κs a x y u v p q =
    described_apart write_answer_paper write_answer_back write_back_law (λ s l. (s, (u.1.0, (l, u.1.1.1)))) x y _ _ _ _ (p ∙ sym q)
