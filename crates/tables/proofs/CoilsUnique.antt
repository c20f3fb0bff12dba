-- Each contract of the coils leaves one possible answer, and one possible content of every lent buffer.
-- Assumes nothing.
use mathlib.Core.Path.{refl, sym, ap, ◌∙◌}
use mathlib.Core.List.{List}
use Prim.Native.Nat.{ℕ}
use Rattle.modbus.proofs.Unique.{Unique, bit_paper_law, done_paper_law, paper_law}
use Rattle.tables.proofs.coils.get_coil.Kinds as get-coil-kinds
use Rattle.tables.proofs.coils.get_coil.Reads as get-coil-reads
use Rattle.tables.proofs.coils.set_coil.Kinds as set-coil-kinds
use Rattle.tables.proofs.coils.set_coil.Reads as set-coil-reads
use Rattle.tables.proofs.coils.get_coils_as_u8.Kinds as get-coils-kinds
use Rattle.tables.proofs.coils.get_coils_as_u8.Reads as get-coils-reads
use Rattle.tables.proofs.coils.get_discretes_as_u8.Kinds as get-discretes-kinds
use Rattle.tables.proofs.coils.get_discretes_as_u8.Reads as get-discretes-reads
use Rattle.tables.proofs.coils.set_coils_from_u8.Kinds as set-coils-kinds
use Rattle.tables.proofs.coils.set_coils_from_u8.Reads as set-coils-reads

-- an answer in numbers, and what a buffer holds
abbrev Told : Type 0
Told = (ℕ × ℕ) × List ℕ

pub get_coil : Unique 1 get-coil-kinds.ps get-coil-kinds.r get-coil-reads.Post
get_coil κs a x y u v p q = (bit_paper_law x y (p ∙ sym q), refl)

pub set_coil : Unique 1 set-coil-kinds.ps set-coil-kinds.r set-coil-reads.Post
set_coil κs a x y u v p q =
    let e = p ∙ sym q in
    (done_paper_law x y (ap (λ (t : Told). t.0) e), ap (λ (t : Told). (t.1, u.1)) e)

pub get_coils_as_u8 : Unique 2 get-coils-kinds.ps get-coils-kinds.r get-coils-reads.Post
get_coils_as_u8 κs a x y u v p q =
    let e = p ∙ sym q in
    let rest = u.1.1.1 in (
      paper_law x y (ap (λ (t : Told). t.0) e),
      ap (λ (t : Told). (u.0, (u.1.0, (u.1.1.0, (rest.0, (t.1, rest.1.1)))))) e,
    )

pub get_discretes_as_u8 : Unique 2 get-discretes-kinds.ps get-discretes-kinds.r get-discretes-reads.Post
get_discretes_as_u8 κs a x y u v p q =
    let e = p ∙ sym q in
    let rest = u.1.1.1 in (
      paper_law x y (ap (λ (t : Told). t.0) e),
      ap (λ (t : Told). (u.0, (u.1.0, (u.1.1.0, (rest.0, (t.1, rest.1.1)))))) e,
    )

pub set_coils_from_u8 : Unique 2 set-coils-kinds.ps set-coils-kinds.r set-coils-reads.Post
set_coils_from_u8 κs a x y u v p q =
    let e = p ∙ sym q in
    (done_paper_law x y (ap (λ (t : Told). t.0) e), ap (λ (t : Told). (t.1, u.1)) e)
