-- The tables' calls on both sides of their numbers, by computation over whole lists. What `read_registers` names: function 3 the holdings, 4 the
-- inputs, their neighbours nothing; the last cell and one beyond; a table of 65,536 cells at most. And which fault of a call is told first.
-- Assumes nothing.
use mathlib.Core.Path.{◌≡◌, refl}
use mathlib.Core.List.{List, [], ◌∷◌}
use mathlib.Core.Logic.Dec
use Prim.Native.Nat.{ℕ}
use native.Mathlib.Decide.{dec_le, ℕ_discrete}
use denote.Ref.{Bor}
use Rattle.modbus.specs.Step.{Step, go, ◌>>=◌, ◌>>◌, need, choose}
use Rattle.modbus.specs.Paper.{told}
use Rattle.modbus.specs.Storage.{packed, registers, coil_at, register_at, size}
use Rattle.modbus.specs.declared.ErrorKind.{ErrorKind}
use Rattle.tables.specs.Calls.{got, added, named}

-- bytes lent at a place
abbrev lent_at : ℕ → List ℕ → Bor (List ℕ)
lent_at block l = record { ref_ptr = (block, 0); now = l }

-- holdings 0102 0304 in block 1, inputs 0506 in block 2; what a read of function fn names, and where it stands
abbrev reading : ℕ → ℕ → ℕ → ℕ → ℕ → List ℕ × (ℕ × ℕ)
reading holding_cells input_cells fn reg count = named (lent_at 1 (1 ∷ 2 ∷ 3 ∷ 4 ∷ [])) holding_cells (lent_at 2 (5 ∷ 6 ∷ [])) input_cells fn reg count

pub boundaries :
    ◌≡◌ {A = List (List ℕ × (ℕ × ℕ))}
    (reading 2 1 2 0 1
    ∷ reading 2 1 3 0 1
    ∷ reading 2 1 4 0 1
    ∷ reading 2 1 5 0 1
    ∷ reading 2 1 3 1 1
    ∷ reading 2 1 3 1 2
    ∷ reading 2 1 4 1 0
    ∷ reading 2 1 4 1 1
    ∷ reading 3 1 3 0 1
    ∷ reading 2 65537 4 0 1
    ∷ [])
    (([], (1, 0))
    ∷ (1 ∷ 2 ∷ [], (1, 0))
    ∷ (5 ∷ 6 ∷ [], (2, 0))
    ∷ ([], (1, 0))
    ∷ (3 ∷ 4 ∷ [], (1, 2))
    ∷ ([], (1, 0))
    ∷ ([], (2, 2))
    ∷ ([], (2, 0))
    ∷ ([], (1, 0))
    ∷ ([], (2, 0))
    ∷ [])
unfolding Dec.and dec_le ℕ_discrete choose size named
boundaries = refl

-- a table of 65,537 cells counts as one of none, however many bytes it has
pub too_many : (l : List ℕ) → (size packed l 65537 ≡ 0) × (size registers l 65537 ≡ 0)
unfolding Dec.and dec_le choose size
too_many l = (refl, refl)

-- the last of ten coils and of two holdings, and one beyond
pub cells :
    ◌≡◌ {A = List (ℕ × ℕ)}
    (told (got packed (0 ∷ 2 ∷ []) 10 9)
    ∷ told (got packed (0 ∷ 2 ∷ []) 10 10)
    ∷ told (got registers (1 ∷ 2 ∷ 3 ∷ 4 ∷ []) 2 1)
    ∷ told (got registers (1 ∷ 2 ∷ 3 ∷ 4 ∷ []) 2 2)
    ∷ [])
    ((0, 1) ∷ (22, 0) ∷ (0, 772) ∷ (22, 0) ∷ [])
unfolding Dec.and dec_le ℕ_discrete ◌>>=◌ ◌>>◌ need choose coil_at register_at size got
cells = refl

-- holdings 0102 0304 added to a response of three bytes that has so many: the range comes before the room, and a length beyond the slice before both
abbrev adding : ℕ → ℕ → ℕ → Step ErrorKind ℕ
adding reg count len = added registers (1 ∷ 2 ∷ 3 ∷ 4 ∷ []) 2 reg count (0 ∷ 0 ∷ 0 ∷ []) len >>= λ r. go r.0

pub first_fault :
    ◌≡◌ {A = List (ℕ × ℕ)}
    (told (adding 1 1 1) ∷ told (adding 1 1 2) ∷ told (adding 1 2 2) ∷ told (adding 1 2 4) ∷ told (adding 0 0 4) ∷ told (adding 2 0 3) ∷ [])
    ((0, 3) ∷ (21, 0) ∷ (22, 0) ∷ (21, 0) ∷ (21, 0) ∷ (0, 3) ∷ [])
unfolding Dec.and dec_le ℕ_discrete ◌>>=◌ ◌>>◌ need choose size added
first_fault = refl
