-- `changes` (source 000): the cells that a request changes; a write that parse refused is told too.
-- Assumes nothing.
use Rattle.std.specs.Prelude.{List, [], ◌∷◌, ℕ, Option, Some, None}
use Rattle.modbus.specs.Table.{Kind, bit, word}
use Rattle.modbus.specs.Ported.{Ported, reads, one, many}
use Rattle.frame.specs.declared.changes.Changes.{Changes}
use Rattle.frame.specs.declared.changes.Changes.TheVariants.{Coils, Holdings}

abbrev pub kind_number : Kind → ℕ
kind_number bit = 0
kind_number word = 1

-- 0 for coils and 1 for holdings, the first cell, how many
abbrev pub changes_paper : Option Changes → List ℕ
changes_paper None = []
changes_paper (Some (Coils reg count)) = 0 ∷ reg ∷ count ∷ []
changes_paper (Some (Holdings reg count)) = 1 ∷ reg ∷ count ∷ []

abbrev pub changes_by : Ported → ℕ → ℕ → List ℕ
changes_by (reads t) reg count = []
changes_by (one k) reg count = kind_number k ∷ reg ∷ 1 ∷ []
changes_by (many k) reg count = kind_number k ∷ reg ∷ count ∷ []
