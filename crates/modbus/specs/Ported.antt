-- The eight functions that the crate rmodbus knows (source 000, server/mod.rs), and their numbers. The ported calls know these and no others,
-- whatever the driver offers beside them.
-- Assumes nothing.
use Rattle.std.specs.Prelude.{List, [], ◌∷◌, ℕ}
use Rattle.modbus.specs.Table.{Kind, bit, word, Tab, coils, discretes, holdings, inputs}

pub data Ported : Type 0 where
  reads : Tab → Ported
  one many : Kind → Ported

abbrev pub code_of : Ported → ℕ
code_of (reads coils) = 1
code_of (reads discretes) = 2
code_of (reads holdings) = 3
code_of (reads inputs) = 4
code_of (one bit) = 5
code_of (one word) = 6
code_of (many bit) = 15
code_of (many word) = 16

abbrev pub all_ported : List Ported
all_ported = reads coils ∷ reads discretes ∷ reads holdings ∷ reads inputs ∷ one bit ∷ one word ∷ many bit ∷ many word ∷ []
