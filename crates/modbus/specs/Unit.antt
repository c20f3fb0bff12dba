-- Whom a unit number means (document 01, "Tables and setup"): one that stands in the list is a broadcast number, even our own; the list wins.
-- Assumes nothing.
use Rattle.std.specs.Prelude.{◌⊎◌, ◌≡◌, List, [], ◌∷◌, ℕ}
use Rattle.modbus.specs.Step.{◌≟◌, ◌or?◌}
use Rattle.modbus.specs.Setup.{Setup}

abbrev pub Listed : ℕ → List ℕ → Type 0
Listed u [] = ⊥
Listed u (x ∷ l) = (u ≡ x) ⊎ Listed u l

unfoldable pub listed? : (u : ℕ) (l : List ℕ) → Dec (Listed u l)
listed? u [] = no (λ h. h)
listed? u (x ∷ l) = (u ≟ x) or? listed? u l

unfoldable pub Broadcast : Setup → ℕ → Type 0
Broadcast s u = Listed u s.broadcasts

unfoldable pub broadcast? : (s : Setup) (u : ℕ) → Dec (Broadcast s u)
unfolding Broadcast
broadcast? s u = listed? u s.broadcasts

unfoldable pub Ours : Setup → ℕ → Type 0
Ours s u = u ≡ s.unit

unfoldable pub ours? : (s : Setup) (u : ℕ) → Dec (Ours s u)
unfolding Ours
ours? s u = u ≟ s.unit
