-- Each contract leaves one possible result.
-- Assumes nothing.
use mathlib.Core.Path.{◌≡◌, refl, sym, ap, ◌∙◌}
use Rattle.modbus.proofs.Unique.{Unique}
use Rattle.logs.specs.Search.{Seen, none, stood, paper}
use Rattle.std.specs.Prelude.{Option, Some, None}
use Rattle.logs.specs.declared.search.Frame.{Frame}
use Rattle.logs.proofs.look.Kinds as look-kinds
use Rattle.logs.proofs.look.Reads as look-reads
use Rattle.logs.proofs.search.first_frame.Kinds as first-frame-kinds
use Rattle.logs.proofs.search.first_frame.Reads as first-frame-reads

-- the way back from what is seen
abbrev found : Seen → Option Frame
found none = None
found (stood s n) = Some (record { start = s; len = n })

back : (x : Option Frame) → found (paper x) ≡ x
back (Some f) = refl
back None = refl

pub look : Unique 1 look-kinds.ps look-kinds.r look-reads.Post
look κs a x y u v p q = (p ∙ sym q, refl)

pub first_frame : Unique 1 first-frame-kinds.ps first-frame-kinds.r first-frame-reads.Post
first_frame κs a x y u v p q = (sym (back x) ∙ ap found (p ∙ sym q) ∙ back y, refl)
