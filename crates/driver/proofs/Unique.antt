-- The contract of a call leaves one possible result, and one possible content of the reply buffer, of the coils and of the holdings.
-- Assumes nothing.
use mathlib.Core.Path.{sym, ap, ◌∙◌}
use Rattle.modbus.proofs.Unique.{Unique}
use Rattle.driver.specs.Driven.{Leaves}
use Rattle.driver.proofs.drive.Kinds as drive-kinds
use Rattle.driver.proofs.drive.Reads as drive-reads

-- the coils are the third of the parameters, the holdings the fifth and the reply buffer the last
pub drive : Unique 7 drive-kinds.ps drive-kinds.r drive-reads.Post
drive κs a x y u v p q =
    let e = p ∙ sym q in
    let f = u.1.1.1 in
    let h = f.1.1 in (
      ap (λ (g : Leaves). g.result) e,
      ap (λ (g : Leaves). (
        u.0,
        (u.1.0, (g.coil_bytes, (f.0, (g.holding_bytes, (h.0, (h.1.0, (g.reply_bytes, h.1.1.1))))))),
      )) e,
    )
