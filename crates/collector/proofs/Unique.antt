-- Each contract leaves one possible result, and one possible content of every lent buffer.
-- Assumes nothing.
use mathlib.Core.Path.{refl, sym, ap, ◌∙◌}
use mathlib.Core.List.{List}
use Prim.Native.Nat.{ℕ}
use Rattle.modbus.proofs.Unique.{Unique, paper_law}
use Rattle.collector.specs.Collected.{Quieted}
use Rattle.collector.proofs.offer.Kinds as offer-kinds
use Rattle.collector.proofs.offer.Reads as offer-reads
use Rattle.collector.proofs.quiet.Kinds as quiet-kinds
use Rattle.collector.proofs.quiet.Reads as quiet-reads
use Rattle.collector.proofs.outcome_of.Kinds as outcome-of-kinds
use Rattle.collector.proofs.outcome_of.Reads as outcome-of-reads

pub offer : Unique 2 offer-kinds.ps offer-kinds.r offer-reads.Post
offer κs a x y u v p q =
    let e = p ∙ sym q in
    (paper_law x y (ap (λ (t : (ℕ × ℕ) × List ℕ). t.0) e), ap (λ (t : (ℕ × ℕ) × List ℕ). (t.1, u.1)) e)

-- the coils are the third of the parameters, the holdings the fifth, the collector the seventh and the reply buffer the last
pub quiet : Unique 7 quiet-kinds.ps quiet-kinds.r quiet-reads.Post
quiet κs a x y u v p q =
    let e = p ∙ sym q in
    let f = u.1.1.1 in
    let h = f.1.1 in (
      ap (λ (g : Quieted). g.closed) e,
      ap (λ (g : Quieted). (
        u.0,
        (u.1.0, (g.coil_bytes, (f.0, (g.holding_bytes, (h.0, (g.collector, (g.reply_bytes, h.1.1.1))))))),
      )) e,
    )

pub outcome_of : Unique 0 outcome-of-kinds.ps outcome-of-kinds.r outcome-of-reads.Post
outcome_of κs a x y u v p q = (p ∙ sym q, refl)
