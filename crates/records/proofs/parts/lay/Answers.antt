-- `records::parts::lay` meets its contract. The loop's invariant: the first i bytes are laid.
-- Assumes nothing.
use Rattle.std.proofs.Common.{ℕ, get_or, refl, arith, length-set}
use Rattle.records.proofs.PartsLaws.{laid_none, laid_more}
use Rattle.records.proofs.parts.lay.Goals as goal

pub loop-i-init : goal.loop-i-init
loop-i-init c = (omega arith, refl, laid_none _ _)

pub loop-i-preserved : goal.loop-i-preserved
loop-i-preserved c =
    let a = c.args in
    let l = c.loop-i in
    let f : ℕ → ℕ = λ j. get_or a.front.now j a.filler in (
      omega arith,
      simp length-set (omega arith),
      rw c.laid.ensures (laid_more f a.buffer.now _ l.i l.invariant.2 (omega arith)),
    )
