-- `records::parts::lay_counted` meets its contract. The loop's invariant: the first i bytes are laid.
-- Assumes nothing.
use Rattle.std.proofs.Common.{◌≡◌, ℕ, ◌+◌, ◌%◌, get_or, refl, arith, length-set}
use Rattle.records.proofs.PartsLaws.{laid_none, laid_more}
use Rattle.records.proofs.parts.lay_counted.Goals as goal

pub loop-i-init : goal.loop-i-init
loop-i-init c = (omega arith, refl, laid_none _ _)

pub loop-i-preserved : goal.loop-i-preserved
loop-i-preserved c =
    let a = c.args in
    let l = c.loop-i in
    let f : ℕ → ℕ = λ j. get_or a.front.now j ((90 + j) % 256) in
    let k : (90 + l.i % 256) % 256 ≡ (90 + l.i) % 256 = omega arith in (
      omega arith,
      simp length-set (omega arith),
      rw (c.laid.ensures, k) (laid_more f a.buffer.now _ l.i l.invariant.2 (omega arith)),
    )
