-- `ascii::reading::decode_pairs` meets its contract.
-- Assumes nothing.
use Rattle.std.proofs.Common.{length, ap, ◌∙◌, arith, length-set, length-append, add-one}
use Rattle.ascii.proofs.PlainLaws.{chunk_digits, chunk_values, values_none}
use Rattle.ascii.proofs.reading.decode_pairs.Goals as goal

pub loop-i-preserved : goal.loop-i-preserved
loop-i-preserved c =
    let t = c.in-Some.ensures.steps in
    let inv = c.loop-i.invariant in
    let two = t.0.1.1 ∙ inv.0 in
    let d = chunk_digits _ _ _ t.0.1.0 two inv.2 in
    let n = simp length-append at (ap length t.0.1.0) in (
      t.0.0 ∙ inv.0,
      rw (t.2, length-set) (omega arith),
      d.2,
      rw (t.2, add-one, t.1, c.half.ensures.0, c.half-in-loop-i.ensures.0) (rw (chunk_values _ _ _ t.0.1.0 two) at inv.3),
    )

pub returns : goal.returns
returns c =
    let t = c.in-None.ensures.steps in
    let inv = c.loop-i.invariant in
    values_none _ _ _ _ (omega arith) inv.3
