-- `response::copy_block` meets its contract.
-- Assumes nothing.
use Rattle.std.proofs.Common.{◌≡◌, length, take, ap, ◌∙◌, arith, length-set}
use lib.Seq.{sets, take_all}
use Rattle.response.proofs.BoundedLaws.{read_more, copied_more, copied_all}
use Rattle.response.proofs.copy_block.Goals as goal

pub loop-i-preserved : goal.loop-i-preserved
loop-i-preserved c = (simp length-set c.loop-i.invariant.0, read_more _ _ _ c.loop-i.invariant.1 (omega arith) c.loop-i-test.true)

pub loop-i-2-preserved : goal.loop-i-2-preserved
loop-i-2-preserved c = copied_more _ _ _ _ c.loop-i-2.i c.loop-i-2.invariant (omega arith)

pub returns : goal.returns
returns c =
    let a = c.args in
    let i : c.loop-i.i ≡ length a.bytes.now = omega arith in
    let e = rw i at c.loop-i.invariant.1 in
    copied_all _ _ a.at (take (length a.bytes.now) c.loop-i.block) c.loop-i-2.i c.loop-i-2.invariant c.loop-i-2-test.false
    ∙ ap (sets a.dst.now a.at) (e ∙ take_all _ _ (omega arith))
