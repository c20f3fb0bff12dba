-- `response::copy_power` meets its contract: the quotient by k is even, or it is odd.
-- Assumes nothing.
use Rattle.std.proofs.Common.{length, arith}
use Rattle.response.proofs.BoundedLaws.{power_none, power_one, power_within}
use Rattle.response.proofs.copy_power.Goals as goal

pub returns-then-src-k-eq0-clause-value : goal.returns-then-src-k-eq0-clause-value
returns-then-src-k-eq0-clause-value c = omega (arith, power_none (length c.args.src.now) c.args.k c.if-src-k-eq0.true)

pub slice_bounds-copy_block-end : goal.slice_bounds-copy_block-end
slice_bounds-copy_block-end c = omega (arith, power_within (length c.args.src.now) c.args.k c.if-src-k-eq0.false)

pub returns-clause-value : goal.returns-clause-value
returns-clause-value c = omega (arith, power_one (length c.args.src.now) c.args.k c.if-src-k-eq0.false)
