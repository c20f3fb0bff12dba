-- `collector::count_of` meets its contract: a state too short or a count too large holds nothing.
-- Assumes nothing.
use native.Mathlib.Omega.{arith}
use Rattle.collector.proofs.CollectedLaws.{held_short, held_over, held_some}
use Rattle.collector.proofs.count_of.Goals as goal

pub returns-then-state-lt-STATE : goal.returns-then-state-lt-STATE
returns-then-state-lt-STATE c = (omega arith, held_short _ (omega arith))

pub returns-then-n-gt-MOST : goal.returns-then-n-gt-MOST
returns-then-n-gt-MOST c = (omega arith, held_over _ (omega (arith, c.word-n.ensures)))

pub returns : goal.returns
returns c = (omega arith, rw c.word-n.ensures (held_some _ (omega arith) (omega (arith, c.word-n.ensures))))
