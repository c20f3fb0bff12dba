-- `collector::waiting` meets its contract: nothing, or some bytes, all within the state.
-- Assumes nothing.
use native.Mathlib.Omega.{arith}
use Rattle.collector.proofs.CollectedLaws.{held_short}
use Rattle.collector.proofs.waiting.Goals as goal

pub returns-then-state-lt-STATE : goal.returns-then-state-lt-STATE
returns-then-state-lt-STATE c = held_short _ (omega arith)
