-- `linecount::reading::read_log` meets its contract: turn by turn.
-- Assumes nothing.
use Rattle.std.proofs.Common.{◌++◌, arith}
use Rattle.linecount.proofs.ReadingLaws.{go_on_behind}
use Rattle.linecount.proofs.reading.read_log.Goals as goal

pub loop-turn-preserved : goal.loop-turn-preserved
loop-turn-preserved c =
    let (k, (a, e)) = c.loop-turn.invariant in
    let (b, n, s) = c.in_ok-turn.ensures.continues in
    (omega (arith, k, n, c.in_ok-turn.ensures.moves, c.if-branch-eq0.false), (a ++ b, go_on_behind _ _ _ _ a b e _ _ s))
