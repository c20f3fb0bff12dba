-- `linecount::reading::keep` meets its contract.
-- Assumes nothing.
use Rattle.linecount.proofs.ReadingLaws.{waits, stays}
use Rattle.linecount.proofs.reading.keep.Goals as goal

pub returns-then-used-gt0 : goal.returns-then-used-gt0
returns-then-used-gt0 c = waits c.args.bytes.now c.copy_within.new.self c.args.used c.args.end c.requires.0 c.requires.1 c.copy_within.ensures.after

pub returns-else-used-gt0 : goal.returns-else-used-gt0
returns-else-used-gt0 c = stays c.args.bytes.now _ _ c.if-used-gt0.false
