-- `driver::tell::wrote` meets its contract: to a broadcast number it is outcome 1.
-- Assumes nothing.
use Rattle.driver.proofs.tell.wrote.Goals as goal

pub returns-then-broadcast : goal.returns-then-broadcast
returns-then-broadcast c = rw c.if-broadcast.true c.pack.ensures

pub returns : goal.returns
returns c = rw c.if-broadcast.false c.pack-2.ensures
