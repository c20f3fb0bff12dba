-- `driver::tell::refused` meets its contract: the refusals that have a code.
-- Assumes nothing.
use Rattle.driver.proofs.tell.refused.Goals as goal

pub returns-in-Exception : goal.returns-in-Exception
returns-in-Exception c = rw c.in-Exception.is (rw c.from.ensures at c.pack.ensures)

pub returns-in-Ignored : goal.returns-in-Ignored
returns-in-Ignored c = rw c.in-Ignored.is (rw c.from-in-Ignored.ensures at c.pack-in-Ignored.ensures)
