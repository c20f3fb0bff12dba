-- `client::lay::cell` meets its contract, by the kind.
-- Assumes nothing.
use mathlib.Core.Path.{◌∙◌}
use Rattle.client.proofs.LayLaws.{cell_word}
use Rattle.client.proofs.lay.cell.Goals as goal

pub returns-in-Words : goal.returns-in-Words
returns-in-Words c = let a = c.args in c.word.ensures ∙ cell_word a.kind a.bytes.now a.i c.in-Words.is
