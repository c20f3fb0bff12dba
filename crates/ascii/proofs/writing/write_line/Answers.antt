-- `ascii::writing::write_line` meets its contract: the text goes between the colon and the end of the line.
-- Assumes nothing.
use Rattle.ascii.proofs.ReadingLaws.{text_ended}
use Rattle.ascii.proofs.writing.write_line.Goals as goal

pub returns : goal.returns
returns c =
    let a = c.args in
    text_ended a.«data».now a.res.now _ c.lay_text.ensures
