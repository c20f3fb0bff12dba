-- `ascii::put_text` meets its contract.
-- Assumes nothing.
use Rattle.std.proofs.Common.{arith}
use Rattle.ascii.proofs.ReadingLaws.{text_room, text_no_room}
use Rattle.ascii.proofs.put_text.Goals as goal
use Rattle.ascii.proofs.put_text.Goals.{then-dst-at-via-then-dst-at, then-dst-at-via-else-dst-at+then-dst-at-2}

pub returns-then-dst-at : goal.returns-then-dst-at
returns-then-dst-at c =
    let a = c.args in
    text_no_room a.dst.now a.at a.bytes.now
    (elim c.then-dst-at.branch [
      | then-dst-at-via-then-dst-at w ↦ omega arith
      | then-dst-at-via-else-dst-at+then-dst-at-2 w ↦ omega arith
    ])

pub returns : goal.returns
returns c =
    let a = c.args in
    text_room a.dst.now a.at a.bytes.now _ (omega arith) c.lay_text.ensures
