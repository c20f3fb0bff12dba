-- `ascii::reading::plain` meets its contract.
-- Assumes nothing.
use Rattle.std.proofs.Common.{arith}
use Rattle.std.proofs.lemmas.Slice.{between_is}
use Rattle.ascii.proofs.PlainLaws.{plain_by}
use Rattle.ascii.proofs.reading.plain.Goals as goal

pub returns : goal.returns
returns c = λ e.
    let a = c.args in
    plain_by a.«data».now _ _ _ _ c.colon-from.ensures.value (omega arith) (omega arith) (omega arith) (omega arith) (omega arith)
    (rw between_is at (c.all_digits.ensures e))
