-- `response::extend` meets its contract.
-- Assumes nothing.
use Rattle.std.proofs.Common.{sym, ap, arith}
use Rattle.modbus.specs.Paper.{told_with}
use Rattle.response.proofs.BoundedLaws.{extended_fits, extended_none}
use Rattle.response.proofs.extend.Goals as goal
use Rattle.response.proofs.extend.Goals.{then-response-len-via-then-response-len, then-response-len-via-else-response-len+then-response-len-2}

pub returns-then-response-len : goal.returns-then-response-len
returns-then-response-len c =
    sym
    (ap (told_with _)
    (extended_none _ _ _
    (elim c.then-response-len.branch [
      | then-response-len-via-then-response-len w ↦ omega arith
      | then-response-len-via-else-response-len+then-response-len-2 w ↦ omega arith
    ])))

pub returns : goal.returns
returns c = rw c.copy.ensures (sym (ap (told_with _) (extended_fits _ _ _ (omega arith))))
