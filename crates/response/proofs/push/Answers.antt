-- `response::push` meets its contract: it extends by one byte.
-- Assumes nothing.
use mathlib.Core.Path.{sym, ap}
use native.Mathlib.Omega.{arith}
use Rattle.modbus.specs.Paper.{told_with}
use Rattle.response.proofs.BoundedLaws.{extended_fits, extended_none}
use Rattle.response.proofs.push.Goals as goal

pub returns-then-response-len : goal.returns-then-response-len
returns-then-response-len c = sym (ap (told_with _) (extended_none _ _ _ (omega arith)))

pub returns : goal.returns
returns c = sym (ap (told_with _) (extended_fits _ _ _ (omega arith)))
