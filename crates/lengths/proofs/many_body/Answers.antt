-- `lengths::many_body` meets its contract: the two ways out are whether the byte count is there.
-- Assumes nothing.
use mathlib.Core.Path.{sym, ap}
use native.Mathlib.Omega.{arith}
use Rattle.modbus.specs.Paper.{told}
use Rattle.lengths.proofs.GuessLaws.{request_many, request_short}
use Rattle.lengths.proofs.many_body.Goals as goal

pub returns-then-b-lt7 : goal.returns-then-b-lt7
returns-then-b-lt7 c = sym (ap told (request_short _ c.requires (omega arith)))

pub returns : goal.returns
returns c = sym (ap told (request_many _ c.requires (omega arith)))
