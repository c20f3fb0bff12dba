-- `external::reads::add_room` meets its contract: a sum that overflows is more than there is room for.
-- Assumes nothing.
use mathlib.Core.Path.{sym}
use native.Mathlib.Omega.{arith}
use Rattle.external.proofs.ReadLaws.{room_none}
use Rattle.external.proofs.reads.add_room.Goals as goal

pub returns-in_default : goal.returns-in_default
returns-in_default c = sym (room_none _ _ _ (omega (arith, c.in_default.ensures)))
