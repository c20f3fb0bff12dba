-- `checks::calc_lrc` meets its contract. The loop's invariant: the running byte is the LRC of the bytes passed.
-- Assumes nothing.
use Rattle.std.proofs.Common.{◌≡◌, take}
use Rattle.modbus.specs.Check.{lrc}
use Rattle.checks.proofs.calc_lrc.Given as goal

abbrev pub invariant-loop-b : goal.invariant-loop-b
invariant-loop-b l = l.lrc ≡ lrc (take l.b-index l.b-items)
