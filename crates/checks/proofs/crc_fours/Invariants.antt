-- `checks::crc_fours` meets its contract. The loop's invariant: the bytes that are left take the register to the result.
-- Assumes nothing.
use Rattle.std.proofs.Common.{◌≡◌, ◌-◌, ◌*◌, ◌/◌, ◌≤◌, take, drop}
use Rattle.modbus.specs.Check.{crc_from, crc}
use Rattle.checks.proofs.crc_fours.Given as goal

abbrev pub invariant-loop-k : goal.invariant-loop-k
invariant-loop-k l = (l.k ≤ l.n / 4) × (crc_from l.c (drop (4 * l.k) (take l.n l.frame)) ≡ crc (take l.n l.frame))

abbrev pub decreases-loop-k : goal.decreases-loop-k
decreases-loop-k l = l.n / 4 - l.k
