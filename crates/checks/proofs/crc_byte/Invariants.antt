-- `checks::crc_byte` meets its contract. The loop's invariant: the shifts that are left take the register to the result.
-- Assumes nothing.
use Rattle.std.proofs.Common.{◌≡◌, ◌-◌, ◌≤◌}
use Rattle.modbus.specs.Check.{shifts, crc_byte}
use Rattle.checks.proofs.crc_byte.Given as goal

abbrev pub invariant-loop : goal.invariant-loop
invariant-loop l = (l.counter ≤ 8) × (shifts (8 - l.counter) l.c ≡ crc_byte l.crc l.b)

abbrev pub decreases-loop : goal.decreases-loop
decreases-loop l = 8 - l.counter
