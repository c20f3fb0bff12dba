-- `checks::crc_four` meets its contract. The loop's invariant: the shifts that are left take the register to the result.
-- Assumes nothing.
use Rattle.std.proofs.Common.{◌≡◌, ◌-◌, ◌≤◌}
use Rattle.modbus.specs.Check.{shifts, crc_byte}
use Rattle.checks.proofs.crc_four.Given as goal

abbrev pub invariant-loop : goal.invariant-loop
invariant-loop l = (l.counter ≤ 32) × (shifts (32 - l.counter) l.c ≡ crc_byte (crc_byte (crc_byte (crc_byte l.crc l.first) l.second) l.third) l.fourth)

abbrev pub decreases-loop : goal.decreases-loop
decreases-loop l = 32 - l.counter
