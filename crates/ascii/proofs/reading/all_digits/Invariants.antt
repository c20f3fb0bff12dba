-- `ascii::reading::all_digits` meets its contract. The loop's invariant: if there was no other character and digits are left, all are digits.
-- Assumes nothing.
use Rattle.std.proofs.Common.{◌≡◌, drop}
use Rattle.modbus.specs.Bytes.{All}
use Rattle.ascii.specs.Plain.{Digit}
use Rattle.ascii.proofs.reading.all_digits.Given as goal

abbrev pub invariant-loop-c : goal.invariant-loop-c
invariant-loop-c l = l.others ≡ 0 → All Digit (drop l.c-index l.text) → All Digit l.text
