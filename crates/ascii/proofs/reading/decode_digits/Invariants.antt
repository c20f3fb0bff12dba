-- `ascii::reading::decode_digits` meets its contract. The loop's invariant: the pairs before i are decoded, whatever the number of those to come.
-- Assumes nothing.
use Rattle.std.proofs.Common.{◌≡◌, ◌+◌, ◌-◌, ◌*◌, ◌≤◌, length}
use Rattle.ascii.proofs.PlainLaws.{Begun}
use Rattle.ascii.proofs.reading.decode_digits.Given as goal

abbrev pub invariant-loop-i : goal.invariant-loop-i
invariant-loop-i l = (l.i ≤ l.n) × (length l.buf ≡ length l.initial.buf) × Begun l.data l.from l.initial.buf l.at (l.from + 2 * l.i) l.buf (l.at + l.i)

abbrev pub decreases-loop-i : goal.decreases-loop-i
decreases-loop-i l = l.n - l.i
