-- `records::parts::stands` meets its contract. The loop's invariant: the first i bytes are those that are wanted.
-- Assumes nothing.
use Rattle.std.proofs.Common.{◌≡◌, ◌-◌, ◌≤◌, length, take}
use Rattle.records.specs.Parts.{made, wanted_at}
use Rattle.records.proofs.parts.stands.Given as goal

abbrev pub invariant-loop-i : goal.invariant-loop-i
invariant-loop-i l = (l.i ≤ length l.buffer) × (take l.i l.buffer ≡ made (wanted_at l.front l.filler l.at l.after) l.i)

abbrev pub decreases-loop-i : goal.decreases-loop-i
decreases-loop-i l = length l.buffer - l.i
