-- `records::parts::lay` meets its contract. The loop's invariant: the first i bytes are laid.
-- Assumes nothing.
use Rattle.std.proofs.Common.{◌≡◌, ◌-◌, ◌≤◌, ◌++◌, length, get_or, drop}
use Rattle.records.specs.Parts.{made}
use Rattle.records.proofs.parts.lay.Given as goal

abbrev pub invariant-loop-i : goal.invariant-loop-i
invariant-loop-i l = (l.i ≤ length l.initial.buffer) × (length l.buffer ≡ length l.initial.buffer)
    × (l.buffer ≡ made (λ j. get_or l.front j l.filler) l.i ++ drop l.i l.initial.buffer)

abbrev pub decreases-loop-i : goal.decreases-loop-i
decreases-loop-i l = length l.initial.buffer - l.i
