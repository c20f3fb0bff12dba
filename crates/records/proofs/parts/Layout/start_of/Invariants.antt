-- `records::parts::Layout::start_of` meets its contract. The loop's invariant: the place where the part i begins.
-- Assumes nothing.
use Rattle.std.proofs.Common.{◌≡◌, ◌+◌, ◌-◌, ◌*◌, ◌≤◌}
use Rattle.records.specs.Parts.{part_start}
use Rattle.records.proofs.parts.Layout.start_of.Given as goal

abbrev pub invariant-loop-i : goal.invariant-loop-i
invariant-loop-i l = (l.i ≤ l.k) × (l.k ≤ 255) × (l.at ≤ 65535 + 65535 * l.i) × (l.at ≡ part_start l.record l.self.lengths l.self.parts l.i)

abbrev pub decreases-loop-i : goal.decreases-loop-i
decreases-loop-i l = l.k - l.i
