-- `response::copy_block` meets its contract. The first loop's invariant: the first i bytes are read; the second's: they are written.
-- Assumes nothing.
use Rattle.std.proofs.Common.{◌≡◌, length, take}
use lib.Seq.{sets}
use Rattle.response.proofs.copy_block.Given as goal

abbrev pub invariant-loop-i : goal.invariant-loop-i
invariant-loop-i l = (length l.block ≡ 32) × (take l.i l.block ≡ take l.i l.bytes)

abbrev pub invariant-loop-i-2 : goal.invariant-loop-i-2
invariant-loop-i-2 l = l.dst ≡ sets l.initial.dst l.at (take l.i l.b-items)
