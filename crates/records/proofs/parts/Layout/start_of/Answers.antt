-- `records::parts::Layout::start_of` meets its contract. The loop's invariant: the place where the part i begins.
-- Assumes nothing.
use Rattle.std.proofs.Common.{◌+◌, sym, ◌∙◌, ap₂, arith}
use Rattle.records.proofs.PartsLaws.{start_none, start_next}
use Rattle.records.proofs.parts.Layout.start_of.Goals as goal

pub loop-i-init : goal.loop-i-init
loop-i-init c = (omega arith, omega arith, omega arith, start_none _ _ _)

pub loop-i-preserved : goal.loop-i-preserved
loop-i-preserved c =
    let l = c.loop-i in
    (omega arith, omega arith, omega arith, ap₂ ◌+◌ l.invariant.3 c.len_of-at.ensures.0 ∙ sym (start_next _ _ _ l.i))
