-- `records::parts::stands` meets its contract. The loop's invariant: the first i bytes are those that are wanted.
-- Assumes nothing.
use Rattle.std.proofs.Common.{arith}
use Rattle.records.proofs.PartsLaws.{same_none, same_more, stood_short, stood_other, stood_same}
use Rattle.records.proofs.parts.stands.Goals as goal

pub returns-then-buffer-at : goal.returns-then-buffer-at
returns-then-buffer-at c =
    let a = c.args in
    stood_short a.buffer.now a.front.now a.filler a.at a.after.now (omega arith)

pub returns-then-buffer-at-2 : goal.returns-then-buffer-at-2
returns-then-buffer-at-2 c =
    let a = c.args in
    stood_short a.buffer.now a.front.now a.filler a.at a.after.now (omega arith)

pub loop-i-init : goal.loop-i-init
loop-i-init c = (omega arith, same_none _ c.args.buffer.now)

pub returns-then-b-wanted : goal.returns-then-b-wanted
returns-then-b-wanted c =
    let a = c.args in
    let l = c.loop-i in
    stood_other a.buffer.now a.front.now a.filler a.at a.after.now l.i _ c.wanted.ensures (omega arith) c.if-b-wanted.true

pub loop-i-preserved : goal.loop-i-preserved
loop-i-preserved c =
    let l = c.loop-i in
    (omega arith, same_more _ _ l.i _ c.wanted.ensures l.invariant.1 (omega arith) c.if-b-wanted.false)

pub returns : goal.returns
returns c =
    let a = c.args in
    let l = c.loop-i in
    stood_same a.buffer.now a.front.now a.filler a.at a.after.now l.i (omega arith) l.invariant.1 (omega arith)
