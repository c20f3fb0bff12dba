-- `linecount::count::Counter::finish` meets its contract: bytes that are left, and the totals.
-- Assumes nothing.
use Rattle.std.proofs.Common.{◌≡◌, ◌-◌, length, drop, ap, ◌∙◌, arith, length-drop}
use lib.Seq.{drop-length}
use Rattle.logs.proofs.LogLaws.{then_few, then_empty}
use Rattle.linecount.proofs.count.Counter.finish.Goals as goal

pub returns-then-branch-log : goal.returns-then-branch-log
returns-then-branch-log c =
    let p = c.in_ok-count_part.ensures in
    let k = length-drop (c.count_part.new.self.total.at - c.args.self.now.total.at) c.args.log.now in
    then_few _ _ _ _ p.taken.0 (omega (arith, k, p.waits.0, c.if-branch-log.true)) p.waits.1

pub returns : goal.returns
returns c =
    let p = c.in_ok-count_part.ensures in
    let l = c.args.log.now in
    let z : c.count_part.new.self.total.at - c.args.self.now.total.at ≡ length l = omega (arith, p.taken.2, p.waits.0, c.if-branch-log.false) in
    then_empty _ _ _ _ p.taken.0 (ap (λ k. drop k l) z ∙ drop-length l)
