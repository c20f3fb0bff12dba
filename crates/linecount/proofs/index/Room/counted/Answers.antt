-- `linecount::index::Room::counted` meets its contract: too near or too far, another sum, a frame.
-- Assumes nothing.
use Rattle.std.proofs.Common.{◌+◌, ◌-◌, sym, ap, ◌∙◌, arith}
use Rattle.modbus.proofs.StepLaws.{pick_yes, pick_no}
use Rattle.linecount.proofs.IndexLaws.{sum_at, counted_at}
use Rattle.linecount.proofs.index.Room.counted.Goals as goal

pub returns-then-k-h-gt-LONGER : goal.returns-then-k-h-gt-LONGER
returns-then-k-h-gt-LONGER c = sym (pick_no _ _ _ (λ (u, (v, t)). omega (arith, u, v)))

pub returns-then-end-w : goal.returns-then-end-w
returns-then-end-w c = sym (pick_no _ _ _ (λ (u, (v, t)). c.if-end-w.true (sym (sum_at c.args.self.now.places c.args.h) ∙ t)))

pub overflow_add-result-2 : goal.overflow_add-result-2
overflow_add-result-2 c =
    let e = counted_at c.args.self.now.places c.args.h in
    let k = c.requires.1 c.args.h (omega arith) in
    omega (arith, e, k)

pub returns : goal.returns
returns c =
    let p = c.args.self.now.places in
    ap (λ n. n + (65536 + (c.args.k - c.args.h))) (sym (counted_at p c.args.h)) ∙ sym (pick_yes _ _ _ (omega arith, (omega arith, sum_at p c.args.h ∙ c.if-end-w.false)))
