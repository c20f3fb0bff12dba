-- `linecount::reading::Buffer::take_in` meets its contract: what waits is what the records left, and less than a record.
-- Assumes nothing.
use Rattle.std.proofs.Common.{◌≡◌, ◌+◌, ◌-◌, rules, ◌++◌, take, drop, sym, ap, ◌∙◌, arith, length-drop, length-take-le}
use Rattle.logs.specs.Log.{report}
use Rattle.logs.proofs.LogLaws.{more_short}
use Rattle.linecount.proofs.reading.Buffer.take_in.Goals as goal

pub invariant_of-self : goal.invariant_of-self
invariant_of-self c =
    let p = c.in_ok-used.ensures in
    let h = c.args.self.now.have + c.args.n in
    let l = c.args.self.now.bytes in
    let u = c.count_part.new.self.total.at - c.args.counter.now.total.at in
    let k = length-take-le h l (search rules) in
    let d = length-drop u (take h l) in
    let s = more_short _ _ p.waits.1 in
    record { less = omega (arith, s, d, k, p.waits.0) }

pub returns-clause-continues : goal.returns-clause-continues
returns-clause-continues c =
    let p = c.in_ok-used.ensures in
    let h = c.args.self.now.have + c.args.n in
    let l = c.args.self.now.bytes in
    let t = c.count_part.new.self.total in
    let used = c.in_ok-used.used in
    let e : t.at - c.args.counter.now.total.at ≡ used = omega (arith, p.waits.0) in
    λ next. p.taken.0 next ∙ ap (λ x. report t (x ++ next)) (ap (λ j. drop j (take h l)) e ∙ sym c.keep.ensures)
