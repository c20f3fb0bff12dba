-- `linecount::reading::Buffer::turn` meets its contract: what was read stands behind what waited.
-- Assumes nothing.
use Rattle.std.proofs.Common.{rules, ◌-◌, take, sym, subst}
use Rattle.linecount.specs.Reading.{Continues}
use Rattle.linecount.proofs.ReadingLaws.{comes_behind}
use Rattle.linecount.proofs.reading.Buffer.turn.Goals as goal

pub returns-clause-continues : goal.returns-clause-continues
returns-clause-continues c =
    let b = c.in_ok-n.ensures.bound in
    let s = c.args.self.now in
    let e = comes_behind s.bytes c.read.new.buf s.have (65536 - s.have) c.in_ok-n.n (search rules) b.0 in
    (take c.in_ok-n.n c.read.new.buf, sym b.1, subst (λ l. Continues c.args.counter.now.total l c.take_in.new.counter.total (take c.take_in.new.self.have c.take_in.new.self.bytes)) e (search rules))
