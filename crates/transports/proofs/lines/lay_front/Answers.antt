-- `transports::lines::lay_front` meets its contract: the array's first bytes are those of the reply.
-- Assumes nothing.
use Rattle.std.proofs.Common.{sym, arith, length-take-le}
use Rattle.std.proofs.lemmas.Option.{MatchOption-at_some}
use Rattle.transports.proofs.SealedLaws.{copied_front, filled_front}
use Rattle.transports.proofs.lines.lay_front.Goals as goal

pub returns-then-n-lt16 : goal.returns-then-n-lt16
returns-then-n-lt16 c =
    let y = MatchOption-at_some _ _ _ c.unwrap.ensures c.first_chunk.ensures.cases in
    rw (copied_front c.args.reply.now _ 16 c.args.n y (omega arith)) at c.lay_few.ensures

pub slice_bounds-extend-end-3 : goal.slice_bounds-extend-end-3
slice_bounds-extend-end-3 c = sym (length-take-le 256 c.args.reply.now (omega arith))

pub returns : goal.returns
returns c =
    let a = c.args in
    rw (filled_front a.reply.now _ _ a.n c.extend.result c.extend.ensures (omega arith) (omega arith)) at c.lay_many.ensures
