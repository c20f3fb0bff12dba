-- `transports::lines::check_lrc` meets its contract: the last byte is the LRC of those before, or it is not.
-- Assumes nothing.
use Rattle.std.proofs.Common.{length, sym, ap, ◌∙◌, arith, length-take-le}
use Rattle.std.specs.Prelude.{Ok}
use lib.Seq.{take-length}
use Rattle.checks.proofs.WithinLaws.{lrc_value}
use Rattle.transports.specs.Opened.{opened}
use Rattle.transports.proofs.CheckedLaws.{lrc_answered, lrc_wrong, lrc_right}
use Rattle.transports.proofs.lines.check_lrc.Goals as goal

pub unwrap-lrc-requires : goal.unwrap-lrc-requires
unwrap-lrc-requires c = lrc_answered _ c.args.bytes.now _ (omega arith) c.calc_lrc.ensures

pub returns-then-bytes-k : goal.returns-then-bytes-k
returns-then-bytes-k c =
    let s = c.args.bytes.now in
    let e = lrc_value _ s _ (omega arith) c.calc_lrc.ensures _ c.unwrap-lrc.ensures in
    rw take-length at (sym (ap opened (lrc_wrong s (length s) (omega arith) (omega arith) (λ h. c.if-bytes-k.true (h ∙ sym e)))))

pub returns : goal.returns
returns c =
    let s = c.args.bytes.now in
    let e = lrc_value _ s _ (omega arith) c.calc_lrc.ensures _ c.unwrap-lrc.ensures in
    ap Ok (sym (length-take-le _ s (omega arith)))
    ∙ (rw take-length at (sym (ap opened (lrc_right s (length s) (omega arith) (omega arith) (c.if-bytes-k.false ∙ e)))))
