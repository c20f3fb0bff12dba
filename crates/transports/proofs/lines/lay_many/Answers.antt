-- `transports::lines::lay_many` meets its contract.
-- Assumes nothing.
use Rattle.std.proofs.Common.{length, ap, ◌∙◌, arith}
use lib.Seq.{take-length}
use Rattle.modbus.specs.Check.{lrc}
use Rattle.checks.proofs.WithinLaws.{lrc_value}
use Rattle.ascii.proofs.ReadingLaws.{text_put}
use Rattle.transports.proofs.CheckedLaws.{lrc_answered}
use Rattle.transports.proofs.lines.lay_many.Goals as goal

pub unwrap-requires : goal.unwrap-requires
unwrap-requires c = let s = c.args.bytes.now in lrc_answered _ s (length s) (omega arith) c.calc_lrc.ensures

pub returns : goal.returns
returns c =
    let a = c.args in
    let s = c.args.bytes.now in (
      lrc_value _ s (length s) (omega arith) c.calc_lrc.ensures _ c.unwrap.ensures ∙ ap lrc (take-length s),
      text_put a.dst.now 1 s _ _ c.put_text.ensures (omega arith),
    )
