-- `ascii::generate_ascii_frame` meets its contract: where the line fits, it is written whole.
-- Assumes nothing.
use Rattle.std.proofs.Common.{set, sym, refl, arith, length-set}
use Rattle.ascii.proofs.ReadingLaws.{length_line, line_written}
use Rattle.ascii.proofs.generate_ascii_frame.Goals as goal

pub returns : goal.returns
returns c =
    let a = c.args in
    let k = c.fits.ensures.0 c.if-not-fits.false in
    let m = length-set a.res.now 0 58 in
    line_written a.«data».now a.res.now (set a.res.now 0 58) _ refl c.write_line.ensures _
    (sym (length_line a.«data».now)) (omega arith)
