-- `linecount::tables::shifted_four` meets its contract: four shifts are one after the other, and leave 16 bits.
-- Assumes nothing.
use Rattle.std.proofs.Common.{◌≡◌, ap, ◌∙◌, arith}
use Rattle.modbus.specs.Check.{shift, shifts}
use Rattle.modbus.proofs.CheckLaws.{shifts_lt}
use Rattle.linecount.proofs.TableLaws.{shifts_four}
use Rattle.linecount.proofs.tables.shifted_four.Goals as goal

pub overflow_cast-result : goal.overflow_cast-result
overflow_cast-result c =
    let x = c.args.c in
    let e : c.crc_shift-4.result ≡ shifts 4 x =
    c.crc_shift-4.ensures ∙ ap shift (c.crc_shift-3.ensures ∙ ap shift (c.crc_shift-2.ensures ∙ ap shift c.crc_shift.ensures))
    ∙ shifts_four x in
    let k = shifts_lt 4 x c.ranges.c.fits in
    omega (arith, e, k)

pub returns : goal.returns
returns c =
    c.crc_shift-4.ensures ∙ ap shift (c.crc_shift-3.ensures ∙ ap shift (c.crc_shift-2.ensures ∙ ap shift c.crc_shift.ensures))
    ∙ shifts_four _
