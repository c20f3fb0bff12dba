-- `lengths::ascii_len` meets its contract: what is read into the buffer stands at its front.
-- Assumes nothing.
use mathlib.Core.Path.{sym, ap, ◌∙◌}
use native.Mathlib.Omega.{arith}
use Rattle.modbus.specs.Paper.{told, paper}
use Rattle.modbus.proofs.PaperLaws.{handed_on}
use Rattle.modbus.proofs.HexLaws.{length_spelt}
use Rattle.lengths.proofs.GuessLaws.{ascii_told, ascii_halt}
use Rattle.lengths.proofs.ascii_len.Goals as goal

pub returns : goal.returns
returns c =
    let e = rw c.in_ok-known.was at c.parse_text.ensures in
    let a = c.args in
    c.serial_len.ensures ∙ sym (ap told (ascii_told _ _ _ (length_spelt a.hex a.text.now) _ _ e (omega arith)))

pub returns-in_err-known : goal.returns-in_err-known
returns-in_err-known c =
    let e = rw c.in_err-known.was at c.parse_text.ensures in
    let a = c.args in
    ap paper (handed_on _ c.from_residual.ensures.1)
    ∙ sym (ap told (ascii_halt _ _ _ (length_spelt a.hex a.text.now) _ _ e))
