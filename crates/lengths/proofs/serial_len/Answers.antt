-- `lengths::serial_len` meets its contract: the steps of the definition, in order.
-- Assumes nothing.
use mathlib.Core.Path.{sym, ap, ◌∙◌}
use native.Mathlib.Omega.{arith}
use Rattle.modbus.specs.Step.{stop, go}
use Rattle.modbus.specs.Paper.{told, paper}
use Rattle.modbus.proofs.PaperLaws.{told_same, handed_on}
use Rattle.lengths.proofs.GuessLaws.{body_most, serial_short, serial_told, serial_halt}
use Rattle.lengths.proofs.serial_len.Goals as goal

pub returns-then-b-lt2 : goal.returns-then-b-lt2
returns-then-b-lt2 c = sym (ap told (serial_short _ _ _ (omega arith)))

pub frame_len-requires : goal.frame_len-requires
frame_len-requires c =
    let a = c.args in
    let e = told_same _ (go _) (sym c.body_len.ensures ∙ ap paper c.in_ok-body_len.was) in
    let h = body_most a.side a.b.now _ (λ i. (c.type_inv.b i).fits) e in
    omega arith

pub returns : goal.returns
returns c =
    let e = told_same _ (go _) (sym c.body_len.ensures ∙ ap paper c.in_ok-body_len.was) in
    c.frame_len.ensures ∙ sym (ap told (serial_told _ _ _ _ (omega arith) e))

pub returns-in_err-body_len : goal.returns-in_err-body_len
returns-in_err-body_len c =
    let e = told_same _ (stop _) (sym c.body_len.ensures ∙ ap paper c.in_err-body_len.was) in
    ap paper (handed_on _ c.from_residual.ensures.1) ∙ sym (ap told (serial_halt _ _ _ _ (omega arith) e))
