-- `frame::ModbusFrame::name` meets its contract: no function, one that is not supported, and one that is.
-- Assumes nothing.
use mathlib.Core.Path.{refl, sym, ap, ◌∙◌}
use native.Mathlib.Omega.{arith}
use Rattle.frame.specs.State.{well, function_paper}
use Rattle.frame.proofs.ParseLaws.{named_short, named_unsupported, named_supported}
use Rattle.frame.proofs.ModbusFrame.name.Goals as goal

pub returns-then-buf-start-lt2 : goal.returns-then-buf-start-lt2
returns-then-buf-start-lt2 c out = sym (named_short _ _ _ out (omega arith))

pub returns-in-Err : goal.returns-in-Err
returns-in-Err c out =
    let a = c.args in
    let e = sym c.try_from.ensures ∙ ap function_paper c.in-Err.is in
    ap (λ s. well s out) c.answer_unsupported.ensures
    ∙ sym (named_unsupported a.broadcast a.self.now a.buf.now out (omega arith) _ e)

pub returns-in-Ok : goal.returns-in-Ok
returns-in-Ok c out =
    let a = c.args in
    let e = sym c.try_from.ensures ∙ ap function_paper c.in-Ok.is in
    c.request.ensures out
    ∙ sym (named_supported a.broadcast a.self.now a.buf.now out (omega arith) _ e _ refl)
