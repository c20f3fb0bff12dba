-- `transports::lines::seal_ascii` meets its contract: the text of the body and that of its LRC stand between the colon and the end of the line.
-- Assumes nothing.
use Rattle.std.proofs.Common.{[], arith}
use Rattle.modbus.specs.declared.ModbusProto.TheVariants.{Ascii}
use Rattle.transports.proofs.SealedLaws.{sealed_none, ascii_sealed}
use Rattle.transports.proofs.lines.seal_ascii.Goals as goal

pub returns-then-reply-lt511 : goal.returns-then-reply-lt511
returns-then-reply-lt511 c = sealed_none Ascii [] _ _ (λ h. omega arith)

pub returns : goal.returns
returns c =
    let a = c.args in
    let e = c.lay_front-check.ensures in
    ascii_sealed a.reply.now a.n (omega arith) (omega arith) _ _ e.0 e.1 _ _ c.low_digit.ensures
    c.low_digit-2.ensures
