-- `dalonjang::guess_frame_len` meets its contract: the switch decides first, and then the transport's number.
-- Assumes nothing.
use mathlib.Core.Path.{sym, ap, ◌∙◌}
use native.Mathlib.Omega.{arith}
use Rattle.modbus.specs.Paper.{proto_paper}
use Rattle.lengths.specs.Side.{body_of}
use Rattle.dalonjang.proofs.NumberedLaws.{unswitched, numbered, unnumbered}
use Rattle.dalonjang.proofs.guess_frame_len.Goals as goal

pub returns-then-hex-gt1 : goal.returns-then-hex-gt1
returns-then-hex-gt1 c = c.from.ensures ∙ unswitched _ (body_of c.args.side) _ _ (λ h. omega (arith, h))

pub returns-in-Ok : goal.returns-in-Ok
returns-in-Ok c =
    numbered _ (body_of c.args.side) _ _ (omega arith) _ _ (ap proto_paper (sym c.in-Ok.is) ∙ c.try_from.ensures)
    (c.from-in-Ok.ensures ∙ c.guess_frame_len.ensures)

pub returns-in-Err : goal.returns-in-Err
returns-in-Err c =
    c.from-in-Err.ensures ∙ unnumbered _ (body_of c.args.side) _ _ (omega arith) (ap proto_paper (sym c.in-Err.is) ∙ c.try_from.ensures)
