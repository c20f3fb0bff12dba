-- `ascii::parse_ascii_frame` meets its contract: under one of the two switches it is the reading, and else a refusal.
-- Assumes nothing.
use Rattle.std.proofs.Common.{sym, ◌∙◌, arith}
use Rattle.modbus.proofs.StepLaws.{pick_yes, pick_no}
use Rattle.ascii.proofs.parse_ascii_frame.Goals as goal

pub returns-then-hex-gt1 : goal.returns-then-hex-gt1
returns-then-hex-gt1 c = sym (pick_no _ _ _ (λ h. omega (arith, h)))

pub returns : goal.returns
returns c = c.parse_text.ensures ∙ sym (pick_yes _ _ _ (omega arith))
