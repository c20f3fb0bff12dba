-- `incoming::check_frame_crc` meets its contract: more bytes than are counted, and the others.
-- Assumes nothing.
use mathlib.Core.Path.{sym, ap, ◌∙◌}
use Rattle.modbus.specs.Paper.{told}
use Rattle.modbus.proofs.StepLaws.{fail, test_refuses, test_passes}
use Rattle.incoming.specs.Envelope.{frame_checked}
use Rattle.incoming.proofs.EnvelopeLaws.{frame_counted}
use Rattle.incoming.proofs.check_frame_crc.Goals as goal

pub returns-then-overflows : goal.returns-then-overflows
unfolding frame_checked
returns-then-overflows c = sym (ap told (fail _ _ _ (test_refuses _ _ c.overflows.ensures c.if-overflows.true)))

pub check_counted-requires : goal.check_counted-requires
check_counted-requires c = test_passes _ _ c.overflows.ensures c.if-overflows.false

pub returns : goal.returns
returns c =
    let h = test_passes _ _ c.overflows.ensures c.if-overflows.false in
    c.check_counted.ensures ∙ sym (ap told (frame_counted _ _ _ _ h))
