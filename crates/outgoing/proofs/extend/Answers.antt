-- `outgoing::extend` meets its contract: the answer on the bounded response, with the length that stands.
-- Assumes nothing.
use mathlib.Core.Path.{sym, ap}
use Rattle.modbus.specs.Paper.{paper}
use Rattle.outgoing.specs.Grow.{growth}
use Rattle.outgoing.proofs.GrowLaws.{handed, extend_grown, extend_refused}
use Rattle.outgoing.proofs.extend.Goals as goal

pub returns-in_err-len : goal.returns-in_err-len
returns-in_err-len c =
    handed _ c.from_residual.ensures.1
    (extend_refused _ _ _ _ _ (rw (ap paper c.in_err-len.was) at c.extend.ensures))

pub returns : goal.returns
returns c = sym (ap growth (extend_grown _ _ _ _ _ (rw (ap paper c.in_ok-len.was) at c.extend.ensures)))
