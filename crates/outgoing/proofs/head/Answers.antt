-- `outgoing::head` meets its contract: the byte count is added where the rest was.
-- Assumes nothing.
use mathlib.Core.Path.{sym, ap, ◌∙◌}
use Rattle.outgoing.specs.Grow.{growth, byte_counted}
use Rattle.outgoing.proofs.GrowLaws.{goes_on, ends_there, handed}
use Rattle.outgoing.proofs.head.Goals as goal

pub returns-in_err-begin : goal.returns-in_err-begin
returns-in_err-begin c =
    handed _ c.from_residual.ensures.1
    (ends_there _ _ _ _ c.begin.ensures (byte_counted c.args.bytes) _ c.in_err-begin.was)

pub returns : goal.returns
returns c =
    c.byte_count.ensures
    ∙ sym (ap growth (goes_on _ _ _ _ c.begin.ensures (byte_counted c.args.bytes) c.in_ok-begin.was))
