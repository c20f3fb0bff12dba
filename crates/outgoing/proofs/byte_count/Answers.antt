-- `outgoing::byte_count` meets its contract.
-- Assumes nothing.
use mathlib.Core.Path.{sym, ap, ◌∙◌}
use native.Mathlib.Omega.{arith}
use Rattle.outgoing.specs.Grow.{growth}
use Rattle.outgoing.proofs.WayLaws.{byte_wide, byte_fits}
use Rattle.outgoing.proofs.byte_count.Goals as goal

pub returns-then-bytes-gt255 : goal.returns-then-bytes-gt255
returns-then-bytes-gt255 c = sym (ap growth (byte_wide _ _ (omega arith)))

pub returns : goal.returns
returns c = c.extend.ensures ∙ sym (ap growth (byte_fits _ _ (omega arith)))
