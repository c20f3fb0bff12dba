-- `outgoing::add_crc` meets its contract.
-- Assumes nothing.
use mathlib.Core.Path.{sym, ap, ◌∙◌}
use native.Mathlib.Omega.{arith}
use Rattle.outgoing.specs.Grow.{growth}
use Rattle.outgoing.proofs.WayLaws.{crc_over, crc_adds}
use Rattle.outgoing.proofs.add_crc.Goals as goal

pub returns-then-len-gt255 : goal.returns-then-len-gt255
returns-then-len-gt255 c = sym (ap growth (crc_over _ _ c.requires (omega arith)))

pub returns : goal.returns
returns c =
    c.extend.ensures
    ∙ rw c.to_le_bytes.ensures (sym (ap growth (crc_adds _ _ c.requires (omega arith) _ c.calc_crc16-crc.type_inv c.calc_crc16-crc.ensures)))
