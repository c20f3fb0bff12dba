-- `checks::crc_fours` meets its contract. The loop's invariant: the bytes that are left take the register to the result.
-- Assumes nothing.
use Rattle.std.proofs.Common.{◌≡◌, ◌+◌, ◌*◌, refl, arith}
use Rattle.modbus.specs.Check.{crc}
use Rattle.checks.proofs.FourLaws.{moved, crc_four}
use Rattle.checks.proofs.crc_fours.Goals as goal

pub loop-k-init : goal.loop-k-init
unfolding crc
loop-k-init c = (omega arith, refl)

pub loop-k-preserved : goal.loop-k-preserved
loop-k-preserved c =
    let a = c.args in
    let k = c.loop-k.k in
    let e : 4 * k + 4 ≡ 4 * (k + 1) = omega arith in (
      omega arith,
      moved a.frame.now a.n _ _ _ _ e (crc_four a.frame.now a.n (4 * k) _ _ _ c.loop-k.invariant.1 c.crc_four-c.ensures (omega arith) (omega arith)),
    )
