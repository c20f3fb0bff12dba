-- `checks::crc_pair` meets its contract.
-- Assumes nothing.
use Rattle.std.proofs.Common.{◌≡◌, ◌+◌, ◌*◌, ◌/◌, refl, arith}
use Rattle.checks.proofs.FourLaws.{moved, crc_two}
use Rattle.checks.proofs.crc_pair.Goals as goal

pub returns : goal.returns
returns c =
    let a = c.args in
    let i = 4 * (a.n / 4) in
    let e : i + 2 ≡ 2 * (a.n / 2) = omega arith in
    moved a.frame.now a.n _ _ _ _ e (crc_two a.frame.now a.n i a.crc _ _ refl c.crc_two.ensures (omega arith) (omega arith))
