-- `checks::crc_last` meets its contract.
-- Assumes nothing.
use Rattle.std.proofs.Common.{◌≡◌, ℕ, ◌-◌, ◌*◌, ◌/◌, take, drop, ap, ◌∙◌, arith}
use Rattle.modbus.specs.Check.{crc_from}
use Rattle.checks.proofs.FourLaws.{crc_none, crc_one}
use Rattle.checks.proofs.crc_last.Goals as goal

pub returns-then-n-eq0 : goal.returns-then-n-eq0
returns-then-n-eq0 c =
    let a = c.args in
    crc_none a.frame.now a.n (2 * (a.n / 2)) a.crc (omega arith)

pub returns : goal.returns
returns c =
    let a = c.args in
    let e : a.n - 1 ≡ 2 * (a.n / 2) = omega arith in
    crc_one a.frame.now a.n (a.n - 1) a.crc _ c.crc_byte.ensures (omega arith) (omega arith)
    ∙ ap (λ (i : ℕ). crc_from a.crc (drop i (take a.n a.frame.now))) e
