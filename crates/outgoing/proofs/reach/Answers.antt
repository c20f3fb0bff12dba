-- `outgoing::reach` meets its contract.
-- Assumes nothing.
use mathlib.Core.Path.{sym, ap}
use native.Mathlib.Omega.{arith}
use Rattle.modbus.specs.Paper.{told}
use Rattle.outgoing.proofs.WayLaws.{reached_far, reached_beyond, reached_all}
use Rattle.outgoing.proofs.reach.Goals as goal

pub returns-in_default : goal.returns-in_default
returns-in_default c = sym (ap told (reached_far _ _ _ (omega (arith, c.in_default.ensures))))

pub returns-then-buf-end : goal.returns-then-buf-end
returns-then-buf-end c =
    let h = c.in-Some.ensures in
    sym (ap told (reached_beyond _ _ _ (omega (arith, h.0)) (omega (arith, h.1))))

pub returns : goal.returns
returns c =
    let h = c.in-Some.ensures in
    sym (ap told (reached_all _ _ _ (omega (arith, h.0)) (omega (arith, h.1))))
