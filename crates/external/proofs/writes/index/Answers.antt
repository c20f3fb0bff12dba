-- `external::writes::index` meets its contract.
-- Assumes nothing.
use mathlib.Core.Path.{sym, ap}
use native.Mathlib.Omega.{arith}
use Rattle.modbus.specs.Paper.{told}
use Rattle.external.proofs.WriteLaws.{indexed_far, indexed_beyond, indexed_all}
use Rattle.external.proofs.writes.index.Goals as goal
use Rattle.external.proofs.writes.index.Goals.{then-buf-end-via-then-buf-end, then-buf-end-via-else-buf-end+then-buf-end-2}

pub returns-in_default : goal.returns-in_default
returns-in_default c = sym (ap told (indexed_far _ _ _ _ (omega (arith, c.in_default.ensures))))

pub returns-then-buf-end : goal.returns-then-buf-end
returns-then-buf-end c =
    elim c.then-buf-end.branch [
      | then-buf-end-via-then-buf-end w ↦ sym (ap told (indexed_beyond _ _ _ _ (omega (arith, c.in-Some.ensures.0)) (omega arith)))
      | then-buf-end-via-else-buf-end+then-buf-end-2 w ↦ sym (ap told (indexed_beyond _ _ _ _ (omega (arith, c.in-Some.ensures.0)) (omega arith)))
    ]

pub returns : goal.returns
returns c = sym (ap told (indexed_all _ _ _ _ (omega (arith, c.in-Some.ensures.0)) (omega arith)))
