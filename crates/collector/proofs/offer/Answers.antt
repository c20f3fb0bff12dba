-- `collector::offer` meets its contract: what there is place for goes behind what is held, and is counted.
-- Assumes nothing.
use mathlib.Core.Path.{◌≡◌, sym, ap}
use Prim.Native.Nat.{◌+◌, ◌/◌, ◌%◌}
use native.Mathlib.Omega.{arith}
use Rattle.modbus.specs.Paper.{told_with}
use Rattle.collector.proofs.CollectedLaws.{offered_short, offered_code}
use Rattle.collector.proofs.offer.Goals as goal

pub returns-then-state-lt-STATE : goal.returns-then-state-lt-STATE
returns-then-state-lt-STATE c = sym (ap (told_with _) (offered_short _ _ (omega arith)))

pub returns : goal.returns
returns c =
    let n = c.count_of-n in
    let a = c.args in
    let least = c.min-more in
    let k = n.result + least.result in
    let h : k / 256 % 256 ≡ k / 256 = omega (arith, n.ensures.0) in
    rw (c.to_be_bytes.ensures, h)
    (offered_code a.state.now a.bytes.now _ n.result least.result c.extend.result (omega arith) n.ensures.0 n.ensures.1 least.ensures c.extend.ensures)
