-- `client::lay::above_one` meets its contract.
-- Assumes nothing.
use Prim.Native.Nat.{◌<◌, ◌≤◌}
use Rattle.std.proofs.Common.{rules, tests}
use Rattle.std.proofs.lemmas.Iterator.{cases_from_any, YieldsList-from_slice}
use Rattle.client.proofs.LayLaws.{above_is}
use Rattle.client.proofs.lay.above_one.Goals as goal

pub returns : goal.returns
returns c =
    let vs = c.args.cells.now in
    above_is _ vs (cases_from_any _ _ _ (λ x. 1 < x) (λ x. x ≤ 1) c.any.ensures.ran (YieldsList-from_slice vs cc) (λ x q k. search (rules, tests)) (λ x q k. search (rules, tests)))
