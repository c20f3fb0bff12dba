-- `client::build::lay_parts` meets its contract.
-- Assumes nothing.
use native.Mathlib.Omega.{arith}
use Rattle.client.proofs.CloseLaws.{extended_done, second_done, parts_laid}
use Rattle.client.proofs.build.lay_parts.Goals as goal

pub unwrap-requires : goal.unwrap-requires
unwrap-requires c =
    let a = c.args in
    extended_done a.frame.now a.head.now _ a.start c.extend.result c.extend.ensures (omega arith)

pub unwrap-requires-2 : goal.unwrap-requires-2
unwrap-requires-2 c =
    let a = c.args in
    second_done a.frame.now a.head.now a.«data».now a.start c.requires c.extend.result c.extend-2.result _ _ c.extend.ensures c.extend-2.ensures

pub returns : goal.returns
returns c =
    let a = c.args in
    let r = c.extend in
    let q = c.extend-2 in
    parts_laid a.frame.now a.head.now a.«data».now a.start c.requires r.result q.result _ _ r.ensures q.ensures
