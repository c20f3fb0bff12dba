-- `driver::serve::echo` meets its contract.
-- Assumes nothing.
use mathlib.Core.Path.{◌≡◌, sym}
use Prim.Native.Nat.{◌+◌, ◌≤◌}
use native.Mathlib.Omega.{arith}
use lib.ListN.{length, take}
use lib.Seq.{length-take-le}
use Rattle.driver.proofs.ReplyLaws.{holds_by, extend_done, put_at_law, extend_put}
use Rattle.driver.proofs.serve.echo.Goals as goal

pub unwrap-requires : goal.unwrap-requires
unwrap-requires c =
    let a = c.args in
    let n : length (take a.n a.body.now) ≡ a.n = length-take-le a.n a.body.now c.requires.0 in
    let room : a.start + length (take a.n a.body.now) ≤ length a.reply.now = omega (arith, n, c.requires) in
    holds_by _ c.extend.result (extend_done _ _ a.reply.now a.start (take a.n a.body.now) c.extend.ensures room)

pub returns : goal.returns
returns c =
    let a = c.args in
    let n : length (take a.n a.body.now) ≡ a.n = length-take-le a.n a.body.now c.requires.0 in
    put_at_law a.start a.reply.now (take a.n a.body.now) _ _ (sym n)
    (extend_put _ _ a.reply.now a.start (take a.n a.body.now) c.extend.ensures (omega (arith, n, c.requires)))
