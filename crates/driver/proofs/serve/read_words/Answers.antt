-- `driver::serve::read_words` meets its contract: the registers stand behind the head.
-- Assumes nothing.
use native.Mathlib.Omega.{arith}
use lib.ListN.{length, get_or}
use lib.Seq.{length-sets}
use mathlib.Core.List.{◌∷◌}
use Prim.Native.Nat.{◌+◌, ◌*◌, ◌≤◌}
use Rattle.driver.proofs.ReplyLaws.{holds_by, extend_done, put_at_law, put_behind, extend_put}
use Rattle.driver.proofs.serve.read_words.Goals as goal

pub unwrap-requires : goal.unwrap-requires
unwrap-requires c =
    let h = c.head-n in
    let a = c.args in
    let room : (a.start + 3) + length a.part.now ≤ length h.new.reply = rw h.ensures.1 (simp length-sets (omega (arith, c.requires))) in
    holds_by _ c.extend.result (extend_done _ _ h.new.reply (a.start + 3) a.part.now c.extend.ensures room)

pub returns : goal.returns
returns c =
    let h = c.head-n in
    let a = c.args in
    let room : (a.start + 3) + length a.part.now ≤ length h.new.reply = rw h.ensures.1 (simp length-sets (omega (arith, c.requires))) in
    put_at_law a.start a.reply.now (get_or a.body.now 0 0 ∷ get_or a.body.now 1 0 ∷ (2 * a.count) ∷ a.part.now) _ _ (omega (arith, h.ensures.0, c.requires))
    (put_behind a.reply.now a.start (get_or a.body.now 0 0) (get_or a.body.now 1 0) (2 * a.count) a.part.now h.new.reply _ h.ensures.1
    (extend_put _ _ h.new.reply (a.start + 3) a.part.now c.extend.ensures room))
