-- `driver::serve::write_bits` meets its contract: the coils lie inside, so the call succeeds.
-- Assumes nothing.
use native.Mathlib.Omega.{arith}
use lib.ListN.{length, take, drop, length-drop}
use lib.Seq.{length-take-le}
use mathlib.Core.Path.{◌≡◌}
use Prim.Native.Nat.{◌+◌, ◌-◌, ◌/◌}
use Rattle.modbus.specs.Storage.{packed}
use Rattle.driver.proofs.ReplyLaws.{holds_by, stored_done, stored_put}
use Rattle.driver.proofs.serve.write_bits.Goals as goal

pub unwrap-requires : goal.unwrap-requires
unwrap-requires c =
    let a = c.args in
    let x = c.args.c in
    let z : (x.at + (x.count + 7) / 8) - x.at ≡ (x.count + 7) / 8 = omega arith in
    let n : length (take ((x.count + 7) / 8) (drop x.at a.body.now)) ≡ (x.count + 7) / 8 = length-take-le _ _ (simp length-drop (omega (arith, c.requires))) in
    holds_by _ c.set_coils_from_u8.result (stored_done packed a.coils.now a.cells c.requires.2 _ _ x.address x.count (take ((x.count + 7) / 8) (drop x.at a.body.now))
    (rw z at c.set_coils_from_u8.ensures) c.requires.0 n)

pub returns : goal.returns
returns c =
    let a = c.args in
    let x = c.args.c in
    let z : (x.at + (x.count + 7) / 8) - x.at ≡ (x.count + 7) / 8 = omega arith in
    let n : length (take ((x.count + 7) / 8) (drop x.at a.body.now)) ≡ (x.count + 7) / 8 = length-take-le _ _ (simp length-drop (omega (arith, c.requires))) in
    stored_put packed a.coils.now a.cells c.requires.2 _ _ x.address x.count (take ((x.count + 7) / 8) (drop x.at a.body.now))
    (rw z at c.set_coils_from_u8.ensures) c.requires.0 n
