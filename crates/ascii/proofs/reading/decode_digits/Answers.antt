-- `ascii::reading::decode_digits` meets its contract. The loop's invariant: the pairs before i are decoded, whatever the number of those to come.
-- Assumes nothing.
use Rattle.std.proofs.Common.{◌≡◌, suc, ◌+◌, ◌*◌, refl, arith, length-set}
use Rattle.ascii.proofs.PlainLaws.{begun_start, begun_on, begun_done}
use Rattle.ascii.proofs.reading.decode_digits.Goals as goal

pub loop-i-init : goal.loop-i-init
loop-i-init c =
    let a = c.args in
    let z : a.from + 2 * 0 ≡ a.from = omega arith in
    let y : a.at + 0 ≡ a.at = omega arith in
    (omega arith, refl, rw (z, y) (begun_start _ _ _ _))

pub returns-in_default : goal.returns-in_default
returns-in_default c =
    let d = begun_done _ _ _ _ _ _ _ c.loop-i.invariant.2 (omega arith) in
    (c.loop-i.invariant.0, d.0, d.1)

pub loop-i-preserved : goal.loop-i-preserved
loop-i-preserved c =
    let a = c.args in
    let i = c.loop-i.i in
    let q : a.from + 2 * (i + 1) ≡ a.from + 2 * i + 2 = omega arith in
    let p : a.at + (i + 1) ≡ suc (a.at + i) = omega arith in (
      omega arith,
      simp length-set c.loop-i.invariant.1,
      rw (q, p, c.in-Some.ensures.2) (begun_on _ _ _ _ _ _ _ c.loop-i.invariant.2 _ _ (c.in-Some.ensures.0, refl) (c.in-Some.ensures.1, refl)),
    )

pub returns : goal.returns
returns c =
    let a = c.args in
    let k : c.loop-i.i ≡ a.n = omega arith in
    let d = rw k at (begun_done _ _ _ _ _ _ _ c.loop-i.invariant.2 (omega arith)) in
    (omega arith, d.0, d.1)
