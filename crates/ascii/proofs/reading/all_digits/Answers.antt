-- `ascii::reading::all_digits` meets its contract.
-- Assumes nothing.
use Rattle.std.proofs.Common.{◌≡◌, ◌≤◌, length, drop_of_length-le, arith}
use Rattle.std.proofs.lemmas.Bool.Decides.{nat_tests}
use Rattle.ascii.proofs.PlainLaws.{other_none, others_step}
use Rattle.ascii.proofs.reading.all_digits.Goals as goal

pub loop-c-preserved : goal.loop-c-preserved
loop-c-preserved c =
    others_step c.args.text.now c.loop-c.c-index c.loop-c.others c.other-others.result _ c.loop-c.invariant (omega arith) (other_none _ _ c.other-others.ensures)

pub returns : goal.returns
returns c = λ e.
    let z : c.loop-c.others ≡ 0 = grind (arith, nat_tests) in
    let h : length c.args.text.now ≤ c.loop-c.c-index = omega arith in
    c.loop-c.invariant z (rw (drop_of_length-le c.args.text.now h) tt)
