-- `transports::lines::others_in_eight` meets its contract. The loop's invariant: if there was no other character, those passed are digits.
-- Assumes nothing.
use Rattle.std.proofs.Common.{◌+◌, ◌-◌, ◌<◌, drop, subst, ◌∙◌, arith, length-take, get_or-drop, get_or-take}
use Rattle.ascii.specs.Plain.{Digit}
use Rattle.ascii.proofs.PlainLaws.{other_none}
use Rattle.transports.proofs.LinesLaws.{digits_more}
use Rattle.transports.proofs.lines.others_in_eight.Goals as goal

pub loop-c-preserved : goal.loop-c-preserved
loop-c-preserved c = λ e.
    let s = c.args.line.now in
    let at = c.args.at in
    let i = c.loop-c.c-index in
    let k : i < at + 8 - at = omega (arith, c.loop-c-test.true, length-take (at + 8 - at) (drop at s)) in
    let place = get_or-take (at + 8 - at) (drop at s) i 0 k ∙ get_or-drop at s i 0 in
    digits_more s at i c.loop-c.others _ c.loop-c.invariant (λ z. subst Digit place (other_none _ _ c.other-others.ensures z)) e
