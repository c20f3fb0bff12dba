-- `transports::lines::is_short` meets its contract: of 17 characters, eight from 1 on and eight from 7 on are the digits.
-- Assumes nothing.
use Rattle.std.proofs.Common.{◌≡◌, ℕ, ◌-◌, length, subst, arith, eqb-true}
use Rattle.ascii.proofs.PlainLaws.{or_none}
use Rattle.transports.specs.Lines.{Digits}
use Rattle.transports.proofs.LinesLaws.{short_line}
use Rattle.transports.proofs.lines.is_short.Goals as goal

pub returns : goal.returns
returns c = λ e.
    let f = c.args.line.now in
    let n = or_none c.others_in_eight.result c.others_in_eight-2.result (omega arith) in
    let h : length f ≡ 17 = omega (arith, eqb-true) in
    let k : length f - 10 ≡ 7 = omega arith in
    short_line f h (c.others_in_eight.ensures n.0) (subst (λ (i : ℕ). Digits f i 8) k (c.others_in_eight-2.ensures n.1))
