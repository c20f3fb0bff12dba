-- `requests::judge` meets its contract: each arm is a function's number.
-- Assumes nothing.
use mathlib.Core.Path.{ap, ◌∙◌}
use native.Mathlib.Omega.{arith}
use Rattle.std.specs.Prelude.{Err}
use Rattle.requests.specs.Judged.{verdict_paper}
use Rattle.requests.proofs.JudgedLaws.{judged_short, judged_other}
use Rattle.requests.proofs.judge.Goals as goal

pub returns-then-body-lt2 : goal.returns-then-body-lt2
returns-then-body-lt2 c s z = ap verdict_paper (ap Err c.refused.ensures ∙ judged_short s _ _ c.if-body-lt2.true)

pub returns-in_default : goal.returns-in_default
returns-in_default c s z =
    ap verdict_paper (ap Err c.other_function.ensures
    ∙ judged_other s _ _ (λ k. omega arith) (λ k. omega arith) (λ k. omega arith) (λ k. omega arith) (λ k. omega arith)
    (λ k. omega arith) (λ k. omega arith) (λ k. omega arith) (λ k. omega arith) (λ k. omega arith))
