-- `ascii::reading::half` meets its contract.
-- Assumes nothing.
use Rattle.std.proofs.Common.{sym, ⊎_elim, arith}
use Rattle.ascii.proofs.PlainLaws.{value_figure, value_letter}
use Rattle.ascii.proofs.reading.half.Goals as goal

pub returns-then-c-le57 : goal.returns-then-c-le57
returns-then-c-le57 c = (sym (value_figure _ (omega arith)), omega arith)

pub returns-else-c-le57 : goal.returns-else-c-le57
returns-else-c-le57 c = ⊎_elim (λ p. absurd (omega (arith, p))) (λ p. (omega (arith, p, value_letter c.args.c (omega arith)), omega (arith, p))) c.requires
