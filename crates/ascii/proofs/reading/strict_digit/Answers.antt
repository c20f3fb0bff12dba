-- `ascii::reading::strict_digit` meets its contract: each way through the match is a range of characters.
-- Assumes nothing.
use Rattle.std.proofs.Common.{sym, inl, inr, arith}
use Rattle.ascii.proofs.PlainLaws.{value_figure, value_letter}
use Rattle.ascii.proofs.reading.strict_digit.Goals as goal

pub returns-in-48-to-57 : goal.returns-in-48-to-57
returns-in-48-to-57 c = (inl (omega arith, omega arith), sym (value_figure _ (omega arith)), omega arith)

pub returns-in-65-to-70 : goal.returns-in-65-to-70
returns-in-65-to-70 c = (inr (omega arith, omega arith), omega (arith, value_letter c.args.c (omega arith)), omega arith)
