-- `lengths::tcp_len` meets its contract: each way out is a step of the guess.
-- Assumes nothing.
use mathlib.Core.Path.{sym, ap, ◌∙◌}
use native.Mathlib.Omega.{arith}
use Rattle.modbus.specs.Paper.{told}
use Rattle.lengths.proofs.GuessLaws.{tcp_short, tcp_foreign, tcp_told}
use Rattle.lengths.proofs.tcp_len.Goals as goal

pub returns-then-frame-lt6 : goal.returns-then-frame-lt6
returns-then-frame-lt6 c body = sym (ap told (tcp_short body _ (omega arith)))

pub returns-then-word-ne0 : goal.returns-then-word-ne0
returns-then-word-ne0 c body = sym (ap told (tcp_foreign body _ (omega arith) (rw c.word.ensures at c.if-word-ne0.true)))

pub returns : goal.returns
returns c body = rw c.word-2.ensures at c.frame_len.ensures ∙ sym (ap told (tcp_told body _ (omega arith) (cc)))
