-- `client::hear::shown_kind` meets its contract: coils and discretes have the lowest functions.
-- Assumes nothing.
use Rattle.client.proofs.HearLaws.{kind_bits, kind_words}
use Rattle.client.proofs.hear.shown_kind.Goals as goal

pub returns-then-function-lt3 : goal.returns-then-function-lt3
returns-then-function-lt3 c a count w = kind_bits c.args.function count a w c.if-function-lt3.true

pub returns-else-function-lt3 : goal.returns-else-function-lt3
returns-else-function-lt3 c a count w = kind_words c.args.function count a w c.if-function-lt3.false
