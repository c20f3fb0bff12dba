-- `response::cut_end` meets its contract.
-- Assumes nothing.
use Rattle.std.proofs.Common.{ℕ, sym, ap, ◌∙◌, arith}
use Rattle.modbus.specs.Paper.{told}
use Rattle.response.proofs.BoundedLaws.{cut_fits, cut_long}
use Rattle.response.proofs.cut_end.Goals as goal

pub returns-then-response-len : goal.returns-then-response-len
returns-then-response-len c = sym (ap told (cut_long _ _ _ (omega arith)))

pub returns : goal.returns
returns c = ap (λ (k : ℕ). (0, k)) (omega arith) ∙ sym (ap told (cut_fits _ _ _ (omega arith)))
