-- `external::writes::want_many` meets its contract: a frame without the data, or where they stand.
-- Assumes nothing.
use mathlib.Core.Path.{sym, ap, ◌∙◌}
use native.Mathlib.Omega.{arith}
use Rattle.modbus.specs.Paper.{kind_in}
use Rattle.frame.specs.Changes.{kind_number}
use Rattle.external.proofs.WriteLaws.{write_handed, many_refused, many_within, many_wanted}
use Rattle.external.proofs.writes.want_many.Goals as goal

pub overflow_add-cells : goal.overflow_add-cells
overflow_add-cells c =
    let h = many_within _ _ _ c.data_len.ensures _ c.in_ok-n.was in
    omega arith

pub returns-in_err-n : goal.returns-in_err-n
returns-in_err-n c out =
    write_handed _ _ _ out c.from_residual.ensures.1
    ∙ sym (many_refused _ _ _ c.data_len.ensures (kind_in c.args.of) out _ c.in_err-n.was)

pub returns-in-Bits : goal.returns-in-Bits
returns-in-Bits c out =
    sym (many_wanted _ _ _ c.data_len.ensures _ c.in_ok-n.was (kind_in c.args.of) out _ (sym (ap (λ k. kind_number (kind_in k)) c.in-Bits.is)))

pub returns-in-Words : goal.returns-in-Words
returns-in-Words c out =
    sym (many_wanted _ _ _ c.data_len.ensures _ c.in_ok-n.was (kind_in c.args.of) out _ (sym (ap (λ k. kind_number (kind_in k)) c.in-Words.is)))
