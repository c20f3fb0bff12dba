-- `linecount::reading::count_log` meets its contract: what is counted and what waits come to what the whole log does.
-- Assumes nothing.
use Rattle.std.proofs.Common.{sym, ap, ◌∙◌}
use Rattle.logs.specs.Log.{report}
use Rattle.logs.proofs.LogLaws.{nothing_behind}
use Rattle.linecount.proofs.ReadingLaws.{on_fault}
use Rattle.linecount.proofs.reading.count_log.Goals as goal

pub returns-in_err-finish-clause-refused : goal.returns-in_err-finish-clause-refused
returns-in_err-finish-clause-refused c =
    let (more, same) = c.in_ok-all.ensures.continues in
    on_fault _ c.in_err-finish.field-0.0 _ c.from_residual-in_err-finish.ensures.1
    (_, nothing_behind _ _ _ _ same ∙ ap (report c.read_log-all.new.counter.total) (sym c.waiting.ensures) ∙ sym c.in_err-finish.ensures)

pub returns-clause-counted : goal.returns-clause-counted
returns-clause-counted c =
    let (more, same) = c.in_ok-all.ensures.continues in
    (_, nothing_behind _ _ _ _ same ∙ ap (report c.read_log-all.new.counter.total) (sym c.waiting.ensures) ∙ sym c.in_ok-finish.ensures)
