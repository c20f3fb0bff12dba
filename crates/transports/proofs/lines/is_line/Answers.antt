-- `transports::lines::is_line` meets its contract: each test is one part of the shape of a line.
-- Assumes nothing.
use Rattle.std.proofs.Common.{sym, ◌∙◌, ⊎_elim, arith, eqb-true}
use Rattle.std.proofs.lemmas.Bool.{eqb-false}
use Rattle.modbus.proofs.StepLaws.{pick_no}
use Rattle.transports.specs.Lines.{Lined, lined?}
use Rattle.transports.proofs.OpenedLaws.{same_two}
use Rattle.transports.proofs.AsciiLaws.{line_end}
use Rattle.transports.proofs.lines.is_line.Goals as goal
use Rattle.transports.proofs.lines.is_line.Goals.{then-frame-eq58, else-frame-eq58}

pub returns-then-frame-lt9 : goal.returns-then-frame-lt9
returns-then-frame-lt9 c =
    let f = c.args.frame.now in
    sym (pick_no (lined? f) _ _ (λ (h : Lined f). ⊎_elim (λ p. omega arith) (λ p. omega arith) c.then-frame-lt9.either))

pub returns-then-frame-n-eq13 : goal.returns-then-frame-n-eq13
returns-then-frame-n-eq13 c =
    elim c.if-frame-eq58.branch [
      | then-frame-eq58 w ↦ line_end c.args.frame.now (omega arith) (omega arith) w.if-frame-eq58.true (eqb-true _ _ (sym w.value-is ∙ c.if-frame-n-eq13.true))
      | else-frame-eq58 w ↦ absurd (w.if-frame-eq58.false (eqb-true _ _ (sym w.value-is ∙ c.if-frame-n-eq13.true)))
    ]

pub returns-else-frame-n-eq13 : goal.returns-else-frame-n-eq13
returns-else-frame-n-eq13 c =
    let f = c.args.frame.now in
    let e = c.if-frame-n-eq13.false in
    e ∙ sym (pick_no (lined? f) _ _ (λ (h : Lined f).
    elim c.if-frame-eq58.branch [
      | then-frame-eq58 w ↦ eqb-false _ _ (sym w.value-is ∙ e) (same_two f _ _ _ (omega arith) h.1.1.1).0
      | else-frame-eq58 w ↦ w.if-frame-eq58.false h.1.1.0
    ]))
