-- `driver::judge::judge` meets its contract: another unit, and what the body comes to.
-- Assumes nothing.
use mathlib.Core.Logic.{⊎_elim, inl, inr}
use mathlib.Core.Path.{sym, ◌∙◌}
use Rattle.modbus.proofs.StepLaws.{pick_yes, pick_no}
use Rattle.requests.proofs.JudgedLaws.{on, off}
use Rattle.requests.proofs.Unique.{verdict_paper_law}
use Rattle.driver.proofs.judge.judge.Goals.{else-not-broadcast-via-then-not-broadcast+else-body-setup, else-not-broadcast-via-else-not-broadcast}
use Rattle.driver.proofs.judge.judge.Goals as goal

pub returns-then-body-setup : goal.returns-then-body-setup
returns-then-body-setup c s z = sym (pick_no _ _ _ (⊎_elim (off _ c.if-not-broadcast.true) c.if-body-setup.true))

pub returns : goal.returns
returns c s z =
    verdict_paper_law _ _ (c.judge.ensures s z)
    ∙ sym (pick_yes _ _ _ (elim c.else-not-broadcast.branch [
      | else-not-broadcast-via-then-not-broadcast+else-body-setup w ↦ inr w.if-body-setup.false
      | else-not-broadcast-via-else-not-broadcast w ↦ inl (on _ w.if-not-broadcast.false)
    ]))
