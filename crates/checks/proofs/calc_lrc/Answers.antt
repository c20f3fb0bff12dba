-- `checks::calc_lrc` meets its contract: a frame with too few bytes is refused.
-- Assumes nothing.
use Rattle.std.proofs.Common.{ℕ, refl, sym, ap, ◌∙◌, arith, take}
use Rattle.modbus.specs.Paper.{told}
use Rattle.modbus.proofs.StepLaws.{pass, fail}
use Rattle.modbus.specs.Check.{sum, lrc}
use Rattle.modbus.proofs.CheckLaws.{lrc_step}
use lib.Seq.{take_all}
use Rattle.checks.proofs.calc_lrc.Goals as goal

pub returns-then-frame-n : goal.returns-then-frame-n
returns-then-frame-n c = sym (ap told (fail _ _ _ (λ h. omega arith)))

pub loop-b-init : goal.loop-b-init
unfolding lrc sum
loop-b-init c = refl

pub loop-b-preserved : goal.loop-b-preserved
loop-b-preserved c =
    let a = c.args in
    lrc_step (take a.data_length a.frame.now) c.loop-b.b-index _ (omega arith) (omega arith) (c.wrapping_sub_u8-lrc.ensures.value ∙ c.loop-b.invariant)

pub returns : goal.returns
returns c =
    let a = c.args in
    let s = take a.data_length a.frame.now in
    ap (λ (b : ℕ). (0, b)) (c.loop-b.invariant ∙ ap lrc (take_all c.loop-b.b-index s (omega arith)))
    ∙ sym (ap told (pass _ _ _ (omega arith)))
