-- `outgoing::add_lrc` meets its contract: the LRC of bytes that are there is answered.
-- Assumes nothing.
use mathlib.Core.Path.{sym, ap, ◌∙◌}
use native.Mathlib.Omega.{arith}
use Rattle.checks.proofs.WithinLaws.{lrc_value, lrc_never}
use Rattle.outgoing.specs.Grow.{growth}
use Rattle.outgoing.proofs.WayLaws.{lrc_over, lrc_adds}
use Rattle.outgoing.proofs.add_lrc.Goals as goal

pub returns-then-len-gt255 : goal.returns-then-len-gt255
returns-then-len-gt255 c = sym (ap growth (lrc_over _ _ c.requires (omega arith)))

pub returns-in_err-lrc : goal.returns-in_err-lrc
returns-in_err-lrc c =
    let a = c.args in
    absurd (lrc_never _ a.out.now a.len.now (omega arith) c.calc_lrc.ensures _ c.in_err-lrc.was)

pub returns : goal.returns
returns c =
    let a = c.args in
    let v = lrc_value _ a.out.now a.len.now (omega arith) c.calc_lrc.ensures _ c.in_ok-lrc.was in
    c.extend.ensures ∙ sym (ap growth (lrc_adds a.len.now a.out.now c.requires (omega arith) _ v))
