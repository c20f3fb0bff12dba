-- `client::hear::show` meets its contract: the head and the length, and then the cells.
-- Assumes nothing.
use mathlib.Core.Path.{sym, ap, ◌∙◌}
use mathlib.Core.List.{List}
use Prim.Native.Nat.{ℕ}
use native.Mathlib.Omega.{arith}
use lib.ListN.{length-take, length-drop}
use lib.Seq.{sets}
use Rattle.modbus.specs.Paper.{kind_in}
use Rattle.modbus.specs.Storage.{values}
use Rattle.modbus.proofs.StepLaws.{holds, holds_not}
use Rattle.client.specs.Asking.{kind_shown, answered, read_into}
use Rattle.client.proofs.HearLaws.{shown_into, read_2000, read_unanswered, read_answered, values_length, behind_head}
use Rattle.client.proofs.hear.show.Goals as goal

pub returns-then-not-brings : goal.returns-then-not-brings
returns-then-not-brings c ask sent w =
    let a = c.args in
    sym (ap (read_into a.values.now)
    (read_unanswered sent a.body.now ask a.function a.count w _ (c.shown_kind-kind.ensures ask a.count w) _ c.octets_of.ensures
    (holds_not _ _ c.brings.ensures c.if-not-brings.true)))

pub slice_bounds-spread-count : goal.slice_bounds-spread-count
slice_bounds-spread-count c = omega (arith, (holds _ _ c.brings.ensures c.if-not-brings.false).0)

pub slice_bounds-spread-start : goal.slice_bounds-spread-start
slice_bounds-spread-start c = omega (arith, (holds _ _ c.brings.ensures c.if-not-brings.false).0)

pub spread-requires : goal.spread-requires
spread-requires c =
    let h = holds _ _ c.brings.ensures c.if-not-brings.false in
    (simp (length-take, length-drop) (omega (arith, h.0, c.octets_of.ensures)), read_2000 (kind_shown c.requires.0.0) c.args.count c.requires.0.1.most, c.requires.1)

pub returns : goal.returns
returns c ask sent w =
    let a = c.args in
    let k = kind_in c.shown_kind-kind.result in
    let h = holds _ _ c.brings.ensures c.if-not-brings.false in
    shown_into a.values.now (answered ask sent a.body.now) _ _ a.count
    (read_answered sent a.body.now ask a.function a.count w k (c.shown_kind-kind.ensures ask a.count w) _ c.octets_of.ensures h) (values_length k a.count _)
    (c.spread.ensures ∙ ap (λ (d : List ℕ). sets a.values.now 0 (values k a.count d)) (behind_head a.body.now))
