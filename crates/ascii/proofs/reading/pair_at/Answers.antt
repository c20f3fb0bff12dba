-- `ascii::reading::pair_at` meets its contract: each way out is one law of a pair.
-- Assumes nothing.
use Rattle.std.proofs.Common.{sym, ap, ◌∙◌, arith}
use Rattle.modbus.specs.Hex.{spelt}
use Rattle.modbus.proofs.HexLaws.{digit_undigit}
use Rattle.modbus.proofs.PaperLaws.{handed_on, byte_value, byte_refusal}
use Rattle.ascii.specs.Said.{said}
use Rattle.ascii.proofs.ReadingLaws.{pair_first, pair_second, pair_both, second_none}
use Rattle.ascii.proofs.SpeltLaws.{no_stop_spell, second_spelt}
use Rattle.ascii.proofs.reading.pair_at.Goals as goal

pub returns-in_err-high : goal.returns-in_err-high
returns-in_err-high c =
    ap said (handed_on _ c.from_residual.ensures.1)
    ∙ sym
    (pair_first _ _ (no_stop_spell _ _ c.requires.2) _
    (byte_refusal _ _ _ c.digit_under.ensures c.in_err-high.was))

pub returns-then-end-at : goal.returns-then-end-at
returns-then-end-at c =
    let a = c.args in
    sym
    (pair_second _ _ (no_stop_spell _ _ c.requires.2) _ _
    (byte_value _ _ _ c.digit_under.ensures c.in_ok-high.was) (second_none (spelt a.hex a.«data».now) _ _ c.if-end-at.true))

pub returns-in_err-low : goal.returns-in_err-low
returns-in_err-low c =
    ap said (handed_on _ c.from_residual-in_err-low.ensures.1)
    ∙ sym
    (pair_second _ _ (no_stop_spell _ _ c.requires.2) _ _
    (byte_value _ _ _ c.digit_under.ensures c.in_ok-high.was)
    (second_spelt c.args.hex c.args.«data».now _ _ c.if-end-at.false c.requires.1
    ∙ byte_refusal _ _ _ c.digit_under-2.ensures c.in_err-low.was))

pub overflow_mul-result : goal.overflow_mul-result
overflow_mul-result c =
    let d = digit_undigit _ _ (byte_value _ _ _ c.digit_under.ensures c.in_ok-high.was) in
    omega arith

pub overflow_add-result : goal.overflow_add-result
overflow_add-result c =
    let d = digit_undigit _ _ (byte_value _ _ _ c.digit_under.ensures c.in_ok-high.was) in
    let e = digit_undigit _ _ (byte_value _ _ _ c.digit_under-2.ensures c.in_ok-low.was) in
    omega arith

pub returns : goal.returns
returns c =
    sym
    (pair_both _ _ (no_stop_spell _ _ c.requires.2) _ _
    (byte_value _ _ _ c.digit_under.ensures c.in_ok-high.was)
    (second_spelt c.args.hex c.args.«data».now _ _ c.if-end-at.false c.requires.1
    ∙ byte_value _ _ _ c.digit_under-2.ensures c.in_ok-low.was))
