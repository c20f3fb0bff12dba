-- `checks::digit_under` meets its contract: what the kind of a digit comes to under the switch.
-- Assumes nothing.
use Rattle.modbus.specs.declared.Digit.TheVariants.{Number, Capital}
use Rattle.std.proofs.Common.{◌≡◌}
use Rattle.checks.proofs.DigitLaws.{number_under, capital_under, small_strict, small_lenient}
use Rattle.checks.proofs.digit_under.Goals as goal

pub returns-in-Small : goal.returns-in-Small
returns-in-Small c = small_strict _ _ _ c.chr_to_hex.ensures _ c.in_ok-chr_to_hex.was _ c.in-Small.is c.if-hex-eq-STRICT.true

pub returns-in-Number : goal.returns-in-Number
returns-in-Number c = small_lenient _ _ _ c.chr_to_hex.ensures _ c.in_ok-chr_to_hex.was _ c.in-Small.is c.if-hex-eq-STRICT.false

pub returns-in-Number-2 : goal.returns-in-Number-2
returns-in-Number-2 c =
    let e : c.in_ok-chr_to_hex.field-0 ≡ Number c.in-Number.v = cc in
    number_under _ _ _ c.chr_to_hex.ensures _ c.in_ok-chr_to_hex.was _ e

pub returns-in-Number-3 : goal.returns-in-Number-3
returns-in-Number-3 c =
    let e : c.in_ok-chr_to_hex.field-0 ≡ Capital c.in-Number.v = cc in
    capital_under _ _ _ c.chr_to_hex.ensures _ c.in_ok-chr_to_hex.was _ e
