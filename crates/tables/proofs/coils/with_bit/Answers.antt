-- `tables::coils::with_bit` meets its contract: the mask added, or taken away.
-- Assumes nothing.
use mathlib.Core.Path.{sym, ap, ◌∙◌}
use mathlib.Core.Bool.{Bool}
use Prim.Native.Nat.{ℕ, ◌-◌}
use lib.Bits.{bit_and, bit_or}
use Rattle.modbus.specs.Paper.{digit_of}
use Rattle.modbus.specs.Storage.{with_bit}
use Rattle.modbus.proofs.BitLaws.{one_shl, or_bit, and_bit}
use Rattle.tables.proofs.coils.with_bit.Goals as goal

pub returns-then-on : goal.returns-then-on
returns-then-on c =
    let a = c.args in
    ap (bit_or a.byte) (one_shl a.n c.requires)
    ∙ or_bit a.byte a.n
    ∙ ap (λ (v : Bool). with_bit a.byte a.n (digit_of v)) (sym c.if-on.true)

pub returns-else-on : goal.returns-else-on
returns-else-on c =
    let a = c.args in
    ap (λ (k : ℕ). bit_and a.byte (255 - k)) (one_shl a.n c.requires)
    ∙ and_bit a.byte a.n c.ranges.byte.fits c.requires
    ∙ ap (λ (v : Bool). with_bit a.byte a.n (digit_of v)) (sym c.if-on.false)
