-- `client::build::unfit` meets its contract, by the kind.
-- Assumes nothing.
use mathlib.Core.Path.{◌∙◌}
use native.Mathlib.Omega.{arith}
use Rattle.std.proofs.lemmas.Bool.{lt-ltb}
use Rattle.modbus.specs.Table.{word, Fits}
use Rattle.modbus.proofs.BytesLaws.{all_by}
use Rattle.client.proofs.LayLaws.{unfit_bits, unfit_some, unfit_words}
use Rattle.client.proofs.build.unfit.Goals as goal

pub returns-then-values-gt1968 : goal.returns-then-values-gt1968
returns-then-values-gt1968 c =
    let a = c.args in
    lt-ltb _ _ c.if-values-gt1968.true ∙ unfit_bits a.kind a.values.now c.in-Bits.is c.if-values-gt1968.true

pub returns-else-values-gt1968 : goal.returns-else-values-gt1968
returns-else-values-gt1968 c = let a = c.args in unfit_some a.kind a.values.now _ c.in-Bits.is c.if-values-gt1968.false c.above_one.ensures

pub returns-in-Words : goal.returns-in-Words
returns-in-Words c =
    let a = c.args in
    unfit_words a.kind a.values.now c.in-Words.is (all_by (Fits word) a.values.now (λ i h. omega (arith, c.type_inv.values i)))
