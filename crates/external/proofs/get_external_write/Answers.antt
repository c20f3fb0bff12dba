-- `external::get_external_write` meets its contract: a long response, and each function.
-- Assumes nothing.
use mathlib.Core.Logic.{⊎_elim}
use mathlib.Core.Path.{sym, ◌∙◌}
use Prim.Native.Nat.{◌≤◌}
use lib.ListN.{length}
use native.Mathlib.Omega.{arith}
use Rattle.frame.specs.declared.ModbusFunction.TheVariants.{GetCoils, GetDiscretes, GetHoldings, GetInputs}
use Rattle.external.specs.External.{write_described_by}
use Rattle.external.proofs.CallLaws.{call_exceeds, call_by}
use Rattle.external.proofs.get_external_write.Goals as goal

pub returns-then-response-frame : goal.returns-then-response-frame
returns-then-response-frame c = sym (call_exceeds write_described_by _ _ _ (omega arith))

pub returns-in-GetCoils : goal.returns-in-GetCoils
returns-in-GetCoils c =
    let h : c.args.frame.now.response_len ≤ length c.args.response.now = omega arith in
    sym (⊎_elim (call_by write_described_by _ c.args.buf.now _ h GetCoils) (⊎_elim (call_by write_described_by _ _ _ h GetDiscretes)
    (⊎_elim (call_by write_described_by _ _ _ h GetHoldings) (call_by write_described_by _ _ _ h GetInputs))) c.in-GetCoils.is)

pub returns-in-SetCoil : goal.returns-in-SetCoil
returns-in-SetCoil c =
    c.want_coil.ensures ∙ sym (call_by write_described_by _ _ _ (omega arith) _ c.in-SetCoil.is)

pub returns-in-SetHolding : goal.returns-in-SetHolding
returns-in-SetHolding c =
    c.want_holding.ensures _ ∙ sym (call_by write_described_by _ _ _ (omega arith) _ c.in-SetHolding.is)

pub returns-in-SetCoilsBulk : goal.returns-in-SetCoilsBulk
returns-in-SetCoilsBulk c =
    c.want_many.ensures _ ∙ sym (call_by write_described_by _ _ _ (omega arith) _ c.in-SetCoilsBulk.is)

pub returns-in-SetHoldingsBulk : goal.returns-in-SetHoldingsBulk
returns-in-SetHoldingsBulk c =
    c.want_many-in-SetHoldingsBulk.ensures _ ∙ sym (call_by write_described_by _ _ _ (omega arith) _ c.in-SetHoldingsBulk.is)
