-- `external::get_external_read` meets its contract: a long response, and each function.
-- Assumes nothing.
use mathlib.Core.Logic.{⊎_elim}
use mathlib.Core.Path.{sym, ◌∙◌}
use Prim.Native.Nat.{◌≤◌}
use lib.ListN.{length}
use native.Mathlib.Omega.{arith}
use Rattle.frame.specs.declared.ModbusFunction.TheVariants.{GetCoils, GetDiscretes, GetHoldings, GetInputs, SetCoil, SetHolding, SetCoilsBulk, SetHoldingsBulk}
use Rattle.external.specs.External.{read_described_by}
use Rattle.external.proofs.CallLaws.{call_exceeds, call_by}
use Rattle.external.proofs.get_external_read.Goals as goal

pub returns-then-response-frame : goal.returns-then-response-frame
returns-then-response-frame c = sym (call_exceeds read_described_by _ _ _ (omega arith))

pub returns-in-GetCoils : goal.returns-in-GetCoils
returns-in-GetCoils c =
    let h : c.args.frame.now.response_len ≤ length c.args.response.now = omega arith in
    c.want.ensures
    ∙ sym (⊎_elim (call_by read_described_by _ _ _ h GetCoils) (call_by read_described_by _ _ _ h GetDiscretes) c.in-GetCoils.is)

pub returns-in-GetHoldings : goal.returns-in-GetHoldings
returns-in-GetHoldings c =
    let h : c.args.frame.now.response_len ≤ length c.args.response.now = omega arith in
    c.want-in-GetHoldings.ensures
    ∙ sym (⊎_elim (call_by read_described_by _ _ _ h GetHoldings) (call_by read_described_by _ _ _ h GetInputs) c.in-GetHoldings.is)

pub returns-in-SetCoil : goal.returns-in-SetCoil
returns-in-SetCoil c =
    let h : c.args.frame.now.response_len ≤ length c.args.response.now = omega arith in
    sym (⊎_elim (call_by read_described_by _ c.args.buf.now _ h SetCoil) (⊎_elim (call_by read_described_by _ _ _ h SetHolding)
    (⊎_elim (call_by read_described_by _ _ _ h SetCoilsBulk) (call_by read_described_by _ _ _ h SetHoldingsBulk))) c.in-SetCoil.is)
