-- `process::process_read` meets its contract: a long response, and each function.
-- Assumes nothing.
use mathlib.Core.Logic.{⊎_elim}
use mathlib.Core.Path.{sym, ◌∙◌}
use Prim.Native.Nat.{◌≤◌}
use lib.ListN.{length}
use native.Mathlib.Omega.{arith}
use Rattle.frame.specs.declared.ModbusFunction.TheVariants.{GetCoils, GetDiscretes, GetHoldings, GetInputs, SetCoil, SetHolding, SetCoilsBulk, SetHoldingsBulk}
use Rattle.process.proofs.ProcessLaws.{read_long, read_by_law}
use Rattle.process.proofs.process_read.Goals as goal

pub returns-then-response-frame : goal.returns-then-response-frame
returns-then-response-frame c = sym (read_long _ _ _ _ (omega arith))

pub returns-in-GetCoils : goal.returns-in-GetCoils
returns-in-GetCoils c =
    c.read.ensures ∙ read_by_law _ _ _ _ (omega arith) GetCoils c.in-GetCoils.is

pub returns-in-GetDiscretes : goal.returns-in-GetDiscretes
returns-in-GetDiscretes c =
    c.read-in-GetDiscretes.ensures ∙ read_by_law _ _ _ _ (omega arith) GetDiscretes c.in-GetDiscretes.is

pub returns-in-GetHoldings : goal.returns-in-GetHoldings
returns-in-GetHoldings c =
    c.read-in-GetHoldings.ensures ∙ read_by_law _ _ _ _ (omega arith) GetHoldings c.in-GetHoldings.is

pub returns-in-GetInputs : goal.returns-in-GetInputs
returns-in-GetInputs c =
    c.read-in-GetInputs.ensures ∙ read_by_law _ _ _ _ (omega arith) GetInputs c.in-GetInputs.is

pub returns-in-SetCoil : goal.returns-in-SetCoil
returns-in-SetCoil c =
    let h : c.args.frame.now.response_len ≤ length c.args.response.now = omega arith in
    ⊎_elim (read_by_law _ _ _ _ h SetCoil) (⊎_elim (read_by_law _ _ _ _ h SetHolding)
    (⊎_elim (read_by_law _ _ _ _ h SetCoilsBulk) (read_by_law _ _ _ _ h SetHoldingsBulk))) c.in-SetCoil.is
