-- `process::finalize_response` meets its contract: no exception, one that was refused, one that was added.
-- Assumes nothing.
use mathlib.Core.Path.{◌≡◌, ap, ◌∙◌}
use Prim.Native.Nat.{ℕ}
use native.Mathlib.Omega.{arith}
use Rattle.modbus.specs.declared.ModbusProto.{ModbusProto}
use Rattle.outgoing.specs.Grow.{Response, growth, seal}
use Rattle.frame.proofs.StateLaws.{handed}
use Rattle.process.proofs.ProcessLaws.{final_unset, final_refused, final_set}
use Rattle.process.proofs.finalize_response.Goals as goal
use Rattle.process.proofs.finalize_response.Goals.{in-Some+in_ok-except, in_default}

pub returns-in_err-except : goal.returns-in_err-except
returns-in_err-except c =
    handed _ _ _ _ c.from_residual.ensures.1
    ∙ final_refused c.args.frame.now c.args.response.now c.except.result _ _ _ c.in-Some.is _ c.in_err-except.was c.except.ensures

-- the check is that of the frame's transport
sealed_as : (p : ModbusProto) (m : Response) {q : ModbusProto} {x : ℕ × Response} → x ≡ growth (seal q m) → q ≡ p → x ≡ growth (seal p m)
sealed_as p m e h = e ∙ ap (λ (k : ModbusProto). growth (seal k m)) h

pub returns : goal.returns
returns c =
    let s = c.args.frame.now in
    elim c.match-frame.branch [
      | in-Some+in_ok-except w ↦
          final_set s c.args.response.now c.seal.result _ _ _ w.in-Some.is _ _ _ _ _ w.frame-is w.response-is w.in_ok-except.was w.except.ensures
          (sealed_as _ _ c.seal.ensures (grind arith))
      | in_default w ↦
          final_unset s c.args.response.now c.seal.result _ _ _ _ w.frame-is w.response-is w.in_default.is (sealed_as _ _ c.seal.ensures (grind arith))
    ]
