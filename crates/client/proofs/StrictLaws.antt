-- The client reads requests and replies strictly: the switch leaves a frame as it stands.
-- Assumes nothing.
use mathlib.Core.Path.{◌≡◌, sym, ap, ◌∙◌}
use mathlib.Core.List.{List}
use Prim.Native.Nat.{ℕ}
use Rattle.modbus.specs.Step.{Step}
use Rattle.modbus.specs.Decode.{Message, Silent, unwrap, spelled_in}
use Rattle.modbus.specs.declared.ModbusProto.{ModbusProto}
use Rattle.modbus.proofs.FrameLaws.{spelled_strict}

pub strict : (p : ModbusProto) (f : List ℕ) (s : Step Silent Message) → unwrap p (spelled_in p 0 f) ≡ s → unwrap p f ≡ s
strict p f s e = ap (unwrap p) (sym (spelled_strict p f)) ∙ e
