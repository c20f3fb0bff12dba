-- What sealing a frame makes of the reply.
-- Assumes nothing.
use Rattle.std.specs.Prelude.{ℕ, ◌≤◌, List, length, take, drop, Option, Some, None}
use Rattle.std.proofs.lemmas.List.Edits.{sets}
use Rattle.modbus.specs.Step.{choose, ◌≤?◌, ◌and?◌}
use Rattle.modbus.specs.Setup.{room_for}
use Rattle.modbus.specs.Frame.{wrap, start_of, around}
use Rattle.modbus.specs.declared.ModbusProto.{ModbusProto}

-- a body of at most 253 bytes, and a reply as long as the transport asks: so every frame fits
abbrev pub Seals : ModbusProto → ℕ → List ℕ → Type 0
Seals p n reply = (n ≤ 253) × (room_for p ≤ length reply)

abbrev pub seals? : (p : ModbusProto) (n : ℕ) (reply : List ℕ) → Dec (Seals p n reply)
seals? p n reply = (n ≤? 253) and? (room_for p ≤? length reply)

-- the frame around the n bytes that stand from the start on, laid over the front of the reply, and its length; else neither, and nothing is written
abbrev pub sealed : ModbusProto → List ℕ → ℕ → List ℕ → Option ℕ × List ℕ
sealed p tag n reply =
    choose (seals? p n reply) (Some (around p n), sets reply 0 (wrap p tag (take n (drop (start_of p) reply)))) (None, reply)
