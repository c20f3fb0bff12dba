-- The setup (document 01, "Tables and setup"): a transport, a unit number, the switch for lower-case digits (document 02, 2026-06), a list of
-- broadcast numbers, how many cells and bytes each table has, and the room for the reply.
-- Assumes nothing.
use Rattle.std.specs.Prelude.{List, ℕ, ◌+◌, ◌≤◌}
use Rattle.modbus.specs.Step.{◌≤?◌, ◌and?◌, same_as?}
use Rattle.modbus.specs.Paper.{proto_of}
use Rattle.modbus.specs.Table.{Tab, kind_of, every?, Sizes, Range}
use Rattle.modbus.specs.Request.{octets}
use Rattle.modbus.specs.declared.ModbusProto.{ModbusProto}
use Rattle.modbus.specs.declared.ModbusProto.TheVariants.{Rtu, Ascii, TcpUdp}

pub record Setup : Type 0 where
  pub transport : ℕ
  pub unit : ℕ
  pub hex : ℕ
  pub broadcasts : List ℕ
  pub cells : Sizes
  pub bytes : Sizes
  pub room : ℕ

abbrev pub proto : Setup → ModbusProto
proto s = proto_of s.transport

-- ---- BadSetup: transport above 2, a switch above 1, more than 65,536 cells, or a table slice too short for its cells

abbrev pub Held : Setup → Tab → Type 0
Held s tab = (s.cells tab ≤ 65536) × (octets (kind_of tab) (s.cells tab) ≤ s.bytes tab)

abbrev pub held? : (s : Setup) (tab : Tab) → Dec (Held s tab)
held? s tab = (s.cells tab ≤? 65536) and? (octets (kind_of tab) (s.cells tab) ≤? s.bytes tab)

pub record Valid (s : Setup) : Type 0 where
  pub transport : s.transport ≤ 2
  pub hex : s.hex ≤ 1
  pub held : (tab : Tab) → Held s tab

unfoldable pub valid? : (s : Setup) → Dec (Valid s)
valid? s =
    same_as? ((s.transport ≤? 2) and? (s.hex ≤? 1) and? every? (Held s) (held? s))
    (λ h. record { transport = h.0; hex = h.1.0; held = h.1.1 })
    (λ v. (v.transport, (v.hex, v.held)))

-- ---- NoRoom: reply buffer under 260 bytes (RTU, TCP) or 511 (ASCII)

abbrev pub room_for : ModbusProto → ℕ
room_for Rtu = 260
room_for Ascii = 511
room_for TcpUdp = 260

abbrev pub Roomy : Setup → Type 0
Roomy s = room_for (proto s) ≤ s.room

abbrev pub roomy? : (s : Setup) → Dec (Roomy s)
roomy? s = room_for (proto s) ≤? s.room

-- ---- the address rule: start + count is at most the cells

abbrev pub Within : Setup → Range → Type 0
Within s r = r.first + r.count ≤ s.cells r.tab

abbrev pub within? : (s : Setup) (r : Range) → Dec (Within s r)
within? s r = r.first + r.count ≤? s.cells r.tab
