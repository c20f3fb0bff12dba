-- A driver that meets the customer's third demand on every input, and the frames that tell the impostors of document 01 from it.
-- Assumes nothing.
use Rattle.std.specs.Prelude.{List, ◌∷◌, ◌++◌, ℕ}
use Rattle.modbus.specs.Bytes.{Bytes, two}
use Rattle.modbus.specs.Table.{Tables}
use Rattle.modbus.specs.Frame.{wrap}
use Rattle.modbus.specs.Setup.{Setup, Valid, Roomy}
use Rattle.modbus.specs.Drive.{Result}
use Rattle.modbus.specs.declared.ModbusProto.TheVariants.{TcpUdp}
use Rattle.demands.specs.Demand.{Demand3}
use Rattle.modbus.specs.Bounds.{six}

abbrev pub Driver : Type 0
Driver = Setup → Tables → List ℕ → Result

-- given a valid setup with reply room
abbrev pub Meets : Driver → Type 0
Meets D = (s : Setup) (t : Tables) (f : List ℕ) → Bytes f → Valid s → Roomy s → Demand3 s t f (D s t f)

-- ---- frames for unit 1 on TCP; the tables are those of the cases, with 16 coils and 4 holdings

-- case a with any transaction number: read holdings 0 and 1
abbrev pub asking : ℕ → List ℕ
asking n = wrap TcpUdp (two n) (six 3 0 2)

-- read one holding at 65,535
abbrev pub beyond : List ℕ
beyond = wrap TcpUdp (two 0) (six 3 65535 1)

-- write two registers at 3, of which one is inside
abbrev pub across : ℕ → ℕ → List ℕ
across v w = wrap TcpUdp (two 0) (six 16 3 2 ++ (4 ∷ two v ++ two w))
