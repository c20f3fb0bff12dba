-- How a call goes on from what another answered, in the words of the code, for the contracts of private functions.
-- Assumes nothing.
use Rattle.std.specs.Prelude.{List, ℕ, Result, Ok, Err, ⊤}
use Rattle.modbus.specs.declared.ErrorKind.{ErrorKind}
use Rattle.frame.specs.State.{with_error, After, well}
use Rattle.frame.specs.declared.ModbusFrame.{ModbusFrame}
use Rattle.process.specs.Process.{write_echoed}

-- a write's cells were stored, or could not be
abbrev pub confirmed_by : ModbusFrame → List ℕ → List ℕ → Result ⊤ ErrorKind → After
confirmed_by s buf out (Ok tt) = write_echoed s buf out
confirmed_by s buf out (Err k) = well (with_error 2 s) out
