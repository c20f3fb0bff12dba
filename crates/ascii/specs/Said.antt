-- What the code reads of two digits, as the step that it is in a reading.
-- Assumes nothing.
use Rattle.std.specs.Prelude.{ℕ, Result, Ok, Err}
use Rattle.modbus.specs.Step.{Step, stop, go}
use Rattle.modbus.specs.declared.ErrorKind.{ErrorKind}
use Rattle.ascii.specs.Reading.{Ending, refused}

abbrev pub said : Result ℕ ErrorKind → Step Ending ℕ
said (Ok b) = go b
said (Err k) = stop (refused k)
