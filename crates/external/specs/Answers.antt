-- What these calls answer, in the words of the code, for the contracts of private functions.
-- Assumes nothing.
use Rattle.std.specs.Prelude.{List, ℕ, zero, suc, Option, Some, None, Result}
use Rattle.modbus.specs.Paper.{paper}
use Rattle.modbus.specs.declared.ErrorKind.{ErrorKind}
use Rattle.frame.specs.State.{After, after}
use Rattle.frame.specs.declared.ModbusFrame.{ModbusFrame}

-- a code, where 0 is none
abbrev pub coded : ℕ → Option ℕ
coded zero = None
coded (suc n) = Some (suc n)

-- room for the data of a read, or none
abbrev pub room_paper : Result ℕ ErrorKind → ModbusFrame → List ℕ → After × ℕ
room_paper r s l = (after (paper r).0 s l, (paper r).1)
