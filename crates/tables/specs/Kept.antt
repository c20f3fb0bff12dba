-- How cells of a kind are kept in bytes.
-- Assumes nothing.
use Rattle.modbus.specs.Storage.{Storage, packed, registers}
use Rattle.modbus.specs.declared.CellKind.{CellKind}
use Rattle.modbus.specs.declared.CellKind.TheVariants.{Bits, Words}

abbrev pub kept : CellKind → Storage
kept Bits = packed
kept Words = registers
