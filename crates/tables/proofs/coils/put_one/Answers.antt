-- `tables::coils::put_one` meets its contract.
-- Assumes nothing.
use Rattle.modbus.specs.Table.{part}
use Rattle.modbus.specs.Storage.{coil_at, put_coil, store}
use Rattle.tables.proofs.coils.put_one.Goals as goal

pub returns : goal.returns
unfolding store put_coil part coil_at
returns c = rw (c.with_bit.ensures, c.bit_of.ensures)
