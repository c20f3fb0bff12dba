-- The numbers of document 01 on both sides, by computation over the whole list.
-- Assumes nothing.
use mathlib.Core.Path.{◌≡◌, refl}
use mathlib.Core.List.{map}
use mathlib.Core.Logic.Dec
use native.Mathlib.Decide.{dec_le, ℕ_discrete}
use Rattle.modbus.specs.Step.{◌>>=◌, ◌>>◌, need, choose, ◌or?◌, same_as?, same?}
use Rattle.modbus.specs.Bytes.{twos, pack}
use Rattle.modbus.specs.Check.{shift, shifts, crc_byte, crc_from, crc, sum, lrc}
use Rattle.modbus.specs.Hex.{digit, undigit, raised, spell, spelt, text, untext}
use Rattle.modbus.specs.Table.{every?, part, hits?}
use Rattle.modbus.specs.Request.{masked}
use Rattle.modbus.specs.Storage.{coil_at, register_at}
use Rattle.modbus.specs.Setup.{valid?}
use Rattle.modbus.specs.Unit.{listed?, broadcast?, ours?}
use Rattle.modbus.specs.Decode.{or_broken, unwrap, is_read?, lengthy?, valued?}
use Rattle.modbus.specs.Drive.{quietly, find, all_within?, weigh, judge, settle, drive}
use Rattle.modbus.specs.Bounds.{measured, bounds}

-- what computing a call of the driver opens
unfoldable pub computing : Unit {0}
unfolding ◌>>=◌ ◌>>◌ need choose ◌or?◌ same_as? same? Dec.and Dec.not dec_le ℕ_discrete twos pack shift shifts crc_byte crc_from crc sum lrc digit undigit raised spell spelt text untext every? part hits? masked coil_at register_at valid? listed? broadcast? ours? or_broken unwrap is_read? lengthy? valued? quietly find all_within? weigh judge settle drive
computing = tt

pub all_bounds : map measured bounds ≡ bounds
unfolding computing
all_bounds = refl
