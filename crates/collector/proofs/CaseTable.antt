-- The collector's cases, one statement over the whole list, by computation.
-- Assumes nothing.
use mathlib.Core.Path.{◌≡◌, refl}
use mathlib.Core.List.{map}
use Rattle.modbus.specs.Storage.{put_register, store}
use Rattle.modbus.proofs.Bounds.{computing}
use Rattle.driver.specs.Driven.{called}
use Rattle.collector.specs.Collected.{held_in, offered, rtu_called}
use Rattle.collector.specs.Cases.{computed, cases}

pub all_cases : map computed cases ≡ cases
unfolding computing put_register store called held_in offered rtu_called
all_cases = refl
