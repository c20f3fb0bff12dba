-- Document 01's cases with those of document 02's requests, and the frames of every function and transport, one statement over each whole list,
-- by computation.
-- Assumes nothing.
use mathlib.Core.Path.{◌≡◌, refl}
use mathlib.Core.List.{map, ◌++◌}
use Rattle.modbus.specs.Storage.{with_bit, put_coil, put_register, store}
use Rattle.modbus.proofs.Bounds.{computing}
use Rattle.driver.specs.Driven.{called}
use Rattle.demands.specs.Station.{exchanged}
use Rattle.demands.specs.Cases.{computed, cases}
use Rattle.demands.specs.Requested.{requested}
use Rattle.demands.specs.Exchanges.{exchanges}

pub all_cases : map computed (cases ++ requested) ≡ cases ++ requested
unfolding computing with_bit put_coil put_register store called
all_cases = refl

pub all_exchanges : map exchanged exchanges ≡ exchanges
unfolding computing with_bit put_coil put_register store called
all_exchanges = refl
