-- The setup's test and the room, by what their answers say.
-- Assumes nothing.
use mathlib.Core.List.{List}
use Prim.Native.Nat.{ℕ}
use lib.ListN.{length}
use Rattle.modbus.specs.Setup.{Valid}
use Rattle.modbus.specs.Table.{coils, discretes, holdings, inputs, every}
use Rattle.driver.specs.declared.Setup.{Setup as Numbers}
use Rattle.driver.specs.Driven.{lending, setup_of}
use Rattle.driver.specs.Serving.{Good}

-- the setup that the definitions speak of
module _ (n : Numbers) (list c d h i f reply : List ℕ) where
  pub good_valid : Good n (length c) (length d) (length h) (length i) → Valid (setup_of (lending n list c d h i f reply))
  good_valid (t, x, f, l) =
      record { transport = t; hex = x; held = every _ ((f.0, l.0), ((f.1, l.1), ((f.2, l.2), (f.3, l.3)))) }

  pub valid_good : Valid (setup_of (lending n list c d h i f reply)) → Good n (length c) (length d) (length h) (length i)
  valid_good v =
      let t = v.held in (
        v.transport,
        v.hex,
        ((t coils).0, (t discretes).0, (t holdings).0, (t inputs).0),
        ((t coils).1, (t discretes).1, (t holdings).1, (t inputs).1),
      )
