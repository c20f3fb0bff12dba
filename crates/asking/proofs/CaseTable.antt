-- The asking side's cases, one statement over the whole list, by computation.
-- Assumes nothing.
use mathlib.Core.Path.{◌≡◌, refl}
use mathlib.Core.List.{map, ◌++◌}
use Rattle.modbus.proofs.Bounds.{computing}
use Rattle.client.specs.Asking.{or_bad_request, or_silent, fits?, all_fit?, three?, five?, permitted?, getting, setting, generated, sent_as, excepts?, answers?, understood}
use Rattle.asking.specs.Cases.{computed, building, reading}

-- what computing a call of the asking side opens
unfoldable pub asking : Unit {0}
unfolding computing or_bad_request or_silent fits? all_fit? three? five? permitted? getting setting generated sent_as excepts? answers? understood
asking = tt

pub all_cases : map computed (building ++ reading) ≡ building ++ reading
unfolding asking
all_cases = refl
