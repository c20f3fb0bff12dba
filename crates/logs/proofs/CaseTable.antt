-- The cases, one statement over each list, by computation.
-- Assumes nothing.
use mathlib.Core.Logic.Dec
use mathlib.Core.Path.{◌≡◌, refl}
use mathlib.Core.List.{List, map}
use Prim.Native.Nat.{ℕ}
use native.Mathlib.Decide.{dec_le, ℕ_discrete}
use Rattle.modbus.specs.Step.{choose, need, ◌>>◌, ◌or?◌}
use Rattle.modbus.specs.Check.{shift, shifts, crc_byte, crc_from, crc}
use Rattle.logs.specs.Search.{lengths, starts, first_in}
use Rattle.logs.specs.Log.{Peek, Report, counting, counted_in, weighed, peeked, advanced, tally, report, start}
use Rattle.logs.specs.Cases.{logs, fronts}

pub all_logs : map (λ (c : List ℕ × Report). (c.0, report start c.0)) logs ≡ logs
unfolding dec_le ℕ_discrete choose need ◌>>◌ ◌or?◌ Dec.and shift shifts crc_byte crc_from crc lengths starts first_in counting counted_in weighed peeked advanced tally report
all_logs = refl

pub all_fronts : map (λ (c : (ℕ × List ℕ) × Peek). (c.0, peeked c.0.0 c.0.1)) fronts ≡ fronts
unfolding dec_le ℕ_discrete choose need ◌>>◌ ◌or?◌ Dec.and weighed peeked
all_fronts = refl
