-- `ascii::reading::parse_by_pairs` meets its contract. The loop's invariant: what is left of the reading comes to what was left at its start.
-- Assumes nothing.
use Rattle.std.proofs.Common.{◌≡◌, ◌-◌, ◌≤◌, length, take, drop}
use Rattle.modbus.specs.Step.{choose, ◌≤?◌}
use Rattle.modbus.specs.declared.ErrorKind.TheVariants.{OOB}
use Rattle.modbus.specs.Hex.{spelt}
use Rattle.ascii.specs.Reading.{finished, refused}
use Rattle.ascii.proofs.ReadingLaws.{resumed}
use Rattle.ascii.proofs.reading.parse_by_pairs.Given as goal

abbrev pub invariant-loop-data_pos : goal.invariant-loop-data_pos
invariant-loop-data_pos l = let s = spelt l.hex l.data in
    let e = choose (l.data_len ≤? length s) finished (refused OOB) in
    (l.frame_pos ≤ l.cpos)
    × (l.cpos ≤ 255)
    × (length l.frame_buf ≡ length l.initial.frame_buf)
    × (resumed e (l.cpos - l.frame_pos) l.frame_buf l.cpos (drop l.data_pos (take l.end s))
    ≡ resumed e (l.initial.cpos - l.frame_pos) l.initial.frame_buf l.initial.cpos (drop l.initial.data_pos (take l.end s)))

abbrev pub decreases-loop-data_pos : goal.decreases-loop-data_pos
decreases-loop-data_pos l = l.end - l.data_pos
