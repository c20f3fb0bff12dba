-- The LRC of a frame's first n bytes (document 01: where the frame has fewer, FrameBroken).
-- Assumes nothing.
use Rattle.std.specs.Prelude.{ℕ, List, length, take}
use Rattle.modbus.specs.Step.{Step, go, ◌>>◌, need, ◌≤?◌}
use Rattle.modbus.specs.Check.{lrc}
use Rattle.modbus.specs.declared.ErrorKind.{ErrorKind}
use Rattle.modbus.specs.declared.ErrorKind.TheVariants.{FrameBroken}

abbrev pub lrc_within : List ℕ → ℕ → Step ErrorKind ℕ
lrc_within s n = need (n ≤? length s) FrameBroken >> go (lrc (take n s))
