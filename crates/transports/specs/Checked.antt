-- The last step of `unwrap` on a serial line: the last n bytes are the check of those before.
-- Assumes nothing.
use Rattle.std.specs.Prelude.{ℕ, ◌-◌, List, [], ◌∷◌, length, take, drop}
use Rattle.modbus.specs.Step.{Step, go, ◌>>◌, need, same?}
use Rattle.modbus.specs.Check.{lrc}
use Rattle.modbus.specs.Decode.{Message, Silent, frame_check_quiet}

abbrev pub checked : (List ℕ → List ℕ) → ℕ → List ℕ → Step Silent Message
checked check n l = do
  need (same? (drop (length l - n) l) (check (take (length l - n) l))) frame_check_quiet
  go (record { tag = []; body = take (length l - n) l })

-- the check of an ASCII frame; that of an RTU frame is `crcBytes`
abbrev pub lrc_byte : List ℕ → List ℕ
lrc_byte l = lrc l ∷ []
