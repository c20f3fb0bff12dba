-- A reader of replies that shows values exactly where it should, and the reply that tells an impostor from it.
-- Assumes nothing.
use Rattle.std.specs.Prelude.{◌↔◌, ◌≡◌, List, [], ◌∷◌, ℕ, ◌/◌, ◌≤◌, get_or, drop}
use Rattle.modbus.specs.Step.{Step, go}
use Rattle.modbus.specs.Bytes.{Bytes}
use Rattle.modbus.specs.Table.{word}
use Rattle.modbus.specs.Storage.{values}
use Rattle.demands.specs.Demand.{Request}
use Rattle.client.specs.Asking.{Declined, Reply, shows, shown_count}
use Rattle.asking.specs.Belonging.{Says, Answering}

-- transport, request, reply, room
abbrev pub Reader : Type 0
Reader = ℕ → List ℕ → List ℕ → ℕ → Step Declined Reply

abbrev pub OnlyMine : Reader → Type 0
OnlyMine R =
    (n : ℕ) (f r : List ℕ) (room : ℕ) (vs : List ℕ) → Bytes f → Bytes r
    → (R n f r room ≡ go (shows vs)) ↔ ((q : Request) × Says n f q × (shown_count q.ask ≤ room) × Answering n q vs r)

-- whatever registers stand behind the byte count of a body
abbrev pub behind_count : List ℕ → List ℕ
behind_count b = values word (get_or b 2 0 / 2) (drop 3 b)

-- two holdings asked for, and a reply with the bytes of one
abbrev pub two_asked : List ℕ
two_asked = 0x00 ∷ 0x07 ∷ 0x00 ∷ 0x00 ∷ 0x00 ∷ 0x06 ∷ 0x01 ∷ 0x03 ∷ 0x00 ∷ 0x00 ∷ 0x00 ∷ 0x02 ∷ []

abbrev pub one_sent : List ℕ
one_sent = 0x00 ∷ 0x07 ∷ 0x00 ∷ 0x00 ∷ 0x00 ∷ 0x05 ∷ 0x01 ∷ 0x03 ∷ 0x02 ∷ 0x01 ∷ 0x02 ∷ []
