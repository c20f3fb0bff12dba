-- A guess as C asks for it: the switch comes before the transport, whatever the bytes. By computation over the whole list.
-- Assumes nothing.
use mathlib.Core.Path.{◌≡◌, refl}
use mathlib.Core.List.{List, [], ◌∷◌}
use Prim.Native.Nat.{ℕ}
use native.Mathlib.Decide.{dec_le}
use Rattle.modbus.specs.Step.{choose}
use Rattle.lengths.specs.Guess.{request_body, response_body}
use Rattle.dalonjang.specs.Numbered.{guessed}

pub switch_first :
    ◌≡◌ {A = List (ℕ × ℕ)}
    (guessed 2 request_body 3 [] ∷ guessed 1 request_body 3 [] ∷ guessed 2 response_body 2 [] ∷ guessed 255 response_body 255 [] ∷ [])
    ((21, 0) ∷ (10, 0) ∷ (21, 0) ∷ (21, 0) ∷ [])
unfolding dec_le choose guessed
switch_first = refl
