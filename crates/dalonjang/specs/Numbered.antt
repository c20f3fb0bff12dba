-- A guess as C asks for it: a switch above 1 is OOB before all else, and then a transport above 2 is BadSetup.
-- Assumes nothing.
use Rattle.std.specs.Prelude.{List, ℕ}
use Rattle.modbus.specs.Step.{Step, stop, choose, ◌≤?◌}
use Rattle.modbus.specs.Paper.{proto_of, told, bad_transport}
use Rattle.modbus.specs.declared.ErrorKind.{ErrorKind}
use Rattle.modbus.specs.declared.ErrorKind.TheVariants.{OOB}
use Rattle.lengths.specs.Guess.{guess_under}

unfoldable pub guessed : ℕ → (List ℕ → Step ErrorKind ℕ) → ℕ → List ℕ → ℕ × ℕ
guessed hex body n f =
    choose (hex ≤? 1)
    (choose (n ≤? 2) (told (guess_under hex body (proto_of n) f)) bad_transport)
    (told (stop OOB))
