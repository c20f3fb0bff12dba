-- The side that sends a frame tells how the length of its body is read.
-- Assumes nothing.
use Rattle.std.specs.Prelude.{List, ℕ}
use Rattle.modbus.specs.Step.{Step}
use Rattle.modbus.specs.declared.ErrorKind.{ErrorKind}
use Rattle.lengths.specs.Guess.{request_body, response_body}
use Rattle.lengths.specs.declared.Side.{Side}
use Rattle.lengths.specs.declared.Side.TheVariants.{Request, Response}

abbrev pub body_of : Side → List ℕ → Step ErrorKind ℕ
body_of Request = request_body
body_of Response = response_body
