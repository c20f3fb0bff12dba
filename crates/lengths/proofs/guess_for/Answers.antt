-- `lengths::guess_for` meets its contract: under one of the two switches each arm is a transport.
-- Assumes nothing.
use mathlib.Core.Path.{sym, ap, ◌∙◌}
use native.Mathlib.Omega.{arith}
use Rattle.modbus.specs.Paper.{told}
use Rattle.modbus.proofs.StepLaws.{pass, fail}
use Rattle.lengths.specs.Guess.{guess}
use Rattle.lengths.proofs.guess_for.Goals as goal

pub returns-then-hex-gt1 : goal.returns-then-hex-gt1
returns-then-hex-gt1 c = sym (ap told (fail _ _ _ (λ h. omega (arith, h))))

pub returns-in-Rtu : goal.returns-in-Rtu
unfolding guess
returns-in-Rtu c = rw c.in-Rtu.is (c.serial_len.ensures ∙ sym (ap told (pass _ _ _ (omega arith))))

pub returns-in-Ascii : goal.returns-in-Ascii
returns-in-Ascii c = rw c.in-Ascii.is (c.ascii_len.ensures ∙ sym (ap told (pass _ _ _ (omega arith))))

pub returns-in-TcpUdp : goal.returns-in-TcpUdp
returns-in-TcpUdp c = rw c.in-TcpUdp.is (c.tcp_len.ensures _ ∙ sym (ap told (pass _ _ _ (omega arith))))
