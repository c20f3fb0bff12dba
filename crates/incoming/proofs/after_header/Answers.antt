-- `incoming::after_header` meets its contract: each way out is a law of a TCP header.
-- Assumes nothing.
use Rattle.std.proofs.Common.{sym, ap, arith}
use Rattle.modbus.specs.Paper.{told}
use Rattle.incoming.proofs.EnvelopeLaws.{header_short, header_foreign, header_length, tcp_begins}
use Rattle.incoming.proofs.after_header.Goals as goal
use Rattle.incoming.proofs.after_header.Goals.{then-buf-lt6-via-then-buf-lt6, then-buf-lt6-via-else-buf-lt6+then-word-ne0}

pub returns-then-buf-lt6 : goal.returns-then-buf-lt6
returns-then-buf-lt6 c =
    elim c.then-buf-lt6.branch [
      | then-buf-lt6-via-then-buf-lt6 w ↦ sym (ap told (header_short _ _ (omega arith)))
      | then-buf-lt6-via-else-buf-lt6+then-word-ne0 w ↦ sym (ap told (header_foreign _ _ (omega arith) (rw w.word.ensures at w.if-word-ne0.true)))
    ]

pub returns-in-6-to-250 : goal.returns-in-6-to-250
returns-in-6-to-250 c = sym (ap told (tcp_begins _ _ (omega arith) (cc) (omega arith) (omega arith)))

pub returns-in_default : goal.returns-in_default
returns-in_default c = sym (ap told (header_length _ _ (omega arith) (cc) (λ h. omega arith)))

pub returns-in_default-2 : goal.returns-in_default-2
returns-in_default-2 c = sym (ap told (header_length _ _ (omega arith) (cc) (λ h. omega arith)))
