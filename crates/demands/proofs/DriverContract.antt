-- All that is promised, of the driver's code: its contract, as the checker reads it (`Post`), gives it of every call, whatever the setup's
-- numbers, the list, the tables and the reply buffer. The discretes and the inputs are lent to be read, so nothing of theirs stands at the exit.
-- Assumes that the elements of the frame are bytes, as those of every slice of bytes are.
use contract.Lifetimes.{Lfts}
use borrow.Fn.Kinds.{Out, Dens, res_t, ended_of}
use denote.Triple.Clauses.{Lasts, at_exit}
use Rattle.modbus.specs.Bytes.{Bytes}
use Rattle.driver.specs.Driven.{Call, lending, Leaves, leaving}
use Rattle.driver.proofs.drive.Kinds as drive-kinds
use Rattle.driver.proofs.drive.Reads as drive-reads
use Rattle.demands.specs.Promised.{Promised}
use Rattle.demands.proofs.OnBytes.{promised}

-- a call with these arguments: what it is lent
module _ (κs : Lfts 7) (a : Dens κs drive-kinds.ps) where
  abbrev pub lent : Call
  lent =
      lending a.0 a.1.0.now a.1.1.0.now a.1.1.1.0.now a.1.1.1.1.0.now a.1.1.1.1.1.0.now
      a.1.1.1.1.1.1.0.now a.1.1.1.1.1.1.1.0.now

  -- and what it leaves, with the result `x` and the slices `u` at the exit: the reply buffer, the coils and the holdings
  abbrev pub left : (res_t drive-kinds.r κs).Denot → Lasts (ended_of 7 drive-kinds.ps drive-kinds.r) κs a → Leaves
  left x u = leaving x u.1.1.1.1.1.1.1.0 u.1.1.0 u.1.1.1.1.0

-- of every call that meets a contract over these parameters all is promised
abbrev pub Promises : Out 7 drive-kinds.ps drive-kinds.r → Type 0
Promises Post =
    (κs : Lfts 7) (a : Dens κs drive-kinds.ps) (x : (res_t drive-kinds.r κs).Denot) (u : Lasts (ended_of 7 drive-kinds.ps drive-kinds.r) κs a)
    → Post κs a x (at_exit (ended_of 7 drive-kinds.ps drive-kinds.r) κs a u) → Bytes (lent κs a).frame → Promised (lent κs a) (left κs a x u)

pub drive : Promises drive-reads.Post
drive κs a x u post y = promised (lent κs a) y _ post
