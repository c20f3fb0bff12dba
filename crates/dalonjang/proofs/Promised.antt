-- All that is promised of the driver is promised of the call that C makes: over the contract of `dalonjang_drive` as the checker reads it. And what the
-- result of `dalonjang_quiet` does not name is as lent, over its contract.
-- Assumes that the elements of the frame and of the collector are bytes, as those of every slice of bytes are.
use mathlib.Core.Path.{refl, ap}
use mathlib.Core.List.{List, [], ◌∷◌}
use Prim.Native.Nat.{ℕ}
use contract.Lifetimes.{Lfts}
use borrow.Fn.Kinds.{Dens, res_t, ended_of}
use denote.Triple.Clauses.{Lasts, at_exit}
use Rattle.modbus.specs.Bytes.{Bytes}
use Rattle.modbus.proofs.StepLaws.{either}
use Rattle.driver.specs.Driven.{Call, lending, framing, Leaves, leaving}
use Rattle.collector.specs.Collected.{held_in, refusing, rtu_called, closing, left_by}
use Rattle.demands.specs.Changed.{nothing, Held}
use Rattle.demands.proofs.OnBytes.{held_on_bytes}
use Rattle.demands.proofs.DriverContract.{Promises, drive as driver-drive}
use Rattle.dalonjang.proofs.dalonjang_drive.Reads as dalonjang-drive-reads
use Rattle.dalonjang.proofs.dalonjang_quiet.Kinds as dalonjang-quiet-kinds
use Rattle.dalonjang.proofs.dalonjang_quiet.Reads as dalonjang-quiet-reads

-- the driver's contract is this one
pub drive : Promises dalonjang-drive-reads.Post
drive = driver-drive

-- ---- the quiet signal

module _ (s : List ℕ) (l : Call) where
  -- nothing is named, and nothing written
  refusing_holds : (o : ℕ) → Held l.tables (refusing o l)
  refusing_holds o = record { told = nothing; bits = λ _ _. refl; words = λ _ _. refl }

  -- nothing was held, another transport, or the driver's call
  closing_holds : (f : List ℕ) → Bytes f → Held l.tables (left_by (closing s l f)).0
  unfolding rtu_called
  closing_holds [] y = refusing_holds 13
  closing_holds (b ∷ f) y =
      either (Held l.tables) _ _ _ (λ _. held_on_bytes (framing l (b ∷ f)) y _ refl) (λ _. refusing_holds 10)

-- what a call with these arguments is lent beside the collector
abbrev pub lent : (κs : Lfts 7) → Dens κs dalonjang-quiet-kinds.ps → Call
lent κs a =
    lending a.0 a.1.0.now a.1.1.0.now a.1.1.1.0.now a.1.1.1.1.0.now a.1.1.1.1.1.0.now []
    a.1.1.1.1.1.1.1.0.now

-- a call of `dalonjang_quiet`: its arguments `a`, its result `x`, what it leaves at the exit `u`, and that these meet the contract
pub quiet : (κs : Lfts 7) (a : Dens κs dalonjang-quiet-kinds.ps) (x : (res_t dalonjang-quiet-kinds.r κs).Denot)
    (u : Lasts (ended_of 7 dalonjang-quiet-kinds.ps dalonjang-quiet-kinds.r) κs a)
    → dalonjang-quiet-reads.Post κs a x (at_exit (ended_of 7 dalonjang-quiet-kinds.ps dalonjang-quiet-kinds.r) κs a u)
    → Bytes (held_in a.1.1.1.1.1.1.0.now)
    → Held (lent κs a).tables
    (leaving x u.1.1.1.1.1.1.1.0 u.1.1.0 u.1.1.1.1.0)
quiet κs a x u post y =
    rw (ap (λ (p : Leaves × List ℕ). p.0) post)
    (closing_holds a.1.1.1.1.1.1.0.now (lent κs a) (held_in a.1.1.1.1.1.1.0.now) y)
