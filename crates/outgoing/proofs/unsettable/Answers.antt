-- `outgoing::unsettable` meets its contract: only TCP has a length field.
-- Assumes nothing.
use Prim.Native.Nat.{suc, ◌-◌}
use mathlib.Core.Logic.{inl, inr, ⊎_elim}
use mathlib.Core.Path.{sym}
use native.Mathlib.Omega.{arith}
use Rattle.std.proofs.lemmas.Bool.{lt-ltb}
use Rattle.std.proofs.lemmas.Bool.Decides.{leb_tells}
use Rattle.modbus.proofs.StepLaws.{pick_yes, pick_no}
use Rattle.outgoing.proofs.unsettable.Goals as goal

pub returns-then-room-len : goal.returns-then-room-len
returns-then-room-len c = sym (pick_no _ _ _ (λ h. omega (arith, h.1)))

pub returns-in-Rtu : goal.returns-in-Rtu
returns-in-Rtu c =
    sym (⊎_elim (λ p. rw p (pick_yes _ _ _ (omega arith, omega arith))) (λ p. rw p (pick_yes _ _ _ (omega arith, omega arith))) c.in-Rtu.is)

pub returns-then-data_len-gt65535 : goal.returns-then-data_len-gt65535
returns-then-data_len-gt65535 c =
    rw (c.in-TcpUdp.is, lt-ltb _ _ c.if-data_len-gt65535.true) (sym (pick_no _ _ _ (λ h. omega (arith, h.0))))

pub returns-else-data_len-gt65535 : goal.returns-else-data_len-gt65535
returns-else-data_len-gt65535 c =
    let a = c.args in
    rw c.in-TcpUdp.is
    elim (leb_tells (suc (a.room - a.len)) 2) [
      | inl p ↦ rw p.0 (sym (pick_no _ _ _ (λ h. omega (arith, h.1))))
      | inr p ↦ rw p.0 (sym (pick_yes _ _ _ (omega arith, omega arith)))
    ]
