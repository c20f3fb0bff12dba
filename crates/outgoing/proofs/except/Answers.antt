-- `outgoing::except` meets its contract: each transport adds its bytes.
-- Assumes nothing.
use mathlib.Core.Logic.{⊎_elim}
use mathlib.Core.Path.{sym, ap, ◌∙◌}
use native.Mathlib.Omega.{arith}
use Rattle.modbus.specs.declared.ModbusProto.TheVariants.{Rtu, Ascii, TcpUdp}
use Rattle.outgoing.specs.Grow.{growth}
use Rattle.outgoing.proofs.WayLaws.{except_long, except_high, except_adds}
use Rattle.outgoing.proofs.except.Goals as goal
use Rattle.outgoing.proofs.except.Goals.{then-out-len-via-then-out-len, then-out-len-via-else-out-len+then-function-gt127}

pub returns-then-out-len : goal.returns-then-out-len
returns-then-out-len c =
    elim c.then-out-len.branch [
      | then-out-len-via-then-out-len w ↦ sym (ap growth (except_long _ _ _ _ _ _ w.if-out-len.true))
      | then-out-len-via-else-out-len+then-function-gt127 w ↦
          sym (ap growth (except_high _ _ _ _ _ _ w.if-out-len.false w.if-function-gt127.true))
    ]

pub returns-in-Rtu : goal.returns-in-Rtu
returns-in-Rtu c =
    ⊎_elim
    (λ p. rw p (c.extend.ensures ∙ sym (ap growth (except_adds Rtu _ _ _ _ _ (omega arith) (omega arith)))))
    (λ p. rw p (c.extend.ensures ∙ sym (ap growth (except_adds Ascii _ _ _ _ _ (omega arith) (omega arith)))))
    c.in-Rtu.is

pub returns-in-TcpUdp : goal.returns-in-TcpUdp
returns-in-TcpUdp c =
    rw c.in-TcpUdp.is (c.extend-in-TcpUdp.ensures ∙ sym (ap growth (except_adds TcpUdp _ _ _ _ _ (omega arith) (omega arith))))
