-- `client::ModbusRequest::set_one` meets its contract: exactly one value, and a coil has 0 or 1.
-- Assumes nothing.
use mathlib.Core.Path.{◌≡◌, sym, ap, ◌∙◌}
use mathlib.Core.List.{List, [], ◌++◌}
use Prim.Native.Nat.{ℕ}
use native.Mathlib.Omega.{arith}
use lib.ListN.{length}
use Rattle.modbus.specs.Table.{bit, word}
use Rattle.modbus.specs.Paper.{kind_in}
use Rattle.client.specs.Asking.{laid_into}
use Rattle.client.proofs.BuildLaws.{one_built, coil_unbuilt, ones_unbuilt}
use Rattle.client.proofs.ModbusRequest.set_one.Goals as goal
use Rattle.client.proofs.ModbusRequest.set_one.Goals.{in-Bits+else-value-gt1 as coil, in-Words as register}

pub returns-in_default : goal.returns-in_default
returns-in_default c =
    let a = c.args in
    sym (ap (laid_into a.request.now) (ones_unbuilt a.self (length a.request.now) (kind_in a.kind) a.reg a.values.now (λ h. omega (arith, c.in_default.len_below))))

pub returns-in_default-2 : goal.returns-in_default-2
returns-in_default-2 c =
    let a = c.args in
    sym (ap (laid_into a.request.now) (ones_unbuilt a.self (length a.request.now) (kind_in a.kind) a.reg a.values.now (λ h. omega (arith, c.in_default.len_at_least))))

pub returns-then-value-gt1 : goal.returns-then-value-gt1
returns-then-value-gt1 c =
    let a = c.args in
    rw c.in-Bits.is
    (sym (ap (laid_into a.request.now) (coil_unbuilt a.self (length a.request.now) a.reg a.values.now (omega (arith, c.in-len1.len_below, c.in-len1.len_at_least)) c.if-value-gt1.true)))

pub returns : goal.returns
returns c =
    let a = c.args in
    let room = length a.request.now in
    let one : length a.values.now ≡ 1 = omega (arith, c.in-len1.len_below, c.in-len1.len_at_least) in
    elim c.match-kind.branch [
      | coil w ↦ rw w.in-Bits.is (c.send.ensures ∙ sym (ap (laid_into a.request.now) (one_built a.self room bit a.reg a.values.now _ one tt
          (ap (λ (l : List ℕ). l ++ []) (w.head-is ∙ w.pair-head.ensures)))))
      | register w ↦ rw w.in-Words.is (c.send.ensures ∙ sym (ap (laid_into a.request.now) (one_built a.self room word a.reg a.values.now _ one
          (omega (arith, c.type_inv.values 0)) (ap (λ (l : List ℕ). l ++ []) (w.head-is ∙ w.pair-head-in-Words.ensures)))))
    ]
