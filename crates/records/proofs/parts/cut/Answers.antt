-- `records::parts::cut` meets its contract: bytes and place.
-- Assumes nothing.
use Rattle.std.proofs.Common.{◌≡◌, ◌+◌, ◌-◌, sym, arith}
use Rattle.modbus.proofs.StepLaws.{pick_yes, pick_no}
use Rattle.records.proofs.parts.cut.Goals as goal

pub returns-then-bytes-from : goal.returns-then-bytes-from
returns-then-bytes-from c = sym (pick_no _ _ _ (λ h. omega arith))

pub returns-then-bytes-from-2 : goal.returns-then-bytes-from-2
returns-then-bytes-from-2 c = sym (pick_no _ _ _ (λ h. omega arith))

pub returns : goal.returns
returns c =
    let a = c.args in
    let k : a.from + a.len - a.from ≡ a.len = omega arith in
    rw k (sym (pick_yes _ _ _ (omega arith)))
