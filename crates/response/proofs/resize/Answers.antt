-- `response::resize` meets its contract: where the end is cut, nothing is filled.
-- Assumes nothing.
use Rattle.std.proofs.Common.{◌≡◌, ◌-◌, length, take, drop, replicate, sym, ap, arith, length-take, length-drop}
use lib.ListN.{length-replicate}
use Rattle.modbus.specs.Paper.{told_with}
use Rattle.response.proofs.BoundedLaws.{resized_fits, resized_long, resized_full, part_put}
use Rattle.response.proofs.resize.Goals as goal
use Rattle.response.proofs.resize.Goals.{then-response-len-via-then-response-len, then-response-len-via-else-response-len+then-response-new_len}

pub returns-then-response-len : goal.returns-then-response-len
returns-then-response-len c =
    elim c.then-response-len.branch [
      | then-response-len-via-then-response-len w ↦ sym (ap (told_with _) (resized_long _ _ _ _ (omega arith)))
      | then-response-len-via-else-response-len+then-response-new_len w ↦ sym (ap (told_with _) (resized_full _ _ _ _ (omega arith) (omega arith)))
    ]

pub returns-then-len-new_len : goal.returns-then-len-new_len
returns-then-len-new_len c =
    let a = c.args in
    let n : length (take (a.new_len - a.len) (drop a.len a.response.now)) ≡ a.new_len - a.len = simp (length-take, length-drop) (omega arith) in
    let f = rw n at (c.fill.ensures.after (λ y e. e)) in
    rw (part_put a.response.now _ (replicate (a.new_len - a.len) a.value) a.len (a.new_len - a.len) f (sym (length-replicate (a.new_len - a.len) a.value)) (omega arith))
    (sym (ap (told_with _) (resized_fits _ _ _ _ (omega arith) (omega arith))))

pub returns-else-len-new_len : goal.returns-else-len-new_len
returns-else-len-new_len c =
    let a = c.args in
    let z : a.new_len - a.len ≡ 0 = omega arith in
    sym (ap (told_with _) (rw z at (resized_fits a.response.now a.len a.new_len a.value (omega arith) (omega arith))))
