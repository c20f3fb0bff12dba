-- `transports::rtu::open_rtu` meets its contract: each way out is a law of an RTU frame.
-- Assumes nothing.
use Rattle.std.proofs.Common.{◌-◌, ◌/◌, ◌%◌, [], ◌∷◌, length, sym, ap, ◌∙◌, ⊎_elim, arith}
use Rattle.transports.specs.Opened.{opened}
use Rattle.transports.proofs.OpenedLaws.{both_bytes, differ, rest_whole, rtu_broken, rtu_check, rtu_body, rtu_length}
use Rattle.transports.proofs.rtu.open_rtu.Goals as goal

pub returns-then-frame-lt4 : goal.returns-then-frame-lt4
returns-then-frame-lt4 c =
    sym (ap opened (rtu_broken _ (λ h. ⊎_elim (λ p. omega arith) (λ p. omega arith) c.then-frame-lt4.either)))

pub returns-then-ne : goal.returns-then-ne
returns-then-ne c =
    let f = c.args.frame.now in
    let x = c.calc_crc16.result in
    let e = rw (both_bytes _ _ c.calc_crc16.type_inv c.to_le_bytes-crc.ensures) at c.ne.ensures in
    sym (ap opened (rtu_check _ _ (omega arith) c.calc_crc16.ensures (λ q.
    (differ _ (x % 256 ∷ x / 256 ∷ []) _ e).0 c.if-ne.true (rest_whole f (length f - 2) ∙ q))))

pub returns : goal.returns
returns c =
    let f = c.args.frame.now in
    let x = c.calc_crc16.result in
    let e = rw (both_bytes _ _ c.calc_crc16.type_inv c.to_le_bytes-crc.ensures) at c.ne.ensures in
    rtu_length f
    ∙ sym (ap opened (rtu_body _ _ (omega arith) c.calc_crc16.ensures
    (sym (rest_whole f (length f - 2)) ∙ (differ _ (x % 256 ∷ x / 256 ∷ []) _ e).1 c.if-ne.false)))
