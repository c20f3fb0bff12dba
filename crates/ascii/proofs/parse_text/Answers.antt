-- `ascii::parse_text` meets its contract: a plain text is decoded without looking again at its characters.
-- Assumes nothing.
use Rattle.std.proofs.Common.{◌≡◌, take, drop, arith, length-drop, length-take, ◌+◌, ◌-◌, ◌*◌, ◌/◌, length, sym, refl, ◌∙◌}
use Rattle.std.proofs.lemmas.Slice.{between_is}
use Rattle.modbus.specs.Hex.{spelt}
use Rattle.ascii.specs.Plain.{pair_values}
use Rattle.ascii.proofs.PlainLaws.{length_values, part_set, plain_parts, plain_parsed}
use Rattle.ascii.proofs.SpeltLaws.{begin_spelt, digits_spelt, plain_spelt}
use Rattle.ascii.proofs.parse_text.Goals as goal

pub returns : goal.returns
returns c =
    let a = c.args in
    let p = c.plain.ensures c.if-not-plain.false in
    let s = a.«data».now in
    let n = c.colon-from.result in
    let q = plain_parts s a.data_len (length a.frame_buf.now) a.frame_pos n c.colon-from.ensures.value p in
    let t = digits_spelt a.hex s n (n + 2 * ((a.data_len - n) / 2)) (rw q.0 q.3) in
    let k : a.frame_pos + (a.data_len - n) / 2 - a.frame_pos ≡ (a.data_len - n) / 2 = omega arith in
    let f = between_is s n a.data_len in
    let e = rw (k, f) at c.decode_pairs.ensures in
    let text = drop n (take a.data_len s) in
    let v = length_values ((a.data_len - n) / 2) text (simp (length-drop, length-take) (omega arith)) in
    plain_parsed (spelt a.hex s) a.data_len a.frame_buf.now a.frame_pos n _ _
    (plain_spelt a.hex s a.data_len (length a.frame_buf.now) a.frame_pos p)
    (c.colon-from.ensures.value ∙ sym (begin_spelt a.hex s)) refl (rw (t, k, q.0) (part_set a.frame_buf.now (pair_values text) _ a.frame_pos ((a.data_len - n) / 2) e (omega arith) (omega arith)))
