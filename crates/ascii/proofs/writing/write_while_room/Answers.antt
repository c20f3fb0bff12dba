-- `ascii::writing::write_while_room` meets its contract. The loop's invariant: what is left of the line makes the result the one asked.
-- Assumes nothing.
use Rattle.std.proofs.Common.{not, suc, [], ◌∷◌, length, ap, ◌∙◌, arith}
use lib.Bits.{and_mask}
use Rattle.modbus.specs.Hex.{digit}
use Rattle.octets.proofs.PutLaws.{no_room, had_room}
use Rattle.ascii.proofs.ReadingLaws.{length_kept, crlf, rest_step, rest_cut, rest_done, length_line, line_none, line_refused, line_written}
use Rattle.ascii.proofs.writing.write_while_room.Goals as goal

pub returns-then-not-put_byte : goal.returns-then-not-put_byte
returns-then-not-put_byte c =
    let a = c.args in
    let f = no_room _ _ _ 0 (length a.res.now) c.put_byte.ensures (ap not c.if-not-put_byte.true) in
    line_none a.«data».now a.res.now _ f.1 f.0

pub returns-then-not-put_two : goal.returns-then-not-put_two
returns-then-not-put_two c =
    let a = c.args in
    let f = no_room _ _ _ (suc c.loop-d.at) (length c.loop-d.res) c.put_two.ensures (ap not c.if-not-put_two.true) in
    let e = had_room _ _ _ 0 (length a.res.now) c.put_byte.ensures (ap not c.if-not-put_byte.false) in
    line_refused a.«data».now a.res.now _ _ e.1
    (rest_cut a.«data».now crlf _ c.loop-d.d-index _ _ c.loop-d.invariant.2 _ _ _ (omega arith) c.character.ensures
    (c.character-in-loop-d.ensures ∙ ap digit (and_mask _ 4)) f.1 f.0)
    (omega (arith, length_line a.«data».now))

pub loop-d-preserved : goal.loop-d-preserved
loop-d-preserved c =
    let a = c.args in
    let h = had_room _ _ _ (suc c.loop-d.at) (length c.loop-d.res) c.put_two.ensures (ap not c.if-not-put_two.false) in (
      omega arith,
      length_kept c.loop-d.res _ c.loop-d.at (c.character.result ∷ c.character-in-loop-d.result ∷ []) h.1
          ∙ c.loop-d.invariant.1,
      rest_step a.«data».now crlf _ c.loop-d.d-index _ _ c.loop-d.invariant.2 _ _ _ (omega arith) c.character.ensures
          (c.character-in-loop-d.ensures ∙ ap digit (and_mask _ 4)) h.1,
    )

pub returns-then-not-put_two-2 : goal.returns-then-not-put_two-2
returns-then-not-put_two-2 c =
    let a = c.args in
    let f = no_room _ _ _ (suc c.loop-d.at) (length c.loop-d.res) c.put_two-2.ensures (ap not c.if-not-put_two-2.true) in
    let e = had_room _ _ _ 0 (length a.res.now) c.put_byte.ensures (ap not c.if-not-put_byte.false) in
    line_refused a.«data».now a.res.now _ _ e.1
    (rest_done a.«data».now crlf _ c.loop-d.d-index _ _ c.loop-d.invariant.2 _ (omega arith) f.1)
    (omega (arith, length_line a.«data».now))

pub returns : goal.returns
returns c =
    let a = c.args in
    let h = had_room _ _ _ (suc c.loop-d.at) (length c.loop-d.res) c.put_two-2.ensures (ap not c.if-not-put_two-2.false) in
    let e = had_room _ _ _ 0 (length a.res.now) c.put_byte.ensures (ap not c.if-not-put_byte.false) in
    line_written a.«data».now a.res.now _ _ e.1
    (rest_done a.«data».now crlf _ c.loop-d.d-index _ _ c.loop-d.invariant.2 _ (omega arith) h.1) _
    (omega (arith, length_line a.«data».now)) (omega arith)
