-- `transports::lines::decode_eight` meets its contract. The loop's invariant: the pairs that are left make the first seven bytes those of the line.
-- Assumes nothing.
use Rattle.std.proofs.Common.{◌≡◌, ◌∙◌, length, take, drop, arith, length-append, length-drop, length-take-le}
use Rattle.std.proofs.lemmas.List.{take-append-le}
use Rattle.transports.proofs.LinesLaws.{seven_start, seven_step, seven_end}
use Rattle.transports.proofs.lines.decode_eight.Goals as goal

pub loop-i-init : goal.loop-i-init
loop-i-init c =
    let raw = c.args.raw.now in
    seven_start c.args.line.now (take 8 raw) c.requires.0 (omega (arith, length-take-le 8 raw (omega arith)))

pub loop-i-preserved : goal.loop-i-preserved
loop-i-preserved c =
    seven_step c.args.line.now c.loop-i.byte-items c.loop-i.i _ _ c.requires.0.0 c.loop-i.invariant c.half.ensures.1 c.half-in-loop-i.ensures.1

pub returns : goal.returns
returns c =
    let raw = c.args.raw.now in
    let items = c.loop-i.byte-items in
    let eight = length-take-le 8 raw (omega arith) in
    let long : length items ≡ 8 = c.loop-i.auto.byte-items ∙ eight in
    record {
      raw_after = take-append-le 7 items (drop 8 raw) (omega arith) ∙ seven_end c.args.line.now items c.loop-i.i (omega (arith, c.loop-i-test.false, eight)) c.loop-i.invariant;
      raw_len_unchanged = simp (length-append, length-drop) (omega arith);
    }
