-- `transports::lines::lay_few` meets its contract. The loop's invariant: what is left of the text makes the buffer the one asked, and the LRC of the
-- bytes passed is at hand.
-- Assumes nothing.
use Rattle.std.proofs.Common.{◌≡◌, ℕ, suc, ◌+◌, ◌*◌, ◌/◌, ◌%◌, ◌<◌, [], refl, ap, ◌∙◌, append-nil, arith, length-set, take_all}
use lib.Seq.{sets}
use Rattle.modbus.specs.Check.{sum, lrc}
use Rattle.modbus.specs.Hex.{digit, text}
use Rattle.modbus.proofs.CheckLaws.{lrc_step}
use Rattle.ascii.proofs.ReadingLaws.{rest_step, rest_done}
use Rattle.transports.proofs.lines.lay_few.Goals as goal

-- a byte's upper half
upper : (b : ℕ) → b < 256 → digit (b / 16 % 16) ≡ digit (b / 16)
upper b h = let e : b / 16 % 16 ≡ b / 16 = omega arith in ap digit e

pub loop-i-init : goal.loop-i-init
unfolding lrc sum
loop-i-init c = (refl, refl, refl)

pub loop-i-preserved : goal.loop-i-preserved
loop-i-preserved c =
    let s = c.args.bytes.now in
    let i = c.loop-i.i in
    let b = c.type_inv.bytes i in
    let k : 2 * (i + 1) + 1 ≡ 2 * i + 1 + 2 = omega arith in
    let z : 2 * i + 2 ≡ suc (2 * i + 1) = omega arith in (
      simp length-set c.loop-i.invariant.0,
      lrc_step s i _ (omega arith) (omega arith) (omega (arith, c.loop-i.invariant.1)),
      rw k (rest_step s [] c.loop-i.dst i (2 * i + 1) _ c.loop-i.invariant.2 _ _ _ (omega arith) (c.low_digit.ensures ∙ upper _ (omega arith))
          c.low_digit-in-loop-i.ensures (rw z)),
    )

pub returns : goal.returns
returns c =
    let a = c.args in
    let s = c.args.bytes.now in
    let i = c.loop-i.i in (
      c.loop-i.invariant.1 ∙ ap lrc (take_all i s (omega arith)),
      rest_done s [] c.loop-i.dst i (2 * i + 1) _ c.loop-i.invariant.2 _ (omega arith) refl ∙ ap (sets a.dst.now 1) (append-nil (text s)),
    )
