-- `ascii::writing::lay_text` meets its contract.
-- Assumes nothing.
use Rattle.std.proofs.Common.{◌≡◌, ℕ, suc, ◌+◌, ◌*◌, List, [], ◌∷◌, set, refl, ap, ◌∙◌, append-nil, arith}
use lib.Bits.{and_mask}
use lib.Seq.{sets}
use Rattle.modbus.specs.Hex.{digit, text}
use Rattle.ascii.proofs.ReadingLaws.{rest_step, rest_done}
use Rattle.ascii.proofs.writing.lay_text.Goals as goal

-- the places of two characters, as the code counts them
two_places : (s : List ℕ) (k x y : ℕ) → set (set s k x) (k + 1) y ≡ sets s k (x ∷ y ∷ [])
two_places s k x y = let e : k + 1 ≡ suc k = omega arith in rw e

pub loop-i-preserved : goal.loop-i-preserved
loop-i-preserved c =
    let a = c.args in
    let i = c.loop-i.i in
    let k : a.at + 2 * i + 2 ≡ a.at + 2 * (i + 1) = omega arith in
    rw k at (rest_step a.bytes.now [] c.loop-i.dst i (a.at + 2 * i) _ c.loop-i.invariant _ _ _ (omega arith)
    c.character.ensures (c.character-in-loop-i.ensures ∙ ap digit (and_mask _ 4))
    (two_places c.loop-i.dst (a.at + 2 * i) _ _))

pub returns : goal.returns
returns c =
    let a = c.args in
    rest_done a.bytes.now [] c.loop-i.dst c.loop-i.i (a.at + 2 * c.loop-i.i) _ c.loop-i.invariant _ (omega arith) refl
    ∙ ap (sets a.dst.now a.at) (append-nil (text a.bytes.now))
