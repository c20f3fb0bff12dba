-- `client::lay::bit_of` meets its contract: the cell lies inside, so the call answers it.
-- Assumes nothing.
use native.Mathlib.Omega.{arith}
use Rattle.client.proofs.LayLaws.{bit_byte, bit_got, bit_answered}
use Rattle.client.proofs.lay.bit_of.Goals as goal

pub unwrap-requires : goal.unwrap-requires
unwrap-requires c =
    let a = c.args in
    bit_answered _ a.bytes.now a.n a.i (omega arith, omega arith) (omega arith) c.get_coil.ensures

pub returns : goal.returns
returns c =
    let a = c.args in
    bit_got a.bytes.now a.n a.i (omega arith, omega arith) (omega arith) _ c.get_coil.ensures _ c.unwrap.ensures _ (bit_byte c.unwrap.result)
