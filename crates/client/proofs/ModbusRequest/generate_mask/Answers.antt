-- `client::ModbusRequest::generate_mask` meets its contract: the eight bytes of a mask write, whatever the masks.
-- Assumes nothing.
use mathlib.Core.Path.{sym, ap, ◌∙◌}
use native.Mathlib.Omega.{arith}
use lib.ListN.{length}
use Rattle.modbus.specs.Request.{masks}
use Rattle.client.specs.Asking.{laid_into}
use Rattle.client.proofs.BuildLaws.{two_bytes, generated_body}
use Rattle.client.proofs.ModbusRequest.generate_mask.Goals as goal

pub returns : goal.returns
returns c =
    let a = c.args in
    let x = two_bytes _ _ (omega arith) c.to_be_bytes.ensures in
    let y = two_bytes _ _ (omega arith) c.to_be_bytes-2.ensures in
    let z = two_bytes _ _ (omega arith) c.to_be_bytes-3.ensures in
    rw c.answer.ensures ((rw (x.0, x.1, y.0, y.1, z.0, z.1) at c.send.ensures)
    ∙ sym (ap (laid_into a.request.now)
    (generated_body a.self (masks a.reg a.and_mask a.or_mask) (length a.request.now) (omega (arith, c.ranges), omega (arith, c.ranges)))))
