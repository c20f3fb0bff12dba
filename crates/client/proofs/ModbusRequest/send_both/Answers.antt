-- `client::ModbusRequest::send_both` meets its contract.
-- Assumes nothing.
use native.Mathlib.Omega.{arith}
use Rattle.client.proofs.BuildLaws.{two_bytes}
use Rattle.client.proofs.ModbusRequest.send_both.Goals as goal

pub returns : goal.returns
returns c =
    let x = two_bytes _ _ (omega arith) c.to_be_bytes.ensures in
    let y = two_bytes _ _ (omega arith) c.to_be_bytes-2.ensures in
    let z = two_bytes _ _ (omega arith) c.to_be_bytes-3.ensures in
    let n = two_bytes _ _ (omega arith) c.to_be_bytes-4.ensures in
    rw (x.0, x.1, y.0, y.1, z.0, z.1, n.0, n.1, ← c.requires.1) at c.send.ensures
