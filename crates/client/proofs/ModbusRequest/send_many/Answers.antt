-- `client::ModbusRequest::send_many` meets its contract.
-- Assumes nothing.
use native.Mathlib.Omega.{arith}
use Rattle.client.proofs.BuildLaws.{two_bytes}
use Rattle.client.proofs.ModbusRequest.send_many.Goals as goal

pub returns : goal.returns
returns c =
    let x = two_bytes _ _ (omega arith) c.to_be_bytes.ensures in
    let y = two_bytes _ _ (omega arith) c.to_be_bytes-2.ensures in
    rw (x.0, x.1, y.0, y.1) at c.send.ensures
