-- `client::ModbusRequest::generate_set` meets its contract.
-- Assumes nothing.
use Rattle.client.proofs.ModbusRequest.generate_set.Goals as goal

pub returns : goal.returns
returns c = rw c.answer.ensures c.set.ensures
