-- `client::ModbusRequest::generate_get` meets its contract: the six bytes of a read, if the function is one.
-- Assumes nothing.
use mathlib.Core.Path.{sym, ap, ◌∙◌}
use native.Mathlib.Omega.{arith}
use lib.ListN.{length}
use Rattle.client.specs.Asking.{laid_into}
use Rattle.client.proofs.BuildLaws.{generated_none, get_built}
use Rattle.client.proofs.FunctionLaws.{getting_high}
use Rattle.client.proofs.ModbusRequest.generate_get.Goals as goal

pub returns-then-func-gt4 : goal.returns-then-func-gt4
returns-then-func-gt4 c =
    let a = c.args in
    rw c.answer.ensures (sym (ap (laid_into a.request.now)
    (generated_none a.self _ (length a.request.now) (getting_high a.self.proto a.func a.reg a.count c.if-func-gt4.true))))

pub returns : goal.returns
returns c =
    let a = c.args in
    rw c.answer-2.ensures ((rw c.pair-head.ensures at c.send.ensures)
    ∙ sym (ap (laid_into a.request.now) (get_built a.self (length a.request.now) a.func a.reg a.count (omega (arith, c.if-func-gt4.false)))))
