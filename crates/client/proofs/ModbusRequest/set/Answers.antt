-- `client::ModbusRequest::set` meets its contract: each arm is a function.
-- Assumes nothing.
use mathlib.Core.Path.{sym, ap, ◌∙◌}
use lib.ListN.{length}
use native.Mathlib.Omega.{arith}
use Rattle.modbus.specs.Step.{Step}
use Rattle.modbus.specs.Table.{bit, word}
use Rattle.modbus.specs.Request.{one, many, Ask}
use Rattle.client.specs.Asking.{Declined, generated, laid_into}
use Rattle.client.proofs.BuildLaws.{generated_none}
use Rattle.client.proofs.FunctionLaws.{setting_by, setting_none}
use Rattle.client.proofs.ModbusRequest.set.Goals as goal

pub returns-in-5 : goal.returns-in-5
returns-in-5 c =
    let a = c.args in
    c.set_one.ensures
    ∙ sym (ap (λ (w : Step Declined Ask). laid_into a.request.now (generated a.self w (length a.request.now)))
    (setting_by a.self.proto a.func a.reg a.values.now (one bit) c.in-5.is))

pub returns-in-6 : goal.returns-in-6
returns-in-6 c =
    let a = c.args in
    c.set_one-in-6.ensures
    ∙ sym (ap (λ (w : Step Declined Ask). laid_into a.request.now (generated a.self w (length a.request.now)))
    (setting_by a.self.proto a.func a.reg a.values.now (one word) c.in-6.is))

pub returns-in-15 : goal.returns-in-15
returns-in-15 c =
    let a = c.args in
    c.set_many.ensures
    ∙ sym (ap (λ (w : Step Declined Ask). laid_into a.request.now (generated a.self w (length a.request.now)))
    (setting_by a.self.proto a.func a.reg a.values.now (many bit) c.in-15.is))

pub returns-in-16 : goal.returns-in-16
returns-in-16 c =
    let a = c.args in
    c.set_many-in-16.ensures
    ∙ sym (ap (λ (w : Step Declined Ask). laid_into a.request.now (generated a.self w (length a.request.now)))
    (setting_by a.self.proto a.func a.reg a.values.now (many word) c.in-16.is))

pub returns-in_default : goal.returns-in_default
returns-in_default c =
    let a = c.args in
    sym (ap (laid_into a.request.now)
    (generated_none a.self _ (length a.request.now)
    (setting_none a.self.proto a.func a.reg a.values.now (λ h. omega arith) (λ h. omega arith) (λ h. omega arith) (λ h. omega arith))))
