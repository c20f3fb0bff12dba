-- `client::ModbusRequest::send` meets its contract: the verdict on the body decides.
-- Assumes nothing.
use mathlib.Core.Bool.{false}
use mathlib.Core.Path.{refl, sym, ap, ◌∙◌}
use mathlib.Core.List.{List, ◌++◌}
use Prim.Native.Nat.{ℕ}
use native.Mathlib.Omega.{arith}
use lib.ListN.{length}
use Rattle.requests.specs.Judged.{weighed}
use Rattle.client.specs.Asking.{every_cell, laid_into}
use Rattle.client.specs.Hearing.{failed, roomed, framed}
use Rattle.client.proofs.CloseLaws.{transport_high, unsaid, said}
use Rattle.transports.proofs.AnswerLaws.{part_same}
use Rattle.client.proofs.ModbusRequest.send.Goals as goal

pub returns-then-self-gt2 : goal.returns-then-self-gt2
returns-then-self-gt2 c =
    let a = c.args in
    sym (ap (laid_into a.request.now)
    (transport_high a.self (a.head.now ++ a.«data».now) a.request.now (λ h. omega (arith, c.if-self-gt2.true))))

pub returns-then-unasked : goal.returns-then-unasked
returns-then-unasked c =
    let a = c.args in
    let e = part_same _ c.lay_parts-n.result _ _ _ refl refl ∙ c.lay_parts-n.ensures.2 in
    let u = c.unasked.ensures a.self.proto ∙ ap (λ (l : List ℕ). failed (weighed (every_cell a.self.proto) false l)) e in
    sym (ap (laid_into a.request.now)
    (unsaid a.self (a.head.now ++ a.«data».now) a.request.now (omega (arith, c.if-self-gt2.false)) _ u c.if-unasked.true))

pub returns : goal.returns
returns c =
    let a = c.args in
    let l = c.lay_parts-n.ensures.2 in
    let e = part_same _ c.lay_parts-n.result _ _ _ refl refl ∙ l in
    let u = c.unasked.ensures a.self.proto ∙ ap (λ (x : List ℕ). failed (weighed (every_cell a.self.proto) false x)) e in
    c.close.ensures
    ∙ ap (λ (x : List ℕ). laid_into a.request.now (roomed (framed a.self x) (length a.request.now))) (rw c.start_of-start.ensures at l)
    ∙ sym (ap (laid_into a.request.now)
    (said a.self (a.head.now ++ a.«data».now) a.request.now (omega (arith, c.if-self-gt2.false)) _ u c.if-unasked.false))
