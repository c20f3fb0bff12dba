-- `client::hear::weigh` meets its contract: another unit, an exception, cells, or an echo.
-- Assumes nothing.
use mathlib.Core.Path.{refl, sym, ap, ◌∙◌}
use mathlib.Core.List.{[]}
use Prim.Native.Nat.{ℕ}
use native.Mathlib.Omega.{arith}
use lib.ListN.{get_or, take}
use Rattle.client.specs.Asking.{excepts?, read_into}
use Rattle.client.specs.Hearing.{read_of}
use Rattle.transports.proofs.OpenedLaws.{differ}
use Rattle.client.proofs.HearLaws.{shown_into, some_held, none_held, shown_of, weigh_echo, weigh_other, other_unit, own_excepted, own_answered}
use Rattle.client.proofs.hear.weigh.Goals as goal

pub returns-then-body-sent : goal.returns-then-body-sent
returns-then-body-sent c a q =
    let v = c.args in
    sym (ap (read_into v.values.now) (other_unit a v.sent.now v.body.now c.if-body-sent.true))

pub returns-in-Some : goal.returns-in-Some
returns-in-Some c a q =
    let v = c.args in
    let h = some_held (excepts? a v.body.now) (get_or v.body.now 2 0) c.in-Some.code (sym c.in-Some.is ∙ c.exception.ensures a q.numbered) in
    ap (λ (n : ℕ). (read_of 0 2 n, v.values.now)) h.1
    ∙ sym (ap (read_into v.values.now) (own_excepted a v.sent.now v.body.now c.if-body-sent.false h.0))

pub returns-then-count-gt0 : goal.returns-then-count-gt0
returns-then-count-gt0 c a q =
    let v = c.args in
    let n = none_held (excepts? a v.body.now) (get_or v.body.now 2 0) (sym c.in_default.is ∙ c.exception.ensures a q.numbered) in
    c.show.ensures a v.sent.now (shown_of v.count v.sent.now a q c.if-count-gt0.true)
    ∙ sym (ap (read_into v.values.now) (own_answered a v.sent.now v.body.now c.if-body-sent.false n))

pub returns-then-ne : goal.returns-then-ne
returns-then-ne c a q =
    let v = c.args in
    let n = none_held (excepts? a v.body.now) (get_or v.body.now 2 0) (sym c.in_default.is ∙ c.exception.ensures a q.numbered) in
    let k = ap (λ (n : ℕ). take n v.sent.now) (c.echo_length.ensures a q.numbered) in
    sym (ap (read_into v.values.now)
    (own_answered a v.sent.now v.body.now c.if-body-sent.false n
    ∙ weigh_other v.count v.sent.now a v.body.now q (λ h. omega (arith, c.if-count-gt0.false)) (λ e. (differ _ _ _ c.ne.ensures).0 c.if-ne.true (e ∙ sym k))))

pub returns : goal.returns
returns c a q =
    let v = c.args in
    let n = none_held (excepts? a v.body.now) (get_or v.body.now 2 0) (sym c.in_default.is ∙ c.exception.ensures a q.numbered) in
    let k = ap (λ (n : ℕ). take n v.sent.now) (c.echo_length.ensures a q.numbered) in
    shown_into v.values.now _ [] v.values.now 0
    (own_answered a v.sent.now v.body.now c.if-body-sent.false n
    ∙ weigh_echo v.count v.sent.now a v.body.now q (λ h. omega (arith, c.if-count-gt0.false)) ((differ _ _ _ c.ne.ensures).1 c.if-ne.false ∙ k))
    refl refl
