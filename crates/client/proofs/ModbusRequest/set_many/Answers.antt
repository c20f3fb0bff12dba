-- `client::ModbusRequest::set_many` meets its contract: the data show the values, and what does not fit is refused first.
-- Assumes nothing.
use mathlib.Core.Path.{◌≡◌, sym, ap, ap₂, ◌∙◌}
use mathlib.Core.List.{List}
use Prim.Native.Nat.{ℕ, ◌≤◌}
use native.Mathlib.Omega.{arith}
use lib.ListN.{length, take, replicate, length-replicate}
use Rattle.modbus.specs.Bytes.{All}
use Rattle.modbus.specs.Table.{Fits}
use Rattle.modbus.specs.Request.{most_written, shown}
use Rattle.modbus.proofs.AnswerLaws.{length_shown}
use Rattle.modbus.proofs.StepLaws.{test_refuses, test_passes}
use Rattle.modbus.specs.Paper.{kind_in}
use Rattle.client.specs.Asking.{laid_into}
use Rattle.client.proofs.LayLaws.{data_shown, most_1968, octets_246}
use Rattle.client.proofs.BuildLaws.{many_built, many_unbuilt}
use Rattle.client.proofs.ModbusRequest.set_many.Goals as goal
use Rattle.client.proofs.ModbusRequest.set_many.Goals.{After-lay}

long : length (replicate {A = ℕ} 246 0) ≡ 246
long = length-replicate {A = ℕ} 246 0

pub returns-then-unfit : goal.returns-then-unfit
returns-then-unfit c =
    let a = c.args in
    sym (ap (laid_into a.request.now)
    (many_unbuilt a.self (length a.request.now) (kind_in a.kind) a.reg a.values.now (test_refuses _ _ c.unfit.ensures c.if-unfit.true)))

pub octets_of-octets-requires : goal.octets_of-octets-requires
octets_of-octets-requires c =
    let fits = test_passes _ _ c.unfit.ensures c.if-unfit.false in
    omega (arith, fits.0, most_1968 c.args.kind)

pub overflow_cast-n : goal.overflow_cast-n
overflow_cast-n c =
    let fits = test_passes _ _ c.unfit.ensures c.if-unfit.false in
    record { fits = omega (arith, fits.0, most_1968 c.args.kind) }

pub lay-requires : goal.lay-requires
lay-requires c =
    let a = c.args in
    let fits = test_passes _ _ c.unfit.ensures c.if-unfit.false in
    (fits.1, omega (arith, octets_246 a.kind (length a.values.now) fits.0, long), omega (arith, fits.0, most_1968 a.kind))

-- what is sent of the data
sent : (w : After-lay) → let a = w.args in
    length a.values.now ≤ most_written (kind_in a.kind) → All (Fits (kind_in a.kind)) a.values.now
    → take w.octets_of-octets.result w.lay.new.bytes ≡ shown (kind_in a.kind) a.values.now
sent w few fits =
    let a = w.args in
    ap₂ (λ (i : ℕ) (l : List ℕ). take i l) w.octets_of-octets.ensures w.lay.ensures
    ∙ data_shown (kind_in a.kind) a.values.now 246 fits (octets_246 a.kind (length a.values.now) few)

pub slice_bounds-send_many-end : goal.slice_bounds-send_many-end
slice_bounds-send_many-end c =
    let a = c.args in
    let fits = test_passes _ _ c.unfit.ensures c.if-unfit.false in
    let e = sent (goal.at.slice_bounds-send_many-end c).After-lay fits.0 fits.1 in
    c.octets_of-octets.ensures ∙ sym (length_shown (kind_in a.kind) a.values.now) ∙ sym (ap length e)

pub slice_bounds-data-end : goal.slice_bounds-data-end
slice_bounds-data-end c =
    let a = c.args in
    let fits = test_passes _ _ c.unfit.ensures c.if-unfit.false in
    omega (arith, octets_246 a.kind (length a.values.now) fits.0, c.octets_of-octets.ensures, c.lay.auto.bytes, long)

pub send_many-requires : goal.send_many-requires
send_many-requires c =
    let a = c.args in
    let fits = test_passes _ _ c.unfit.ensures c.if-unfit.false in
    let e = sent (goal.at.send_many-requires c).After-lay fits.0 fits.1 in
    omega (arith, ap length e, length_shown (kind_in a.kind) a.values.now, octets_246 a.kind (length a.values.now) fits.0)

pub returns : goal.returns
returns c =
    let a = c.args in
    let vs = c.args.values.now in
    let fits = test_passes _ _ c.unfit.ensures c.if-unfit.false in
    let e = sent (goal.at.returns c).After-lay fits.0 fits.1 in
    c.send_many.ensures
    ∙ sym (ap (laid_into a.request.now)
    (many_built a.self (length a.request.now) (kind_in a.kind) a.reg vs _ _ _ fits.1 e c.many_number.ensures (ap length e ∙ length_shown (kind_in a.kind) vs)))
