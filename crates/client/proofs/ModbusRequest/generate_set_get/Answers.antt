-- `client::ModbusRequest::generate_set_get` meets its contract: the data show the values, and too many are refused first.
-- Assumes nothing.
use mathlib.Core.Path.{◌≡◌, refl, sym, ap, ◌∙◌}
use Prim.Native.Nat.{ℕ, ◌*◌}
use native.Mathlib.Omega.{arith}
use lib.ListN.{length, take, replicate, length-replicate}
use Rattle.modbus.specs.Table.{word, Fits}
use Rattle.modbus.proofs.BytesLaws.{all_by}
use Rattle.client.specs.Asking.{laid_into}
use Rattle.client.proofs.LayLaws.{data_shown}
use Rattle.client.proofs.BuildLaws.{both_built, both_unbuilt}
use Rattle.client.proofs.ModbusRequest.generate_set_get.Goals as goal

long : length (replicate {A = ℕ} 242 0) ≡ 242
long = length-replicate {A = ℕ} 242 0

pub returns-then-values-gt121 : goal.returns-then-values-gt121
returns-then-values-gt121 c =
    let a = c.args in
    rw c.answer.ensures (sym (ap (laid_into a.request.now)
    (both_unbuilt a.self (length a.request.now) a.reg a.count a.write_reg a.values.now (omega (arith, c.if-values-gt121.true)))))

pub lay-requires : goal.lay-requires
lay-requires c =
    let a = c.args in
    (all_by (Fits word) a.values.now (λ i h. omega (arith, c.type_inv.values i)), omega (arith, c.if-values-gt121.false, long), omega (arith, c.if-values-gt121.false))

pub returns : goal.returns
returns c =
    let a = c.args in
    let vs = c.args.values.now in
    let fits = all_by (Fits word) vs (λ i h. omega (arith, c.type_inv.values i)) in
    rw c.answer-2.ensures (c.send_both.ensures
    ∙ sym (ap (laid_into a.request.now)
    (both_built a.self (length a.request.now) a.reg a.count a.write_reg (length vs) vs _ refl fits
    (ap (take (2 * length vs)) c.lay.ensures ∙ data_shown word vs 242 fits (omega (arith, c.if-values-gt121.false))))))
