-- `driver::run` meets its contract: a bad setup, no room, a frame that is none, and a frame that is opened.
-- Assumes nothing.
use mathlib.Core.Path.{◌∙◌}
use Rattle.std.proofs.lemmas.Result.{err_from_is_err_and}
use Rattle.driver.specs.Driven.{lending}
use Rattle.driver.proofs.OpenLaws.{good_valid, valid_good}
use Rattle.driver.proofs.CallLaws.{bad_called, roomless_called, unopened_called, opened_called}
use Rattle.driver.proofs.run.Goals as goal

pub returns-in_err-check_setup : goal.returns-in_err-check_setup
returns-in_err-check_setup c =
    let a = c.args in
    let l = lending a.setup a.list.now a.coils.now a.discretes.now a.holdings.now a.inputs.now a.frame.now a.reply.now in
    let p = err_from_is_err_and c.from_residual.result c.from_residual.ensures.1 in
    let e = c.in_err-check_setup.ensures in
    rw (p.1, p.2, e.0) (bad_called l (λ v. e.1 (valid_good a.setup a.list.now a.coils.now a.discretes.now a.holdings.now a.inputs.now a.frame.now a.reply.now v)))

pub returns-in_err-check_room : goal.returns-in_err-check_room
returns-in_err-check_room c =
    let a = c.args in
    let l = lending a.setup a.list.now a.coils.now a.discretes.now a.holdings.now a.inputs.now a.frame.now a.reply.now in
    let v = good_valid a.setup a.list.now a.coils.now a.discretes.now a.holdings.now a.inputs.now a.frame.now a.reply.now c.in_ok-check_setup.ensures in
    let p = err_from_is_err_and c.from_residual-in_err-check_room.result c.from_residual-in_err-check_room.ensures.1 in
    let e = c.in_err-check_room.ensures in
    rw (p.1, p.2, e.0) (roomless_called l v e.1)

pub returns-in-Err : goal.returns-in-Err
returns-in-Err c =
    let a = c.args in
    let l = lending a.setup a.list.now a.coils.now a.discretes.now a.holdings.now a.inputs.now a.frame.now a.reply.now in
    let v = good_valid a.setup a.list.now a.coils.now a.discretes.now a.holdings.now a.inputs.now a.frame.now a.reply.now c.in_ok-check_setup.ensures in
    rw c.unopened.ensures (unopened_called l v c.in_ok-check_room.ensures _ c.in-Err.ensures.err)

pub returns : goal.returns
returns c =
    let a = c.args in
    let l = lending a.setup a.list.now a.coils.now a.discretes.now a.holdings.now a.inputs.now a.frame.now a.reply.now in
    let v = good_valid a.setup a.list.now a.coils.now a.discretes.now a.holdings.now a.inputs.now a.frame.now a.reply.now c.in_ok-check_setup.ensures in
    c.handle.ensures ∙ opened_called l v c.in_ok-check_room.ensures _ _ c.in-Ok.ensures.ok.0
