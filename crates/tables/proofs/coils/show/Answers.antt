-- `tables::coils::show` meets its contract: one cell alone; or the whole bytes, and a last one where cells are left.
-- Assumes nothing.
use Rattle.modbus.specs.Storage.{coil_at}
use Rattle.tables.proofs.RunsLaws.{show_one, show_whole, show_rest}
use Rattle.tables.proofs.coils.show.Goals as goal

pub returns-then-n-eq1 : goal.returns-then-n-eq1
returns-then-n-eq1 c =
    let a = c.args in
    show_one (coil_at a.src.now) a.from a.dst.now a.at a.n c.run_at.result c.if-n-eq1.true c.run_at.ensures

pub returns-then-n-gt0 : goal.returns-then-n-gt0
returns-then-n-gt0 c =
    let a = c.args in
    show_rest (coil_at a.src.now) a.from a.dst.now c.copy_whole.new.dst a.at a.n c.copy_whole.ensures
    c.run_at-then-n-gt0.result c.if-n-gt0.true c.run_at-then-n-gt0.ensures

pub returns-else-n-gt0 : goal.returns-else-n-gt0
returns-else-n-gt0 c =
    let a = c.args in
    show_whole (coil_at a.src.now) a.from a.dst.now c.copy_whole.new.dst a.at a.n c.copy_whole.ensures
    c.if-n-gt0.false
