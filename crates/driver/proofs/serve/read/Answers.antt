-- `driver::serve::read` meets its contract, table by table.
-- Assumes nothing.
use mathlib.Core.Path.{◌≡◌, refl, sym, ap, ◌∙◌}
use Prim.Native.Nat.{◌+◌}
use native.Mathlib.Omega.{arith}
use Rattle.modbus.specs.Request.{tab_of}
use Rattle.modbus.specs.Table.{coils, discretes, holdings, inputs}
use Rattle.modbus.specs.Storage.{packed}
use Rattle.driver.specs.Driven.{lent_in}
use Rattle.driver.proofs.ReplyLaws.{holds_by, added_done, added_put}
use Rattle.driver.proofs.ReadLaws.{inside, head_room, cells_read, words_ready, words_read, named_holdings, named_inputs, registers_left}
use Rattle.driver.proofs.serve.read.Goals as goal

pub unwrap-requires : goal.unwrap-requires
unwrap-requires c =
    let h = c.head-n in
    let a = c.args in
    let l = lent_in a.setup a.coils.now a.discretes.now a.holdings.now a.inputs.now in
    let r = c.requires.read_ready.0 in
    let e : tab_of a.q.function ≡ coils = ap tab_of (sym r.numbered ∙ c.in-1.is) in
    holds_by _ c.get_coils_as_u8.result (added_done packed a.coils.now a.setup.coil_cells (c.requires.sized coils) _ _ a.q.address a.q.count h.new.reply (a.start + 3)
    c.get_coils_as_u8.ensures (inside l a.body.now a.q r coils e)
    (head_room l a.body.now a.q r coils e a.reply.now a.start h.new.reply c.requires.read_ready.1 h.ensures.1))

pub unwrap-requires-in-2 : goal.unwrap-requires-in-2
unwrap-requires-in-2 c =
    let h = c.head-n-in-2 in
    let a = c.args in
    let l = lent_in a.setup a.coils.now a.discretes.now a.holdings.now a.inputs.now in
    let r = c.requires.read_ready.0 in
    let e : tab_of a.q.function ≡ discretes = ap tab_of (sym r.numbered ∙ c.in-2.is) in
    holds_by _ c.get_discretes_as_u8.result (added_done packed a.discretes.now a.setup.discrete_cells (c.requires.sized discretes) _ _ a.q.address a.q.count h.new.reply (a.start + 3)
    c.get_discretes_as_u8.ensures (inside l a.body.now a.q r discretes e)
    (head_room l a.body.now a.q r discretes e a.reply.now a.start h.new.reply c.requires.read_ready.1 h.ensures.1))

pub returns-in-1 : goal.returns-in-1
returns-in-1 c =
    let h = c.head-n in
    let a = c.args in
    let l = lent_in a.setup a.coils.now a.discretes.now a.holdings.now a.inputs.now in
    let r = c.requires.read_ready.0 in
    let e : tab_of a.q.function ≡ coils = ap tab_of (sym r.numbered ∙ c.in-1.is) in
    cells_read l a.body.now a.q r coils e a.reply.now a.start _ h.new.reply _ h.ensures.0 h.ensures.1
    (added_put packed a.coils.now a.setup.coil_cells (c.requires.sized coils) _ _ a.q.address a.q.count h.new.reply (a.start + 3)
    c.get_coils_as_u8.ensures (inside l a.body.now a.q r coils e)
    (head_room l a.body.now a.q r coils e a.reply.now a.start h.new.reply c.requires.read_ready.1 h.ensures.1))

pub returns-in-2 : goal.returns-in-2
returns-in-2 c =
    let h = c.head-n-in-2 in
    let a = c.args in
    let l = lent_in a.setup a.coils.now a.discretes.now a.holdings.now a.inputs.now in
    let r = c.requires.read_ready.0 in
    let e : tab_of a.q.function ≡ discretes = ap tab_of (sym r.numbered ∙ c.in-2.is) in
    cells_read l a.body.now a.q r discretes e a.reply.now a.start _ h.new.reply _ h.ensures.0 h.ensures.1
    (added_put packed a.discretes.now a.setup.discrete_cells (c.requires.sized discretes) _ _ a.q.address a.q.count h.new.reply (a.start + 3)
    c.get_discretes_as_u8.ensures (inside l a.body.now a.q r discretes e)
    (head_room l a.body.now a.q r discretes e a.reply.now a.start h.new.reply c.requires.read_ready.1 h.ensures.1))

pub read_words-requires : goal.read_words-requires
read_words-requires c =
    let a = c.args in
    let l = lent_in a.setup a.coils.now a.discretes.now a.holdings.now a.inputs.now in
    let r = c.requires.read_ready.0 in
    registers_left a.q.function r.first r.last (λ e. let z = r.numbered in grind arith) (λ e. let z = r.numbered in grind arith)
    (λ f.
    let e : tab_of a.q.function ≡ holdings = ap tab_of f in
    words_ready l a.body.now a.q r holdings e a.reply.now a.start a.holdings.now _ refl
    (omega (arith, c.requires.sized holdings, inside l a.body.now a.q r holdings e)) (named_holdings a.holdings a.setup.holding_cells a.inputs a.setup.input_cells a.q.address a.q.count _ _ (rw (r.numbered, f) at c.read_registers-part.ensures) (c.requires.sized holdings) (inside l a.body.now a.q r holdings e)) c.requires.read_ready.1)
    (λ f.
    let e : tab_of a.q.function ≡ inputs = ap tab_of f in
    words_ready l a.body.now a.q r inputs e a.reply.now a.start a.inputs.now _ refl
    (omega (arith, c.requires.sized inputs, inside l a.body.now a.q r inputs e)) (named_inputs a.holdings a.setup.holding_cells a.inputs a.setup.input_cells a.q.address a.q.count _ _ (rw (r.numbered, f) at c.read_registers-part.ensures) (c.requires.sized inputs) (inside l a.body.now a.q r inputs e)) c.requires.read_ready.1)

pub returns-in_default : goal.returns-in_default
returns-in_default c =
    let a = c.args in
    let l = lent_in a.setup a.coils.now a.discretes.now a.holdings.now a.inputs.now in
    let r = c.requires.read_ready.0 in
    registers_left a.q.function r.first r.last (λ e. let z = r.numbered in grind arith) (λ e. let z = r.numbered in grind arith)
    (λ f.
    let e : tab_of a.q.function ≡ holdings = ap tab_of f in
    words_read l a.body.now a.q r holdings e a.reply.now a.start a.holdings.now refl refl
    (λ i. omega (arith, c.shared_slice_known-4-1.given i)) (omega (arith, c.requires.sized holdings, inside l a.body.now a.q r holdings e)) _
    (named_holdings a.holdings a.setup.holding_cells a.inputs a.setup.input_cells a.q.address a.q.count _ _ (rw (r.numbered, f) at c.read_registers-part.ensures) (c.requires.sized holdings) (inside l a.body.now a.q r holdings e)) _ c.read_words.ensures)
    (λ f.
    let e : tab_of a.q.function ≡ inputs = ap tab_of f in
    words_read l a.body.now a.q r inputs e a.reply.now a.start a.inputs.now refl refl
    (λ i. omega (arith, c.shared_slice_known-5-1.given i)) (omega (arith, c.requires.sized inputs, inside l a.body.now a.q r inputs e)) _
    (named_inputs a.holdings a.setup.holding_cells a.inputs a.setup.input_cells a.q.address a.q.count _ _ (rw (r.numbered, f) at c.read_registers-part.ensures) (c.requires.sized inputs) (inside l a.body.now a.q r inputs e)) _ c.read_words.ensures)
