-- `driver::serve::write_words` meets its contract: the registers lie inside, so the calls succeed.
-- Assumes nothing.
use native.Mathlib.Omega.{arith}
use mathlib.Core.Path.{◌≡◌, ◌∙◌}
use Rattle.modbus.specs.Storage.{registers}
use Rattle.driver.proofs.ReplyLaws.{holds_by, changed_done, words_put, changed_put, single_word}
use Rattle.driver.proofs.serve.write_words.Goals as goal

pub unwrap-requires : goal.unwrap-requires
unwrap-requires c =
    let a = c.args in
    let x = c.args.c in
    let k : x.count ≡ 1 = c.requires.2 c.if-at-eq4.true in
    holds_by _ c.set_holding.result (changed_done registers a.holdings.now a.cells c.requires.3 _ _ x.address _ c.set_holding.ensures (omega (arith, c.requires.0)))

pub returns-then-at-eq4 : goal.returns-then-at-eq4
returns-then-at-eq4 c =
    let a = c.args in
    let x = c.args.c in
    let e = c.if-at-eq4.true in
    let k : x.count ≡ 1 = c.requires.2 e in
    changed_put registers a.holdings.now a.cells c.requires.3 _ _ x.address _ c.set_holding.ensures (omega (arith, c.requires.0))
    ∙ rw c.word.ensures (single_word a.holdings.now a.body.now x e k (omega (arith, c.requires.1)))

pub returns : goal.returns
returns c =
    let a = c.args in
    words_put a.holdings.now a.cells c.requires.3 _ _ a.body.now a.c.at a.c.address a.c.count c.set_holdings_from_u8.ensures c.requires.0 c.requires.1
