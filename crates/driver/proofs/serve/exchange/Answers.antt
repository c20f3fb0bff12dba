-- `driver::serve::exchange` meets its contract: the registers are written, and then read.
-- Assumes nothing.
use native.Mathlib.Omega.{arith}
use Rattle.driver.proofs.ReplyLaws.{holds_by, words_done, words_put}
use Rattle.driver.proofs.ReadLaws.{swap_read}
use Rattle.driver.proofs.serve.exchange.Goals as goal

pub unwrap-requires : goal.unwrap-requires
unwrap-requires c =
    let a = c.args in
    holds_by _ c.set_holdings_from_u8.result (words_done a.holdings.now a.cells c.requires.5 _ _ a.body.now 11 a.x.write_address a.x.write_count c.set_holdings_from_u8.ensures c.requires.2 c.requires.3)

pub returns : goal.returns
returns c =
    let a = c.args in
    let e = words_put a.holdings.now a.cells c.requires.5 _ _ a.body.now 11 a.x.write_address a.x.write_count c.set_holdings_from_u8.ensures c.requires.2 c.requires.3 in (
      swap_read a.body.now a.holdings.now _ a.reply.now a.start a.cells a.x c.requires.5 c.requires.1 e
          (λ i. omega (arith, c.slice_known-3-1.given i)) _ c.read_words.ensures,
      e,
    )
