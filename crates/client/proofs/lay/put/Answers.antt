-- `client::lay::put` meets its contract, by the kind.
-- Assumes nothing.
use Rattle.client.proofs.LayLaws.{put_bit, put_word, put_done, word_done}
use Rattle.client.proofs.lay.put.Goals as goal

pub unwrap-requires : goal.unwrap-requires
unwrap-requires c =
    let a = c.args in
    put_done a.bytes.now _ a.n a.i a.value c.set_coil.result c.requires.2 c.requires.3 a.kind c.in-Bits.is c.requires.1 _ c.set_coil.ensures

pub unwrap-requires-in-Words : goal.unwrap-requires-in-Words
unwrap-requires-in-Words c =
    let a = c.args in
    word_done a.bytes.now _ a.n a.i a.value c.set_holding.result c.requires.2 c.requires.3 a.kind c.in-Words.is c.requires.1 c.set_holding.ensures

pub returns-in-Bits : goal.returns-in-Bits
returns-in-Bits c =
    let a = c.args in
    put_bit a.bytes.now _ a.n a.i a.value c.set_coil.result c.requires.2 c.requires.3 a.kind c.in-Bits.is c.requires.0 c.requires.1 c.set_coil.ensures

pub returns-in-Words : goal.returns-in-Words
returns-in-Words c =
    let a = c.args in
    put_word a.bytes.now _ a.n a.i a.value c.set_holding.result c.requires.2 c.requires.3 a.kind c.in-Words.is c.requires.1 c.set_holding.ensures
