-- `driver::serve::serve` meets its contract, verdict by verdict.
-- Assumes nothing.
use Rattle.modbus.specs.Table.{coils, holdings}
use Rattle.driver.proofs.serve.serve.Goals as goal

pub write_bits-requires : goal.write_bits-requires
write_bits-requires c =
    let i = c.in-Ok-WriteBits in
    let r = rw (i.is, rw i.is at i.field-0-is) at c.requires.ready.0 in
    (r.inside, r.held, c.requires.sized coils)

pub write_words-requires : goal.write_words-requires
write_words-requires c =
    let i = c.in-Ok-WriteWords in
    let r = rw (i.is, rw i.is at i.field-0-is) at c.requires.ready.0 in
    (r.inside, r.held, r.single, c.requires.sized holdings)

pub write_mask-requires : goal.write_mask-requires
write_mask-requires c =
    let i = c.in-Ok-Mask in
    let r = rw (i.is, rw i.is at i.field-0-is) at c.requires.ready.0 in
    (r.inside, c.requires.sized holdings)

pub exchange-n-requires : goal.exchange-n-requires
exchange-n-requires c =
    let i = c.in-Ok-Exchange in
    let r = rw (i.is, rw i.is at i.field-0-is) at c.requires.ready.0 in
    (r.most, r.inside, r.within, r.held, c.requires.ready.1, c.requires.sized holdings)

pub returns-in-Ok-WriteBits-clause-told : goal.returns-in-Ok-WriteBits-clause-told
returns-in-Ok-WriteBits-clause-told c = let i = c.in-Ok-WriteBits in rw (i.is, rw i.is at i.field-0-is) c.wrote.ensures

pub returns-in-Ok-WriteWords-clause-told : goal.returns-in-Ok-WriteWords-clause-told
returns-in-Ok-WriteWords-clause-told c =
    let i = c.in-Ok-WriteWords in
    rw (i.is, rw i.is at i.field-0-is) c.wrote-in-Ok-WriteWords.ensures

pub returns-in-Ok-Mask-clause-told : goal.returns-in-Ok-Mask-clause-told
returns-in-Ok-Mask-clause-told c = let i = c.in-Ok-Mask in rw (i.is, rw i.is at i.field-0-is) c.wrote-in-Ok-Mask.ensures

pub returns-in-Ok-Exchange-clause-told : goal.returns-in-Ok-Exchange-clause-told
returns-in-Ok-Exchange-clause-told c = let i = c.in-Ok-Exchange in rw (i.is, rw i.is at i.field-0-is) c.pack.ensures

pub returns-in-Err-clause-told : goal.returns-in-Err-clause-told
returns-in-Err-clause-told c = rw c.in-Err.is c.refused.ensures
