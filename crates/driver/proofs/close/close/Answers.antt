-- `driver::close::close` meets its contract: without a body nothing is sent, and every body fits.
-- Assumes nothing.
use mathlib.Core.Path.{◌≡◌, refl, sym, ap, ◌∙◌}
use mathlib.Core.List.{List}
use Prim.Native.Nat.{ℕ}
use lib.ListN.{get_or}
use Rattle.std.specs.Prelude.{Option, Some}
use Rattle.modbus.specs.Paper.{proto_of}
use Rattle.modbus.specs.Frame.{tag_of}
use Rattle.transports.proofs.SealedLaws.{sealed_room}
use Rattle.driver.proofs.CloseLaws.{some_pair, frame_closed}
use Rattle.driver.proofs.close.close.Goals as goal

pub unwrap-requires : goal.unwrap-requires
unwrap-requires c =
    let a = c.args in
    let p = proto_of a.transport in
    let tag = tag_of p (get_or a.frame.now 0 0) (get_or a.frame.now 1 0) in
    let e : c.seal.result ≡ Some _ = ap (λ (x : Option ℕ × List ℕ). x.0) (c.seal.ensures ∙ sealed_room p tag a.n a.reply.now c.requires.1 c.requires.0) in
    rw e refl

pub returns : goal.returns
returns c =
    let a = c.args in
    let p = proto_of a.transport in
    let tag = tag_of p (get_or a.frame.now 0 0) (get_or a.frame.now 1 0) in
    some_pair (ap (λ (x : Option ℕ). (x, c.seal.new.reply)) (sym c.unwrap.ensures) ∙ c.seal.ensures ∙ sealed_room p tag a.n a.reply.now c.requires.1 c.requires.0)
    ∙ frame_closed p tag a.reply.now a.n c.if-n-eq0.false
