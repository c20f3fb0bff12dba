-- `driver::handle` meets its contract: what was judged, served and closed make up the call.
-- Assumes nothing.
use native.Mathlib.Omega.{arith}
use Rattle.modbus.specs.Paper.{proto_of}
use Rattle.driver.proofs.HandleLaws.{start_room, body_ready, served_brief, served_room, closed_handled}
use Rattle.driver.proofs.handle.Goals as goal

pub serve-told-requires : goal.serve-told-requires
serve-told-requires c =
    let a = c.args in
    record {
      ready = (
        body_ready a.setup a.list.now a.coils.now a.discretes.now a.holdings.now a.inputs.now a.frame.now a.reply.now a.body.now
            (λ i. omega (arith, c.shared_slice_known-2-1.given i)) c.requires.in_bounds.0 c.requires.sized _ c.listed-broadcast.ensures _ c.judge-verdict.ensures,
        rw c.requires.in_bounds.1 (start_room (proto_of a.setup.transport) a.reply.now c.requires.in_bounds.2),
      );
      sized = c.requires.sized;
    }

pub close-sent-requires : goal.close-sent-requires
close-sent-requires c =
    let a = c.args in
    let f = c.serve-told.ensures.laid in (
      served_brief a.setup a.list.now a.coils.now a.discretes.now a.holdings.now a.inputs.now a.frame.now a.reply.now a.body.now
          (λ i. omega (arith, c.shared_slice_known-2-1.given i)) c.requires.in_bounds.0 c.requires.sized _ c.listed-broadcast.ensures _ c.judge-verdict.ensures
          a.start c.requires.in_bounds.1 _ _ _ _ f,
      served_room a.setup a.list.now a.coils.now a.discretes.now a.holdings.now a.inputs.now a.frame.now a.reply.now a.body.now
          (λ i. omega (arith, c.shared_slice_known-2-1.given i)) c.requires.in_bounds.0 c.requires.sized _ c.listed-broadcast.ensures _ c.judge-verdict.ensures
          a.start c.requires.in_bounds.1 _ _ _ _ f c.requires.in_bounds.2,
      c.requires.in_bounds.3,
    )

pub returns : goal.returns
returns c =
    let a = c.args in
    closed_handled a.setup a.list.now a.coils.now a.discretes.now a.holdings.now a.inputs.now a.frame.now a.reply.now a.body.now
    (λ i. omega (arith, c.shared_slice_known-2-1.given i)) c.requires.in_bounds.0 c.requires.sized _ c.listed-broadcast.ensures _ c.judge-verdict.ensures
    a.start c.requires.in_bounds.1 _ _ _ _ c.serve-told.ensures.laid _ _ c.requires.in_bounds.2 _ _ c.close-sent.ensures _ (c.serve-told.ensures.told _)
