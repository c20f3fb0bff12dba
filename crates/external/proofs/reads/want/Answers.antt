-- `external::reads::want` meets its contract: no room, or where the data of such cells go.
-- Assumes nothing.
use mathlib.Core.Path.{sym, ap, ◌∙◌}
use Rattle.modbus.specs.Paper.{kind_in}
use Rattle.frame.specs.Changes.{kind_number}
use Rattle.external.proofs.ReadLaws.{read_handed, wanted_not, wanted_at}
use Rattle.external.proofs.reads.want.Goals as goal

pub returns-in_err-at : goal.returns-in_err-at
returns-in_err-at c =
    read_handed _ _ _ _ c.from_residual.ensures.1
    ∙ wanted_not (kind_in c.args.of) c.args.frame.now _ c.args.response.now _ c.data_bytes-bytes.ensures _ _ _ c.make_room.ensures _ c.in_err-at.was

pub returns-in-Bits : goal.returns-in-Bits
returns-in-Bits c =
    wanted_at (kind_in c.args.of) c.args.frame.now _ c.args.response.now _ c.data_bytes-bytes.ensures _ _ _ c.make_room.ensures _ c.in_ok-at.was _
    (sym (ap (λ k. kind_number (kind_in k)) c.in-Bits.is))

pub returns-in-Words : goal.returns-in-Words
returns-in-Words c =
    wanted_at (kind_in c.args.of) c.args.frame.now _ c.args.response.now _ c.data_bytes-bytes.ensures _ _ _ c.make_room.ensures _ c.in_ok-at.was _
    (sym (ap (λ k. kind_number (kind_in k)) c.in-Words.is))
