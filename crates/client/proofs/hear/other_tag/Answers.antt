-- `client::hear::other_tag` meets its contract: the serial lines have no tag, and TCP has two bytes.
-- Assumes nothing.
use mathlib.Core.Path.{sym, ◌∙◌}
use Rattle.std.proofs.lemmas.Bool.{lt-leb}
use Rattle.modbus.proofs.StepLaws.{pick_yes}
use Rattle.client.proofs.HearLaws.{tag_none, tag_test}
use Rattle.client.proofs.hear.other_tag.Goals as goal

pub returns-then-proto-ge2 : goal.returns-then-proto-ge2
returns-then-proto-ge2 c =
    let a = c.args in
    tag_test a.proto a.request.now a.response.now _ c.if-proto-ge2.true c.requires.0 c.requires.1 c.ne.ensures

pub returns-else-proto-ge2 : goal.returns-else-proto-ge2
returns-else-proto-ge2 c = lt-leb _ _ c.if-proto-ge2.false ∙ sym (pick_yes _ _ _ (tag_none c.args.proto _ _ _ _ c.if-proto-ge2.false))
