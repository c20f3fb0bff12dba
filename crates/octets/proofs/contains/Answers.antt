-- `octets::contains` meets its contract: the library's search looks for the byte as the list of unit numbers does.
-- Assumes nothing.
use Rattle.std.proofs.Common.{◌∙◌}
use Rattle.octets.proofs.PutLaws.{found}
use Rattle.octets.proofs.contains.Goals as goal

pub returns : goal.returns
returns c = c.stands.ensures ∙ found c.args.b c.args.s.now
