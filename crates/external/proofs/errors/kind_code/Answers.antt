-- `external::errors::kind_code` meets its contract.
-- Assumes nothing.
use mathlib.Core.Path.{sym, ap}
use Rattle.external.specs.Answers.{coded}
use Rattle.external.proofs.ErrorLaws.{kind_illegal, kind_other}
use Rattle.external.proofs.errors.kind_code.Goals as goal

pub returns-in-IllegalDataValue : goal.returns-in-IllegalDataValue
returns-in-IllegalDataValue c = sym (ap coded (kind_illegal _ c.in-IllegalDataValue.is))

pub returns-in_default : goal.returns-in_default
returns-in_default c = sym (ap coded (kind_other _ c.in_default.not-IllegalDataValue))
