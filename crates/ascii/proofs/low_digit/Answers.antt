-- `ascii::low_digit` meets its contract: the table has the characters of the digits from 0 on.
-- Assumes nothing.
use Rattle.std.proofs.Common.{◌%◌, arith}
use Rattle.std.proofs.lemmas.List.FromFn.{get_or-map-range_with_len}
use native.Mathlib.Decide.{dec_le}
use Rattle.modbus.specs.Step.{choose}
use Rattle.modbus.specs.Hex.{digit}
use Rattle.ascii.proofs.low_digit.Goals as goal

pub returns : goal.returns
unfolding dec_le choose digit
returns c = get_or-map-range_with_len digit 0 16 (c.args.b % 16) _ 0 (omega arith) (omega arith)
