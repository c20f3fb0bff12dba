-- `ModbusFunction::try_from`: each arm is a function's number, and the rest is none.
-- Assumes nothing.
use mathlib.Core.Path.{sym}
use native.Mathlib.Omega.{arith}
use Rattle.modbus.specs.Table.{coils, discretes, holdings, inputs, bit, word}
use Rattle.modbus.specs.Ported.{reads, one, many}
use Rattle.modbus.proofs.FindLaws.{none_ported}
use Rattle.frame.proofs.StateLaws.{function_known, function_none}
use Rattle.frame.proofs.ModbusFunctionTryFromU8.try_from.Goals as goal

pub returns-in-1 : goal.returns-in-1
returns-in-1 c = sym (function_known _ (reads coils) c.in-1.is)

pub returns-in-2 : goal.returns-in-2
returns-in-2 c = sym (function_known _ (reads discretes) c.in-2.is)

pub returns-in-3 : goal.returns-in-3
returns-in-3 c = sym (function_known _ (reads holdings) c.in-3.is)

pub returns-in-4 : goal.returns-in-4
returns-in-4 c = sym (function_known _ (reads inputs) c.in-4.is)

pub returns-in-5 : goal.returns-in-5
returns-in-5 c = sym (function_known _ (one bit) c.in-5.is)

pub returns-in-6 : goal.returns-in-6
returns-in-6 c = sym (function_known _ (one word) c.in-6.is)

pub returns-in-15 : goal.returns-in-15
returns-in-15 c = sym (function_known _ (many bit) c.in-15.is)

pub returns-in-16 : goal.returns-in-16
returns-in-16 c = sym (function_known _ (many word) c.in-16.is)

pub returns-in_default : goal.returns-in_default
returns-in_default c =
    sym (function_none _ _ (none_ported _ (omega arith) (omega arith) (omega arith) (omega arith) (omega arith) (omega arith) (omega arith) (omega arith)))
