-- `linecount::count::Counter::advance` meets its contract: no sum is more than the log's bytes.
-- Assumes nothing.
use Rattle.std.proofs.Common.{arith}
use Rattle.logs.specs.Log.{advanced}
use Rattle.logs.proofs.CountLaws.{sound_more}
use Rattle.logs.proofs.LogLaws.{record_fits}
use Rattle.linecount.proofs.count.Counter.advance.Goals as goal

pub overflow_add-self-4 : goal.overflow_add-self-4
overflow_add-self-4 c = let f = record_fits _ _ _ c.args.self.now.sound c.requires.0 c.count_record-c.ensures in omega (arith, f.0)

pub overflow_add-self-5 : goal.overflow_add-self-5
overflow_add-self-5 c = let f = record_fits _ _ _ c.args.self.now.sound c.requires.0 c.count_record-c.ensures in omega (arith, f.1)

pub overflow_sub-self : goal.overflow_sub-self
overflow_sub-self c = let f = record_fits _ _ _ c.args.self.now.sound c.requires.0 c.count_record-c.ensures in f.2

pub invariant_of-self : goal.invariant_of-self
unfolding advanced
invariant_of-self c = record { sound = rw c.count_record-c.ensures (sound_more _ _ c.args.self.now.sound c.requires.0) }
