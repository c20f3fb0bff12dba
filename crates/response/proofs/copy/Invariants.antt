-- `response::copy` meets its contract. The loop's invariant: k blocks are copied. Each call behind it copies more, the last up to the end.
-- Assumes nothing.
use Rattle.std.proofs.Common.{◌≡◌, ◌*◌, ◌≤◌, length, take, drop}
use Rattle.std.specs.Iterator.Adapters.{enumerate_source, enumerate_count}
use Rattle.std.specs.Slice.Iter.{chunks_exact_rest, chunks_exact_size}
use lib.Seq.{sets}
use Rattle.response.proofs.copy.Given as goal

abbrev pub invariant-loop-k : goal.invariant-loop-k
invariant-loop-k l = let done = 32 * enumerate_count l.k-iterator in
    (chunks_exact_size (enumerate_source l.k-iterator) ≡ 32)
    × (drop done l.src ≡ chunks_exact_rest (enumerate_source l.k-iterator))
    × (done ≤ length l.src)
    × (l.dst ≡ sets l.initial.dst l.at (take done l.src))
