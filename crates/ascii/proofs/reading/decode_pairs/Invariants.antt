-- `ascii::reading::decode_pairs` meets its contract. The loop's invariant: the pairs that are left make the buffer the one asked.
-- Assumes nothing.
use Rattle.std.proofs.Common.{◌≡◌, ◌+◌, ◌*◌, length}
use Rattle.std.specs.Iterator.Adapters.{enumerate_source, enumerate_count}
use Rattle.std.specs.Slice.Iter.{chunks_exact_rest, chunks_exact_size}
use lib.Seq.{sets}
use Rattle.modbus.specs.Bytes.{All}
use Rattle.ascii.specs.Plain.{Digit, pair_values}
use Rattle.ascii.proofs.reading.decode_pairs.Given as goal

abbrev pub invariant-loop-i : goal.invariant-loop-i
invariant-loop-i l = let left = chunks_exact_rest (enumerate_source l.i-iterator) in
    let i = enumerate_count l.i-iterator in
    (chunks_exact_size (enumerate_source l.i-iterator) ≡ 2)
    × (2 * i + length left ≡ 2 * length l.bytes)
    × All Digit left
    × (sets l.bytes i (pair_values left) ≡ sets l.initial.bytes 0 (pair_values l.text))
