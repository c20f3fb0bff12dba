-- `logs::search::opening` meets its contract: the register after one byte, and after two.
-- Assumes nothing.
use mathlib.Core.Path.{◌≡◌, refl, sym, ap, ◌∙◌}
use Prim.Native.Nat.{ℕ, ◌+◌, ◌<◌}
use native.Mathlib.Omega.{arith}
use mathlib.Core.List.{List}
use lib.ListN.{length, take, drop, get_or}
use lib.Seq.{drop-cons}
use Rattle.modbus.specs.Check.{crc_byte, crc, crc_from}
use Rattle.logs.proofs.SearchLaws.{crc_more}
use Rattle.logs.proofs.search.opening.Goals as goal

first : (l : List ℕ) (s : ℕ) → s < length l → crc_byte 65535 (get_or l s 0) ≡ crc (take 1 (drop s l))
unfolding crc crc_from
first l s h = rw (drop-cons l s 0 h) refl

pub returns : goal.returns
returns c =
    let a = c.args in
    let l = a.«record».now in
    c.crc_byte-2.ensures ∙ ap (λ x. crc_byte x (get_or l (a.start + 1) 0)) (c.crc_byte.ensures ∙ first l a.start (omega arith))
    ∙ sym (crc_more l a.start 1 (omega arith))
