-- Each contract leaves one possible result, and one possible content of every lent buffer.
-- Assumes nothing.
use mathlib.Core.Path.{refl, sym, ap, ◌∙◌}
use mathlib.Core.Bool.{Bool}
use mathlib.Core.List.{List}
use Prim.Native.Nat.{ℕ}
use Rattle.modbus.proofs.Unique.{Unique}
use Rattle.octets.proofs.byte.Kinds as byte-kinds
use Rattle.octets.proofs.byte.Reads as byte-reads
use Rattle.octets.proofs.word.Kinds as word-kinds
use Rattle.octets.proofs.word.Reads as word-reads
use Rattle.octets.proofs.contains.Kinds as contains-kinds
use Rattle.octets.proofs.contains.Reads as contains-reads
use Rattle.octets.proofs.put_byte.Kinds as put-byte-kinds
use Rattle.octets.proofs.put_byte.Reads as put-byte-reads

pub byte : Unique 1 byte-kinds.ps byte-kinds.r byte-reads.Post
byte κs a x y u v p q = (p ∙ sym q, refl)

pub word : Unique 1 word-kinds.ps word-kinds.r word-reads.Post
word κs a x y u v p q = (p ∙ sym q, refl)

pub contains : Unique 1 contains-kinds.ps contains-kinds.r contains-reads.Post
contains κs a x y u v p q = (p ∙ sym q, refl)

pub put_byte : Unique 1 put-byte-kinds.ps put-byte-kinds.r put-byte-reads.Post
put_byte κs a x y u v p q =
    let e = p ∙ sym q in
    (ap (λ (t : Bool × List ℕ). t.0) e, ap (λ (t : Bool × List ℕ). (t.1, u.1)) e)
