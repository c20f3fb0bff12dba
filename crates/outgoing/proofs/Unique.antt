-- Each contract leaves one possible result, and one possible content of the lent response.
-- Assumes nothing.
use mathlib.Core.Path.{◌≡◌, refl, sym, ap, ◌∙◌}
use mathlib.Core.List.{List}
use Prim.Native.Nat.{ℕ}
use Rattle.modbus.specs.declared.ErrorKind.{ErrorKind}
use Rattle.std.specs.Prelude.{Result, ⊤}
use Rattle.modbus.proofs.Unique.{Unique, done_paper_law, done_number}
use Rattle.outgoing.specs.Grow.{Response, grown_paper}
use Rattle.outgoing.proofs.reach.Kinds as reach-kinds
use Rattle.outgoing.proofs.reach.Reads as reach-reads
use Rattle.outgoing.proofs.head.Kinds as head-kinds
use Rattle.outgoing.proofs.head.Reads as head-reads
use Rattle.outgoing.proofs.echo.Kinds as echo-kinds
use Rattle.outgoing.proofs.echo.Reads as echo-reads
use Rattle.outgoing.proofs.except.Kinds as except-kinds
use Rattle.outgoing.proofs.except.Reads as except-reads
use Rattle.outgoing.proofs.seal.Kinds as seal-kinds
use Rattle.outgoing.proofs.seal.Reads as seal-reads

-- what a call leaves, told apart by its numbers and the slice's bytes; `lasts` puts the length and the slice in their places
pub grown_apart : {U : Type 0} (lasts : ℕ → List ℕ → U) (x y : Result ⊤ ErrorKind) (n k : ℕ) (l m : List ℕ)
    → grown_paper x n l ≡ grown_paper y k m → (x ≡ y) × (lasts n l ≡ lasts k m)
grown_apart lasts x y n k l m e = (
  done_number x y (ap (λ (t : ℕ × Response). t.0) e),
  ap (λ (t : ℕ × Response). lasts t.1.len t.1.out) e,
)

pub reach : Unique 1 reach-kinds.ps reach-kinds.r reach-reads.Post
reach κs a x y u v p q = (done_paper_law x y (p ∙ sym q), refl)

pub head : Unique 3 head-kinds.ps head-kinds.r head-reads.Post
head κs a x y u v p q =
    grown_apart (λ n l. (u.0, (u.1.0, (u.1.1.0, (u.1.1.1.0, (l, (n, u.1.1.1.1.1.1))))))) x y _ _ _ _ (p ∙ sym q)

pub echo : Unique 3 echo-kinds.ps echo-kinds.r echo-reads.Post
echo κs a x y u v p q = grown_apart (λ n l. (u.0, (u.1.0, (u.1.1.0, (l, (n, u.1.1.1.1.1)))))) x y _ _ _ _ (p ∙ sym q)

pub except : Unique 2 except-kinds.ps except-kinds.r except-reads.Post
except κs a x y u v p q =
    grown_apart (λ n l. (u.0, (u.1.0, (u.1.1.0, (u.1.1.1.0, (l, (n, u.1.1.1.1.1.1))))))) x y _ _ _ _ (p ∙ sym q)

pub seal : Unique 2 seal-kinds.ps seal-kinds.r seal-reads.Post
seal κs a x y u v p q = grown_apart (λ n l. (u.0, (l, (n, u.1.1.1)))) x y _ _ _ _ (p ∙ sym q)
