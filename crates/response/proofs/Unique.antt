-- Each contract leaves one possible result, and one possible content of the lent response.
-- Assumes nothing.
use mathlib.Core.Path.{◌≡◌, refl, sym, ap, ◌∙◌}
use mathlib.Core.List.{List}
use Prim.Native.Nat.{ℕ}
use Rattle.modbus.specs.Paper.{paper}
use Rattle.modbus.proofs.Unique.{Unique, paper_law}
use Rattle.response.proofs.push.Kinds as push-kinds
use Rattle.response.proofs.push.Reads as push-reads
use Rattle.response.proofs.extend.Kinds as extend-kinds
use Rattle.response.proofs.extend.Reads as extend-reads
use Rattle.response.proofs.resize.Kinds as resize-kinds
use Rattle.response.proofs.resize.Reads as resize-reads
use Rattle.response.proofs.cut_end.Kinds as cut-end-kinds
use Rattle.response.proofs.cut_end.Reads as cut-end-reads
use Rattle.response.proofs.clear.Kinds as clear-kinds
use Rattle.response.proofs.clear.Reads as clear_reads

-- an answer and what one lent buffer holds at exit, told apart by the answer's numbers and the bytes; `lasts` puts the buffer in its place
pub told_apart : {A U : Type 0} (paper : A → ℕ × ℕ) → ((x y : A) → paper x ≡ paper y → x ≡ y) → (lasts : List ℕ → U)
    → (x y : A) (l m : List ℕ) → ◌≡◌ {A = (ℕ × ℕ) × List ℕ} (paper x, l) (paper y, m) → (x ≡ y) × (lasts l ≡ lasts m)
told_apart paper only lasts x y l m e =
    (only x y (ap (λ (t : (ℕ × ℕ) × List ℕ). t.0) e), ap (λ (t : (ℕ × ℕ) × List ℕ). lasts t.1) e)

pub push : Unique 1 push-kinds.ps push-kinds.r push-reads.Post
push κs a x y u v p q = told_apart paper paper_law (λ l. (l, u.1)) x y _ _ (p ∙ sym q)

pub extend : Unique 2 extend-kinds.ps extend-kinds.r extend-reads.Post
extend κs a x y u v p q = told_apart paper paper_law (λ l. (l, u.1)) x y _ _ (p ∙ sym q)

pub resize : Unique 1 resize-kinds.ps resize-kinds.r resize-reads.Post
resize κs a x y u v p q = told_apart paper paper_law (λ l. (l, u.1)) x y _ _ (p ∙ sym q)

pub cut_end : Unique 1 cut-end-kinds.ps cut-end-kinds.r cut-end-reads.Post
cut_end κs a x y u v p q = (paper_law x y (p ∙ sym q), refl)

pub clear : Unique 1 clear-kinds.ps clear-kinds.r clear_reads.Post
clear κs a x y u v p q = (paper_law x y (p ∙ sym q), refl)
