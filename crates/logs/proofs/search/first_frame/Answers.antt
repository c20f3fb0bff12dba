-- `logs::search::first_frame` meets its contract. What is left of the search stands in both invariants: of the starts in the outer, of the lengths at
-- one start in the inner.
-- Assumes nothing.
use Rattle.std.proofs.Common.{◌≡◌, ℕ, suc, ◌+◌, ◌-◌, ◌≤◌, ◌<◌, List, length, take, drop, get_or, refl, sym, ap, ◌∙◌, arith, add-one, true, true≢false}
use Rattle.modbus.specs.Check.{crc_byte, crc}
use Rattle.logs.specs.Search.{first_in, lengths, starts, paper, Seen}
use Rattle.logs.proofs.SearchLaws.{crc_more, taken, passed, no_more, next_start, no_start}
use Rattle.logs.proofs.search.first_frame.Goals as goal

held : (l : List ℕ) (n : ℕ) → first_in l n ≡ starts l (length l - 3 - n) n
unfolding first_in
held l n = refl

on_length : (l : List ℕ) (s m n : ℕ) (z : Seen) → lengths l s (suc m - suc n) (suc n) z ≡ lengths l s (suc m - (n + 1)) (n + 1) z
on_length l s m n z = ap (λ x. lengths l s (suc m - x) x z) (sym (add-one n))

on_start : (l : List ℕ) (last s : ℕ) → starts l (last - suc s) (suc s) ≡ starts l (last - (s + 1)) (s + 1)
on_start l last s = ap (λ x. starts l (last - x) x) (sym (add-one s))

more : (l : List ℕ) (s n c : ℕ) → 2 ≤ n → s + (n - 2) < length l → c ≡ crc (take (n - 2) (drop s l))
    → crc_byte c (get_or l (s + n - 2) 0) ≡ crc (take (suc (n - 2)) (drop s l))
more l s n c h k e =
    let j : s + n - 2 ≡ s + (n - 2) = omega arith in
    rw (e, j) (sym (crc_more l s (n - 2) k))

pub starts-init : goal.starts-init
starts-init c = (refl, held _ _)

pub loop-n-init : goal.loop-n-init
loop-n-init c =
    let r = c.args.«record».now in
    let s = c.starts.start in
    let i = c.starts.invariant in
    let most = c.min-most.ensures in (
      i.0,
      omega arith,
      c.opening-register.ensures,
      i.1 ∙ next_start r (length r - 3) s (omega arith) ∙ ap (λ m. lengths r s (suc m - 4) 4 (starts r (length r - 3 - suc s) (suc s))) (sym most),
    )

pub loop-n-preserved : goal.loop-n-preserved
loop-n-preserved c =
    let r = c.args.«record».now in
    let n = c.loop-n.n in
    let s = c.starts.start in
    let i = c.loop-n.invariant in
    let k : n + 1 - 2 ≡ suc (n - 2) = omega arith in
    let miss : ¬ c.ends.result ≡ true = λ e. absurd (true≢false (sym e ∙ c.if-ends.false)) in (
      i.0,
      omega arith,
      rw k (c.crc_byte-register.ensures ∙ more r s n c.loop-n.register (omega arith) (omega arith) i.2),
      i.3 ∙ passed r s c.min-most.result n _ (omega arith) (λ h. miss (c.ends.ensures.1 (rw i.2 h))) ∙ on_length r s c.min-most.result n _,
    )

pub starts-preserved : goal.starts-preserved
starts-preserved c =
    let i = c.loop-n.invariant in
    (i.0, i.3 ∙ no_more _ _ _ c.loop-n.n _ (omega arith) ∙ on_start _ _ c.starts.start)

pub returns-after-starts : goal.returns-after-starts
returns-after-starts c =
    let i = c.starts.invariant in
    ap paper i.0 ∙ sym (i.1 ∙ no_start _ _ c.starts.start (omega arith))

pub returns-then-ends : goal.returns-then-ends
returns-then-ends c =
    let r = c.args.«record».now in
    let i = c.loop-n.invariant in
    sym (i.3 ∙ taken r c.starts.start c.min-most.result c.loop-n.n _ (omega arith) (rw i.2 at (c.ends.ensures.0 c.if-ends.true)))
