-- `incoming::follows` meets its contract: the bytes do not stand in the frame, or they differ, or they are the same.
-- Assumes nothing.
use Rattle.std.proofs.Common.{◌≡◌, ◌+◌, ◌-◌, length, Bool, not, true, false, refl, sym, ap, ◌∙◌, arith}
use Rattle.std.proofs.lemmas.Slice.Eq.{bytes_eq-Decides}
use Rattle.modbus.specs.Paper.{told}
use Rattle.incoming.proofs.EnvelopeLaws.{follows_beyond, follows_there, follows_not}
use Rattle.incoming.proofs.follows.Goals as goal
use Rattle.incoming.proofs.follows.Goals.{then-buf-start-via-then-buf-start, then-buf-start-via-else-buf-start+then-buf-start-2, then-buf-start-via-else-buf-start+else-buf-start-2+then-buf-start-3}

same : (b : Bool) → false ≡ not b → b ≡ true
same true e = refl
same false e = e

pub returns-then-buf-start : goal.returns-then-buf-start
returns-then-buf-start c =
    sym
    (ap told
    (follows_beyond _ _ _
    (elim c.then-buf-start.branch [
      | then-buf-start-via-then-buf-start w ↦ omega arith
      | then-buf-start-via-else-buf-start+then-buf-start-2 w ↦ omega arith
      | then-buf-start-via-else-buf-start+else-buf-start-2+then-buf-start-3 w ↦ omega arith
    ])))

pub returns-then-ne : goal.returns-then-ne
returns-then-ne c =
    let a = c.args in
    let k : a.start + a.len + length a.check.now - (a.start + a.len) ≡ length a.check.now = omega arith in
    let e = rw k at c.if-ne.ensures in
    sym (ap told (follows_not _ _ _ (omega arith) (λ q. let f : true ≡ false = e ∙ ap not ((bytes_eq-Decides _ _).1 q) in cc)))

pub returns : goal.returns
returns c =
    let a = c.args in
    let k : a.start + a.len + length a.check.now - (a.start + a.len) ≡ length a.check.now = omega arith in
    let e = rw k at c.if-ne.ensures in
    sym (ap told (follows_there _ _ _ (omega arith) ((bytes_eq-Decides _ _).0 (same _ e))))
