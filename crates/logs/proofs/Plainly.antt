-- The totals of a log are the plain sums over its records, and nothing wraps.
-- Assumes nothing.
use mathlib.Core.Logic.{inr}
use mathlib.Core.Path.{◌≡◌, refl, sym, ap, ap₂, ◌∙◌}
use mathlib.Core.List.{List, [], ◌∷◌, ◌++◌}
use Prim.Native.Nat.{ℕ, ◌+◌, ◌-◌, ◌*◌, ◌/◌, ◌%◌, ◌≤◌}
use native.Mathlib.Omega.{arith}
use native.Mathlib.Nat.{zero-add}
use lib.ListN.{length, length-append}
use lib.Seq.{take-length, drop-length, drop-drop}
use Rattle.std.specs.Prelude.{Some, Ok}
use Rattle.logs.specs.Log.{counted_in, peeked, advanced, report, start}
use Rattle.logs.specs.Records.{recorded, logged, Short, over, totals}
use Rattle.logs.specs.declared.Total.{Total}
use Rattle.logs.proofs.LogLaws.{peek_whole, report_step, ends_empty}

-- a record is seen whole
whole : (o : ℕ) (p : List ℕ) → length p ≤ 4096 → o + (4 + length p) ≤ 4294967295 → peeked o (recorded p) ≡ Ok (Some (length p))
whole o p s h =
    let w : length p / 256 * 256 + length p % 256 ≡ length p = omega arith in
    peek_whole o (recorded p) (inr refl, inr refl) (omega arith) (omega (arith, w)) (omega (arith, w)) (omega (arith, w)) ∙ ap (λ n. Ok (Some n)) w

-- and taken off the front
one : (t : Total) (p r : List ℕ) → length p ≤ 4096 → t.at + (4 + length p) ≤ 4294967295 → report t (recorded p ++ r) ≡ report (advanced t p) r
one t p r s h =
    report_step t (recorded p) r (length p) (whole t.at p s h)
    ∙ ap₂ (λ x y. report (advanced t x) (y ++ r)) (take-length p) (sym (drop-drop (length p) 4 (recorded p)) ∙ drop-length p)

at_one : (t : Total) (p : List ℕ) → (advanced t p).at ≡ t.at + (4 + length p)
unfolding advanced
at_one t p = omega arith

-- what is counted before is added to
abbrev added : Total → List (List ℕ) → Total
added t ps = record {
  at = t.at + length (logged ps);
  records = t.records + over (λ p. 1) ps;
  frames = t.frames + over (λ p. (counted_in p).frames) ps;
  inside = t.inside + over (λ p. (counted_in p).inside) ps;
  other = t.other + over (λ p. length p - (counted_in p).inside) ps;
}

same_totals : {t u : Total} → t.at ≡ u.at → t.records ≡ u.records → t.frames ≡ u.frames → t.inside ≡ u.inside → t.other ≡ u.other → t ≡ u
same_totals {t} {u} a r f i o =
    ap (λ x. record t { at = x }) a ∙ ap (λ x. record u { records = x; frames = t.frames; inside = t.inside; other = t.other }) r
    ∙ ap (λ x. record u { frames = x; inside = t.inside; other = t.other }) f ∙ ap (λ x. record u { inside = x; other = t.other }) i
    ∙ ap (λ x. record u { other = x }) o

added_none : (t : Total) → t ≡ added t []
unfolding over logged
added_none t = same_totals (omega arith) (omega arith) (omega arith) (omega arith) (omega arith)

added_one : (t : Total) (p : List ℕ) (ps : List (List ℕ)) → added (advanced t p) ps ≡ added t (p ∷ ps)
unfolding over advanced logged
added_one t p ps =
    let k = length-append (recorded p) (logged ps) in
    same_totals (omega (arith, k)) (omega arith) (omega arith) (omega arith) (omega arith)

from : (t : Total) (ps : List (List ℕ)) → Short ps → t.at + length (logged ps) ≤ 4294967295 → report t (logged ps) ≡ Ok (added t ps)
unfolding logged
from t [] s h = ends_empty t ∙ ap Ok (added_none t)
from t (p ∷ ps) s h =
    let k = length-append (recorded p) (logged ps) in
    let a = at_one t p in
    one t p (logged ps) s.0 (omega (arith, k)) ∙ from (advanced t p) ps s.1 (omega (arith, k, a)) ∙ ap Ok (added_one t p ps)

pub plainly : (ps : List (List ℕ)) → Short ps → length (logged ps) ≤ 4294967295 → report start (logged ps) ≡ totals ps
plainly ps s h = from start ps s (omega arith) ∙ ap Ok (same_totals (zero-add _) (zero-add _) (zero-add _) (zero-add _) (zero-add _))
