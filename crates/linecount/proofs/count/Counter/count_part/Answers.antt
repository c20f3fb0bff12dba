-- `linecount::count::Counter::count_part` meets its contract. The invariant: what was taken off the front has moved into the totals.
-- Assumes nothing.
use Rattle.std.proofs.Common.{rules, ◌≡◌, ℕ, ◌+◌, ◌-◌, List, ◌++◌, take, drop, sym, ap, ◌∙◌, ap₂, arith, drop-drop}
use Rattle.logs.specs.Log.{report, advanced}
use Rattle.logs.specs.declared.Total.{Total}
use Rattle.logs.proofs.LogLaws.{report_step, at_step}
use Rattle.linecount.proofs.ReadingLaws.{whole_front}
use Rattle.linecount.proofs.count.Counter.count_part.Goals as goal

-- the record's bytes, as a part of the log
cut : (l : List ℕ) (u n : ℕ) → take n (drop 4 (drop u l)) ≡ take (u + 4 + n - (u + 4)) (drop (u + 4) l)
cut l u n = ap₂ (λ k m. take k m) (let z : n ≡ u + 4 + n - (u + 4) = omega arith in z) (drop-drop 4 u l)

pub overflow_add-end-in-Some : goal.overflow_add-end-in-Some
overflow_add-end-in-Some c =
    let (w, a, b, o) = whole_front c.loop-n.self.total c.args.log.now c.loop-n.used _ _ c.loop-n.invariant.0 c.in_ok-n.ensures c.in-Some.is in
    omega (arith, a)

pub slice_bounds-advance-end : goal.slice_bounds-advance-end
slice_bounds-advance-end c =
    let (w, a, b, o) = whole_front c.loop-n.self.total c.args.log.now c.loop-n.used _ _ c.loop-n.invariant.0 c.in_ok-n.ensures c.in-Some.is in
    search rules

pub loop-n-preserved : goal.loop-n-preserved
loop-n-preserved c =
    let m = c.loop-n in
    let l = c.args.log.now in
    let n = c.in-Some.n in
    let (w, a, b, o) = whole_front m.self.total l m.used _ n m.invariant.0 c.in_ok-n.ensures c.in-Some.is in
    let t = ap (advanced m.self.total) (cut l m.used n) ∙ sym c.advance.ensures in (
      omega (arith, a),
      sym (ap (λ (x : Total). x.at) t) ∙ at_step m.self.total (drop m.used l) n w ∙ (let z : m.self.total.at + (4 + n) ≡ c.args.self.now.total.at + (m.used + 4 + n) = omega (arith, m.invariant.1) in z),
      λ next.
          m.invariant.2 next ∙ report_step m.self.total (drop m.used l) next n w
          ∙ ap₂ (λ x y. report x (y ++ next)) t (drop-drop (4 + n) m.used l ∙ ap (λ k. drop k l) (let z : m.used + (4 + n) ≡ m.used + 4 + n = omega arith in z)),
    )
