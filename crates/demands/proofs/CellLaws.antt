-- What a request writes, what it leaves in each cell, and that nothing else may be left there.
-- Assumes nothing.
use mathlib.Core.Logic.{inl, inr, by_cases}
use mathlib.Core.Path.{◌≡◌, refl, ap, ap₂, sym, ◌∙◌, subst, fun_ext}
use mathlib.Core.List.Memᴰ
use mathlib.Core.List.{List, [], ◌∷◌, Memᴰ}
use Prim.Native.Nat.{ℕ, ◌-◌, ◌<◌}
use native.Mathlib.Omega.{arith}
use lib.ListN.{length, get_or}
use Rattle.modbus.specs.Bytes.{All}
use Rattle.modbus.specs.Table.{Kind, word, holdings, target, Fits, Tables, Tab, Range, Hits, hits?, assign}
use Rattle.modbus.specs.Request.{Ask, read, write, writes, masks, swaps, Permitted, writing, masked, given, assigned, apply}
use Rattle.modbus.proofs.StepLaws.{pick_yes, pick_no}
use Rattle.modbus.proofs.MaskLaws.{masked_fits}
use Rattle.demands.specs.Demand.{Stored}

-- no cells, or a run of coils or holdings with a value for each
pub data Run : List Range → List ℕ → Type 0 where
  nothing : {vs : List ℕ} → Run [] vs
  run : (k : Kind) (s : ℕ) (vs : List ℕ) → All (Fits k) vs → Run (record { tab = target k; first = s; count = length vs } ∷ []) vs

-- what a permitted request writes, where the tables before it are T
pub run_of : (a : Ask) (T : Tables) → Permitted a → Run (writing a) (given a T)
run_of (read t s n) T p = nothing
run_of (write k a v) T p = run k a (v ∷ []) (p, tt)
run_of (writes k s vs) T p = run k s vs p.2
run_of (masks a x y) T p = run word a (masked (T holdings a) x y ∷ []) (masked_fits (T holdings a) x y p.0 p.1, tt)
run_of (swaps r n s vs) T p = run word s vs p.4

pub outside : (r : Range) (vs : List ℕ) (t : Tables) (tab : Tab) (i : ℕ) → ¬ Hits r tab i → assign r vs t tab i ≡ t tab i
outside r vs t tab i n = pick_no _ _ _ n

none_stored : (vs : List ℕ) (t : Tables) → Stored [] vs t t
none_stored vs t = record { holds = λ r m j h. absurd (Memᴰ.not-nil m); keeps = λ tab i n. refl }

one_stored : (r : Range) (vs : List ℕ) (t : Tables) → Stored (r ∷ []) vs t (assign r vs t)
one_stored r vs t =
    record {
      holds = λ q m j h.
          let z : q ≡ r = Memᴰ.eq_of_singleton m in
          let l : j < r.count = rw z at h in
          rw z (pick_yes _ _ _ (refl, (omega arith, omega arith)) ∙ ap (λ k. get_or vs k 0) (omega arith));
      keeps = λ tab i n. outside r vs t tab i (n r (Memᴰ.head refl));
    }

run_stored : {l : List Range} {vs : List ℕ} (t : Tables) → Run l vs → Stored l vs t (assigned l vs t)
run_stored t nothing = none_stored _ t
run_stored t (run k s vs f) = one_stored _ vs t

pub apply_stored : (a : Ask) (t : Tables) → Permitted a → Stored (writing a) (given a t) t (apply a t)
apply_stored a t p = run_stored t (run_of a t p)

-- a cell is in one of the ranges, or in none
hit_or : {C : Type 0} (l : List Range) (tab : Tab) (i : ℕ) → ((r : Range) → Memᴰ r l → Hits r tab i → C)
    → (((r : Range) → Memᴰ r l → ¬ Hits r tab i) → C) → C
hit_or [] tab i yea nay = nay (λ r m h. Memᴰ.not-nil m)
hit_or (q ∷ l) tab i yea nay =
    by_cases (hits? q tab i)
    (λ h. yea q (Memᴰ.head refl) h)
    (λ n. hit_or l tab i
    (λ r m h. yea r (Memᴰ.tail m) h)
    (λ k. nay (λ r m h. elim (Memᴰ.cases_cons m) [ inl e ↦ n (subst (λ x. Hits x tab i) e h) | inr d ↦ k r d h ])))

-- what a cell of a range holds
cell_of : {l : List Range} {vs : List ℕ} {t a : Tables} → Stored l vs t a → (tab : Tab) (i : ℕ) (r : Range) → Memᴰ r l → Hits r tab i
    → a tab i ≡ get_or vs (i - r.first) 0
cell_of {a = a} h tab i r m (e, (low, high)) = ap₂ a e (omega arith) ∙ h.holds r m (i - r.first) (omega arith)

-- that leaves one possible content of every table
pub same_cells : {l : List Range} {vs : List ℕ} {t a b : Tables} → Stored l vs t a → Stored l vs t b → a ≡ b
same_cells {l} h k =
    fun_ext λ tab. fun_ext λ i.
    hit_or l tab i
    (λ r m w. cell_of h tab i r m w ∙ sym (cell_of k tab i r m w))
    (λ n. h.keeps tab i n ∙ sym (k.keeps tab i n))
