-- A result names what was written: at most one range, of coils or holdings, inside its table; and outside it every cell is as it was, whatever the
-- setup, the tables and the frame.
-- Assumes nothing.
use mathlib.Core.Path.{◌≡◌, refl, sym, ap, ◌∙◌}
use mathlib.Core.List.Memᴰ
use mathlib.Core.List.{List, [], ◌∷◌, Memᴰ}
use Prim.Native.Nat.{ℕ, ◌+◌, ◌≤◌, ◌<◌}
use native.Mathlib.Omega.{arith}
use lib.ListN.{length}
use Rattle.modbus.specs.Bytes.{Bytes}
use Rattle.modbus.specs.Table.{Kind, bit, word, Tab, discretes, inputs, target, Tables, Range, Hits}
use Rattle.modbus.specs.Request.{code, reads, Ask, read, write, writes, masks, swaps, Permitted, writing, assigned}
use Rattle.modbus.specs.Paper.{range_paper}
use Rattle.modbus.specs.Setup.{Setup}
use Rattle.modbus.specs.Drive.{Inside, drive}
use Rattle.modbus.proofs.DriveLaws.{stop_after, stop_changed, go_after, go_changed, by_judge}
use Rattle.demands.specs.Changed.{Outside, Steady, nothing, some_coils, some_holdings, OneRange}
use Rattle.demands.proofs.CellLaws.{Run, nothing as no_cells, run, outside}
use Rattle.demands.proofs.Judge.{judge_serves}

-- ---- outside the range

assigned_steady : (l : List Range) (vs : List ℕ) (t : Tables) (tab : Tab) (i : ℕ) → Outside l tab i → assigned l vs t tab i ≡ t tab i
assigned_steady [] vs t tab i n = refl
assigned_steady (r ∷ l) vs t tab i n = outside r vs t tab i (n r (Memᴰ.head refl))

pub outside_the_range : (s : Setup) (t : Tables) (f : List ℕ) → Steady t (drive s t f)
unfolding drive
outside_the_range s t f tab i n =
    by_judge s f
    (λ x e. rw (e, stop_after s t x))
    (λ m a e.
    let w : (drive s t f).changed ≡ writing a = rw e (go_changed s t m a) in
    rw (e, go_after s t m a) (assigned_steady (writing a) _ t tab i (rw w at n)))

-- ---- one range

-- what a permitted request with its cells inside writes
pub one_written : (s : Setup) (a : Ask) → Permitted a → Inside s a → OneRange s.cells (writing a)
one_written s (read t first n) p h = (omega arith, nothing)
one_written s (write bit a v) p h = (omega arith, some_coils a 1 (omega arith) (omega arith) h.0)
one_written s (write word a v) p h = (omega arith, some_holdings a 1 (omega arith) (omega arith) h.0)
one_written s (writes bit first vs) p h = (omega arith, some_coils first (length vs) p.0 p.1 h.0)
one_written s (writes word first vs) p h = (omega arith, some_holdings first (length vs) p.0 p.1 h.0)
one_written s (masks a x y) p h = (omega arith, some_holdings a 1 (omega arith) (omega arith) h.0)
one_written s (swaps r n first vs) p h = (omega arith, some_holdings first (length vs) p.2 (omega (arith, p.3)) h.1.0)

pub one_range : (s : Setup) (t : Tables) (f : List ℕ) → Bytes f → OneRange s.cells (drive s t f).changed
unfolding drive
one_range s t f y =
    by_judge s f
    (λ x e. rw (e, stop_changed s t x) (omega arith, nothing))
    (λ m a e.
    let h = judge_serves s f y m a e in
    rw (e, go_changed s t m a) (one_written s a h.permitted h.inside))

-- ---- discretes and inputs

target_of : (a : Ask) (r : Range) → Memᴰ r (writing a) → (k : Kind) × (r.tab ≡ target k)
target_of (read t s n) r m = absurd (Memᴰ.not-nil m)
target_of (write k a v) r m = (k, ap (λ (x : Range). x.tab) (Memᴰ.eq_of_singleton m))
target_of (writes k s vs) r m = (k, ap (λ (x : Range). x.tab) (Memᴰ.eq_of_singleton m))
target_of (masks a x y) r m = (word, ap (λ (x : Range). x.tab) (Memᴰ.eq_of_singleton m))
target_of (swaps q n s vs) r m = (word, ap (λ (x : Range). x.tab) (Memᴰ.eq_of_singleton m))

no_target : (k : Kind) → (¬ (discretes ≡ target k)) × (¬ (inputs ≡ target k))
no_target bit = (λ e. let z : ◌≡◌ {A = ℕ} 0 1 = cc in omega arith, λ e. let z : ◌≡◌ {A = ℕ} 0 1 = cc in omega arith)
no_target word = (λ e. let z : ◌≡◌ {A = ℕ} 0 1 = cc in omega arith, λ e. let z : ◌≡◌ {A = ℕ} 0 1 = cc in omega arith)

module _ (s : Setup) (t : Tables) (f : List ℕ) where
  only_read : (tab : Tab) → ((k : Kind) → ¬ (tab ≡ target k)) → (i : ℕ) → (drive s t f).after tab i ≡ t tab i
  unfolding drive
  only_read tab n i =
      by_judge s f
      (λ x e. rw (e, stop_after s t x))
      (λ m a e.
      rw (e, go_after s t m a)
      (assigned_steady (writing a) _ t tab i (λ r w h. let (k, z) = target_of a r w in n k (h.0 ∙ z))))

  -- these are as they were, whatever the result names
  pub discretes_and_inputs : (i : ℕ) → ((drive s t f).after discretes i ≡ t discretes i) × ((drive s t f).after inputs i ≡ t inputs i)
  discretes_and_inputs i = (only_read discretes (λ k. (no_target k).0) i, only_read inputs (λ k. (no_target k).1) i)

-- ---- in numbers

-- a cell of a range is one that its numbers name
pub hit_named : {l : List Range} {vs : List ℕ} → Run l vs → (tab : Tab) (i : ℕ) (r : Range) → Memᴰ r l → Hits r tab i
    → ((range_paper l).0 ≡ code (reads tab)) × (((range_paper l).1 ≤ i) × (i < (range_paper l).1 + (range_paper l).2))
hit_named no_cells tab i r m h = absurd (Memᴰ.not-nil m)
hit_named (run k s vs f) tab i r m h =
    let z = Memᴰ.eq_of_singleton m in
    let (e, (low, high)) : Hits (record { tab = target k; first = s; count = length vs }) tab i = rw z at h in
    (ap (λ (x : Tab). code (reads x)) (sym e), (low, high))
