-- A request's values stored in lent bytes are stored in the cells of these bytes, and every byte that no written cell is in is kept. All is
-- said over the run of cells that a request writes and the table's storage.
-- Assumes nothing.
use mathlib.Core.Logic.{inl, inr, ◌≢◌}
use mathlib.Core.Path.{◌≡◌, refl, sym, ap, ◌∙◌, subst, fun_ext}
use mathlib.Core.List.Memᴰ
use mathlib.Core.List.{List, [], ◌∷◌, ◌++◌, Memᴰ}
use Prim.Native.Nat.{ℕ, suc, ◌+◌, ◌*◌, ◌/◌, ◌≤◌, ◌<◌}
use native.Mathlib.Omega.{arith}
use lib.ListN.{length, get_or, set}
use lib.Seq.{get_or-set_other}
use Rattle.modbus.specs.Step.{choose}
use Rattle.modbus.specs.Bytes.{All}
use Rattle.modbus.specs.Table.{Kind, bit, word, Tab, tab?, coils, discretes, holdings, inputs, target, Fits, Tables, Range}
use Rattle.modbus.specs.Request.{Ask, Permitted, reading, writing, given}
use Rattle.modbus.specs.Storage.{put_coil, put_register, storage, store}
use Rattle.modbus.specs.Setup.{Setup, Valid, Within}
use Rattle.modbus.specs.Drive.{AllWithin, Inside}
use Rattle.modbus.proofs.StepLaws.{pick_yes, either}
use Rattle.modbus.proofs.StorageLaws.{Lawful, store_length, store_in, store_out, packed_law}
use Rattle.modbus.proofs.RegisterLaws.{registers_law}
use Rattle.tables.specs.Lent.{Lent, lent_of, table_of, tables_of}
use Rattle.driver.specs.Driven.{stored_in, bytes_after}
use Rattle.demands.specs.Demand.{Stored}
use Rattle.demands.specs.Changed.{Outside}
use Rattle.demands.proofs.CellLaws.{Run, nothing, run, run_of}

-- ---- how a table is kept

law_of : (t : Tab) → Lawful (storage t)
law_of coils = packed_law
law_of discretes = packed_law
law_of holdings = registers_law
law_of inputs = registers_law

fits_in : (k : Kind) (vs : List ℕ) → All (Fits k) vs → All (Fits (storage (target k)).kind) vs
fits_in bit vs f = f
fits_in word vs f = f

-- the cells that a byte is part of
abbrev pub Part : Tab → ℕ → ℕ → Type 0
Part coils b n = b ≡ n / 8
Part discretes b n = b ≡ n / 8
Part holdings b n = b / 2 ≡ n
Part inputs b n = b / 2 ≡ n

coil_off : (b : ℕ) (l : List ℕ) (n v : ℕ) → b ≢ n / 8 → get_or (put_coil l n v) b 0 ≡ get_or l b 0
unfolding put_coil
coil_off b l n v o = get_or-set_other l (n / 8) b _ 0 o

register_off : (b : ℕ) (l : List ℕ) (n v : ℕ) → b / 2 ≢ n → get_or (put_register l n v) b 0 ≡ get_or l b 0
unfolding put_register
register_off b l n v o =
    get_or-set_other (set l (2 * n) (v / 256)) _ b _ 0 (λ e. o (omega arith)) ∙ get_or-set_other l _ b _ 0 (λ e. o (omega arith))

put_off : (t : Tab) (b : ℕ) (l : List ℕ) (n v : ℕ) → ¬ Part t b n → get_or ((storage t).put l n v) b 0 ≡ get_or l b 0
put_off coils b l n v o = coil_off b l n v o
put_off discretes b l n v o = coil_off b l n v o
put_off holdings b l n v o = register_off b l n v o
put_off inputs b l n v o = register_off b l n v o

store_off : (t : Tab) (b : ℕ) (l : List ℕ) (s : ℕ) (vs : List ℕ) → ((n : ℕ) → s ≤ n → n < s + length vs → ¬ Part t b n)
    → get_or (store (storage t) l s vs) b 0 ≡ get_or l b 0
unfolding store
store_off t b l s [] o = refl
store_off t b l s (v ∷ vs) o =
    store_off t b ((storage t).put l s v) (suc s) vs (λ n p q. o n (omega arith) (omega arith))
    ∙ put_off t b l s v (o s (omega arith) (omega arith))

-- ---- the bytes of a table after a run

pub stored_length : (t : Tab) (rs : List Range) (vs l : List ℕ) → length (stored_in t rs vs l) ≡ length l
stored_length t [] vs l = refl
stored_length t (r ∷ rs) vs l =
    either (λ (x : List ℕ). length x ≡ length l) (tab? t r.tab) _ _ (λ e. store_length (law_of t) l r.first vs) (λ _. refl)

pub stored_free : (t : Tab) (b : ℕ) {rs : List Range} {vs : List ℕ} → Run rs vs → (l : List ℕ) → ((n : ℕ) → Part t b n → Outside rs t n)
    → get_or (stored_in t rs vs l) b 0 ≡ get_or l b 0
stored_free t b nothing l o = refl
stored_free t b (run k s vs f) l o =
    either (λ (x : List ℕ). get_or x b 0 ≡ get_or l b 0) (tab? t (target k)) _ _
    (λ e. store_off t b l s vs (λ n p q i. o n i _ (Memᴰ.head refl) (e, (p, q))))
    (λ _. refl)

-- a table that is only read keeps its bytes
pub read_only : {rs : List Range} {vs : List ℕ} → Run rs vs → (l : List ℕ) → (stored_in discretes rs vs l ≡ l) × (stored_in inputs rs vs l ≡ l)
unfolding choose
read_only nothing l = (refl, refl)
read_only (run bit s vs f) l = (refl, refl)
read_only (run word s vs f) l = (refl, refl)

-- ---- and their cells

module _ (l : Lent) where
  abbrev cells_by : List Range → List ℕ → Tables
  cells_by rs vs t = (storage t).cell (stored_in t rs vs (table_of l t))

  bytes_stored : {rs : List Range} {vs : List ℕ} → Run rs vs
      → ((r : Range) → Memᴰ r rs → (n : ℕ) → n ≤ r.first + r.count → (storage r.tab).bytes n ≤ length (table_of l r.tab))
      → Stored rs vs (tables_of l) (cells_by rs vs)
  bytes_stored nothing room = record { holds = λ r m j h. absurd (Memᴰ.not-nil m); keeps = λ tab i n. refl }
  bytes_stored (run k s vs f) room =
      record {
        holds = λ r m j h.
            let z = Memᴰ.eq_of_singleton m in
            let p : j < length vs = rw z at h in
            rw z
            (ap (λ (x : List ℕ). (storage (target k)).cell x (s + j)) (pick_yes (tab? (target k) (target k)) _ _ refl)
            ∙ store_in (law_of (target k)) _ s vs j (fits_in k vs f) p (room _ (Memᴰ.head refl) (suc (s + j)) (omega arith)));
        keeps = λ tab i n.
            either (λ (x : List ℕ). (storage tab).cell x i ≡ tables_of l tab i) (tab? tab (target k)) _ _
            (λ e.
            store_out (law_of tab) _ s vs i (subst (λ t. All (Fits (storage t).kind) vs) (sym e) (fits_in k vs f))
            (λ h. n _ (Memᴰ.head refl) (e, h)))
            (λ _. refl);
      }

-- ---- the cells that a request names are inside

module _ (s : Setup) where
  last_within : (k l : List Range) → AllWithin s (k ++ l) → AllWithin s l
  last_within [] l h = h
  last_within (r ∷ k) l h = last_within k l h.1

  each_within : (l : List Range) → AllWithin s l → (r : Range) → Memᴰ r l → Within s r
  each_within [] h r m = absurd (Memᴰ.not-nil m)
  each_within (q ∷ l) h r m = elim (Memᴰ.cases_cons m) [ inl e ↦ subst (Within s) (sym e) h.0 | inr d ↦ each_within l h.1 r d ]

  written_within : (a : Ask) → Inside s a → (r : Range) → Memᴰ r (writing a) → Within s r
  written_within a h = each_within (writing a) (last_within (reading a) (writing a) h)

  -- no request inside the tables writes a spare cell
  pub spare_free : (tab : Tab) (i : ℕ) → s.cells tab ≤ i → (a : Ask) → Inside s a → Outside (writing a) tab i
  spare_free tab i spare a h r m hit =
      let w = written_within a h r m in
      let z : s.cells tab ≡ s.cells r.tab = ap s.cells hit.0 in
      omega arith

-- ---- what a request leaves

-- the coils and the holdings have new bytes, the other tables their own
abbrev pub cells_after : Lent → Ask → Tables
cells_after l a =
    tables_of (lent_of
    (bytes_after l a coils) l.coil_cells
    l.discrete_bytes l.discrete_cells
    (bytes_after l a holdings) l.holding_cells
    l.input_bytes l.input_cells)

module _ (s : Setup) (l : Lent) (v : Valid s) (bytes : (t : Tab) → s.bytes t ≡ length (table_of l t)) where
  -- a valid setup has bytes for every cell that may be named
  room : (t : Tab) (n : ℕ) → n ≤ s.cells t → (storage t).bytes n ≤ length (table_of l t)
  room coils n h = let q = (v.held coils).1 in let e = bytes coils in omega arith
  room discretes n h = let q = (v.held discretes).1 in let e = bytes discretes in omega arith
  room holdings n h = let q = (v.held holdings).1 in let e = bytes holdings in omega arith
  room inputs n h = let q = (v.held inputs).1 in let e = bytes inputs in omega arith

  pub ask_stored : (a : Ask) → Permitted a → Inside s a → Stored (writing a) (given a (tables_of l)) (tables_of l) (cells_after l a)
  ask_stored a p q =
      let w = run_of a (tables_of l) p in
      subst (Stored (writing a) (given a (tables_of l)) (tables_of l)) (fun_ext (by w))
      (bytes_stored l w (λ r m n k. room r.tab n (omega (arith, written_within s a q r m))))
    where
      by : Run (writing a) (given a (tables_of l)) → (t : Tab) → cells_by l (writing a) (given a (tables_of l)) t ≡ cells_after l a t
      by w coils = refl
      by w discretes = ap (storage discretes).cell (read_only w l.discrete_bytes).0
      by w holdings = refl
      by w inputs = ap (storage inputs).cell (read_only w l.input_bytes).1
