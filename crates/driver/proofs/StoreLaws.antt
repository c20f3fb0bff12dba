-- The bytes of the tables after a write.
-- Assumes nothing.
use mathlib.Core.Logic.{inl, inr}
use mathlib.Core.Path.{◌≡◌, refl, sym, ap, ◌∙◌}
use mathlib.Core.List.{List, ◌∷◌}
use Prim.Native.Nat.{ℕ, ◌+◌, ◌-◌, ◌≤◌}
use native.Mathlib.Omega.{arith}
use lib.ListN.{length, take, get_or}
use Rattle.modbus.specs.Bytes.{All}
use Rattle.modbus.specs.Table.{Kind, word, Tab, holdings, target, Fits, part, Range, Hits, hits?}
use Rattle.modbus.specs.Request.{Ask, read, write, writes, masks, swaps, pdu, apply, answer}
use Rattle.modbus.specs.Storage.{registers, register_at, Sound, storage, store}
use Rattle.modbus.proofs.StepLaws.{pick_yes, pick_no}
use Rattle.modbus.proofs.StorageLaws.{store_in, store_out, part_same}
use Rattle.modbus.proofs.RegisterLaws.{registers_law}
use Rattle.modbus.proofs.RequestLaws.{Says}
use Rattle.tables.specs.Lent.{Lent, table_of, tables_of}
use Rattle.requests.proofs.FineLaws.{Stores}
use Rattle.driver.specs.Driven.{bytes_after}

module _ (l : Lent) (k : Kind) (address : ℕ) (vs : List ℕ) (a : Ask) where
  pub stored_target : Stores k address vs a → bytes_after l a (target k) ≡ store (storage (target k)) (table_of l (target k)) address vs
  stored_target (inl (v, e, f)) = rw (e, f) (pick_yes _ _ _ refl)
  stored_target (inr e) = rw e (pick_yes _ _ _ refl)

  pub stored_other : Stores k address vs a → (t : Tab) → ¬ (t ≡ target k) → bytes_after l a t ≡ table_of l t
  stored_other (inl (v, e, f)) t n = rw e (pick_no _ _ _ n)
  stored_other (inr e) t n = rw e (pick_no _ _ _ n)

-- ---- what is read after a write of registers

module _ (l : Lent) (sound : Sound registers l.holding_bytes l.holding_cells) (r n s : ℕ) (vs : List ℕ) where
  abbrev run : Range
  run = record { tab = holdings; first = s; count = length vs }

  pub found_after : All (Fits word) vs → r + n ≤ l.holding_cells → s + length vs ≤ l.holding_cells
      → part (apply (swaps r n s vs) (tables_of l) holdings) r n ≡ part (register_at (store registers l.holding_bytes s vs)) r n
  found_after f h k = part_same _ _ r n (λ i p q. by i (hits? run holdings i))
    where
      by : (i : ℕ) → Dec (Hits run holdings i)
          → apply (swaps r n s vs) (tables_of l) holdings i ≡ register_at (store registers l.holding_bytes s vs) i
      by i (yes g) =
          let e : s + (i - s) ≡ i = omega (arith, g.1.0) in
          pick_yes _ _ _ g
          ∙ sym (rw e at (store_in registers_law l.holding_bytes s vs (i - s) f (omega (arith, g.1)) (omega (arith, g.1, sound.1))))
      by i (no g) = pick_no _ _ _ g ∙ sym (store_out registers_law l.holding_bytes s vs i f (λ h. g (refl, h)))

-- ---- a write's answer is the front of its request

-- how many bytes of it
abbrev pub front : Ask → ℕ
front (read t s n) = 0
front (write k a v) = 6
front (writes k s vs) = 6
front (masks a x y) = 8
front (swaps r n s vs) = 0

abbrev Writing : Ask → Type 0
Writing (read t s n) = ⊥
Writing (write k a v) = Unit {0}
Writing (writes k s vs) = Unit {0}
Writing (masks a x y) = Unit {0}
Writing (swaps r n s vs) = ⊥

fronted : (a : Ask) (u : ℕ) (pad vs : List ℕ) → Writing a → take (front a) (u ∷ pdu a pad) ≡ u ∷ answer a vs
fronted (read t s n) u pad vs h = absurd h
fronted (write k a v) u pad vs h = refl
fronted (writes k s ws) u pad vs h = refl
fronted (masks a x y) u pad vs h = refl
fronted (swaps r n s ws) u pad vs h = absurd h

answers : (a : Ask) (b vs : List ℕ) → Writing a → Says a b → take (front a) b ≡ get_or b 0 0 ∷ answer a vs
answers a b vs h s =
    let (pad, q, e) = s.encodes in
    ap (take (front a)) (s.headed ∙ ap (λ (l : List ℕ). get_or b 0 0 ∷ l) e) ∙ fronted a (get_or b 0 0) pad vs h

pub echoes : (k : Kind) (address : ℕ) (ws : List ℕ) (a : Ask) (b vs : List ℕ) → Stores k address ws a → Says a b
    → take 6 b ≡ get_or b 0 0 ∷ answer a vs
echoes k address ws a b vs (inl (v, e, f)) s = rw e (answers (write k address v) b vs tt (rw e at s))
echoes k address ws a b vs (inr e) s = rw e (answers (writes k address ws) b vs tt (rw e at s))

pub mask_echoes : (address x y : ℕ) (b vs : List ℕ) → Says (masks address x y) b → take 8 b ≡ get_or b 0 0 ∷ answer (masks address x y) vs
mask_echoes address x y b vs s = answers (masks address x y) b vs tt s
