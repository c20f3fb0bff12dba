-- A read carried out: its cells stand behind its head, whichever table they are of; and a read of registers after a write of registers.
-- Assumes nothing.
use mathlib.Core.Logic.{by_cases}
use mathlib.Core.Path.{◌≡◌, refl, sym, ap, ◌∙◌}
use mathlib.Core.List.{List, [], ◌∷◌}
use Prim.Native.Nat.{ℕ, ◌+◌, ◌-◌, ◌*◌, ◌≤◌, ◌<◌}
use native.Mathlib.Omega.{arith}
use lib.ListN.{length, take, drop, get_or, length-take, length-drop}
use lib.Seq.{sets, length-sets}
use denote.Ref.{Bor}
use Rattle.modbus.specs.Step.{◌≟◌}
use Rattle.modbus.specs.Table.{Kind, bit, word, Tab, kind_of, part}
use Rattle.modbus.specs.Request.{tab_of, octets, shown, most_read}
use Rattle.modbus.specs.Storage.{registers, register_at, Sound}
use Rattle.modbus.proofs.StepLaws.{pick_yes, pick_no}
use Rattle.modbus.proofs.StorageLaws.{size_sound, length_part, store_length}
use Rattle.modbus.proofs.RegisterLaws.{registers_law, shown_bytes}
use Rattle.modbus.proofs.AnswerLaws.{length_shown}
use Rattle.tables.specs.Calls.{named}
use Rattle.tables.specs.Lent.{Lent, cells_of, tables_of}
use Rattle.requests.specs.declared.ReadCells.{ReadCells}
use Rattle.requests.specs.declared.Exchange.{Exchange}
use Rattle.driver.specs.Serving.{put_at, ReadReady, read_body, swapped_by, swap_body}
use Rattle.driver.proofs.ReplyLaws.{put_at_law, put_behind}

pub octets_most : (k : Kind) (n : ℕ) → n ≤ most_read k → octets k n ≤ 250
octets_most bit n h = omega arith
octets_most word n h = omega arith

part_length : (table : List ℕ) (reg count : ℕ) → 2 * reg + 2 * count ≤ length table
    → length (take (2 * count) (drop (2 * reg) table)) ≡ 2 * count
part_length table reg count h = simp (length-take, length-drop) (omega arith)

module _ (l : Lent) (b : List ℕ) (q : ReadCells) (r : ReadReady l b q) (t : Tab) (e : tab_of q.function ≡ t) where
  pub inside : q.address + q.count ≤ cells_of l t
  inside = rw e at r.inside

  pub most : q.count ≤ most_read (kind_of t)
  most = rw e at r.most

  pub brief : octets (kind_of t) q.count ≤ 250
  brief = octets_most (kind_of t) q.count most

  module _ (reply : List ℕ) (start : ℕ) where
    pub head_room : (h : List ℕ) → start + 253 ≤ length reply
        → h ≡ sets reply start (get_or b 0 0 ∷ get_or b 1 0 ∷ octets (kind_of t) q.count ∷ [])
        → (start + 3) + octets (kind_of t) q.count ≤ length h
    head_room h room f = rw f (simp length-sets (omega (arith, brief)))

    -- the cells behind the head
    pub cells_read : (n : ℕ) (h o : List ℕ) → n ≡ octets (kind_of t) q.count + 3
        → h ≡ sets reply start (get_or b 0 0 ∷ get_or b 1 0 ∷ octets (kind_of t) q.count ∷ [])
        → o ≡ sets h (start + 3) (shown (kind_of t) (part (tables_of l t) q.address q.count))
        → ◌≡◌ {A = ℕ × List ℕ} (n, o) (put_at start reply (read_body l (tab_of q.function) b q.address q.count))
    cells_read n h o f g k =
        let vs = part (tables_of l t) q.address q.count in
        let m : length (shown (kind_of t) vs) ≡ octets (kind_of t) q.count =
        length_shown (kind_of t) vs ∙ ap (octets (kind_of t)) (length_part (tables_of l t) q.address q.count) in
        rw e (put_at_law start reply (read_body l t b q.address q.count) n o (omega arith)
        (put_behind reply start _ _ _ (shown (kind_of t) vs) h o g k))

    -- what the reply to a read of registers needs
    pub words_ready : (table p : List ℕ) → kind_of t ≡ word → 2 * q.address + 2 * q.count ≤ length table
        → p ≡ take (2 * q.count) (drop (2 * q.address) table) → start + 253 ≤ length reply
        → (2 ≤ length b) × (q.count ≤ 125) × (length p ≡ 2 * q.count) × (start + 253 ≤ length reply)
    words_ready table p f h g room = (r.whole, rw f at most, ap length g ∙ part_length table q.address q.count h, room)

    -- registers as they stand in their table
    pub words_read : (table : List ℕ) → kind_of t ≡ word → tables_of l t ≡ register_at table → ((i : ℕ) → get_or table i 0 < 256)
        → 2 * q.address + 2 * q.count ≤ length table → (p : List ℕ) → p ≡ take (2 * q.count) (drop (2 * q.address) table)
        → (x : ℕ × List ℕ) → x ≡ put_at start reply (get_or b 0 0 ∷ get_or b 1 0 ∷ (2 * q.count) ∷ p)
        → x ≡ put_at start reply (read_body l (tab_of q.function) b q.address q.count)
    words_read table f g y room p z x w =
        let d = shown_bytes table q.address q.count room y in
        w ∙ rw (e, f, g, d, z)

-- the part that a register read names
module _ (h : Bor (List ℕ)) (hn : ℕ) (i : Bor (List ℕ)) (in' reg count : ℕ) (x : List ℕ) (p : ℕ × ℕ) where
  pub named_holdings : ◌≡◌ {A = List ℕ × (ℕ × ℕ)} (x, p) (named h hn i in' 3 reg count) → Sound registers h.now hn → reg + count ≤ hn
      → x ≡ take (2 * count) (drop (2 * reg) h.now)
  unfolding named
  named_holdings e s k =
      ap (λ (y : List ℕ × (ℕ × ℕ)). y.0) (e ∙ pick_yes _ _ _ refl ∙ pick_yes _ _ _ (rw (size_sound registers h.now hn s) k))

  pub named_inputs : ◌≡◌ {A = List ℕ × (ℕ × ℕ)} (x, p) (named h hn i in' 4 reg count) → Sound registers i.now in' → reg + count ≤ in'
      → x ≡ take (2 * count) (drop (2 * reg) i.now)
  unfolding named
  named_inputs e s k =
      ap (λ (y : List ℕ × (ℕ × ℕ)). y.0)
      (e ∙ pick_no _ _ _ (λ z. omega arith) ∙ pick_yes _ _ _ refl ∙ pick_yes _ _ _ (rw (size_sound registers i.now in' s) k))

-- what is left of the four
pub registers_left : {C : Type 0} (n : ℕ) → 1 ≤ n → n ≤ 4 → ¬ (n ≡ 1) → ¬ (n ≡ 2) → (n ≡ 3 → C) → (n ≡ 4 → C) → C
registers_left n h k a b f g = by_cases (n ≟ 3) f (λ c. g (omega arith))

-- the registers as a write left them, behind the head
pub swap_read : (b l m reply : List ℕ) (start cells : ℕ) (x : Exchange) → Sound registers l cells → x.read_address + x.read_count ≤ cells
    → m ≡ swapped_by x b l → ((i : ℕ) → get_or m i 0 < 256) → (p : ℕ × List ℕ)
    → p ≡ put_at start reply (get_or b 0 0 ∷ get_or b 1 0 ∷ (2 * x.read_count)
    ∷ take ((2 * x.read_address + 2 * x.read_count) - 2 * x.read_address) (drop (2 * x.read_address) m))
    → p ≡ put_at start reply (swap_body x b l)
swap_read b l m reply start cells x s h e y p f =
    let (r, n) : ℕ × ℕ = (x.read_address, x.read_count) in
    let z : (2 * r + 2 * n) - 2 * r ≡ 2 * n = omega arith in
    let k : length m ≡ length l = ap length e ∙ store_length registers_law l _ _ in
    f
    ∙ ap (λ (d : List ℕ). put_at start reply (get_or b 0 0 ∷ get_or b 1 0 ∷ (2 * n) ∷ d))
    (ap (λ (i : ℕ). take i (drop (2 * r) m)) z
    ∙ sym (shown_bytes m r n (omega (arith, s.1)) y)
    ∙ ap (λ (t : List ℕ). shown word (part (register_at t) r n)) e)
