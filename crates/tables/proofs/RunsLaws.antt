-- Runs of packed cells of any length: whole bytes, what is left of them, and the bytes of a reply.
-- Assumes nothing.
use mathlib.Core.Path.{◌≡◌, refl, sym, ap, ◌∙◌}
use mathlib.Core.List.{List, [], ◌∷◌, ◌++◌, append-nil, append_assoc}
use Prim.Native.Nat.{ℕ, zero, suc, ◌+◌, ◌-◌, ◌*◌, ◌/◌, ◌%◌, ◌≤◌, ◌<◌}
use native.Mathlib.Omega.{arith}
use native.Mathlib.Nat.{zero-add, add_assoc}
use lib.ListN.{length, get_or, set, replicate, length-set, length-append, length-replicate}
use lib.Seq.{ext_get_or, sets}
use Rattle.modbus.specs.Bytes.{Bytes, pack}
use Rattle.modbus.specs.Table.{bit, part}
use Rattle.modbus.specs.Request.{shown}
use Rattle.modbus.specs.Storage.{packed, store}
use Rattle.modbus.proofs.BytesLaws.{bytes_set, sets_append}
use Rattle.modbus.proofs.CargoLaws.{length_packed}
use Rattle.modbus.proofs.StorageLaws.{length_part, get_d_part, part_add, part_all, store_append}
use Rattle.tables.specs.Runs.{binary}
use Rattle.tables.proofs.EightLaws.{Bits, binary_lt, binary_bit, store_byte}

-- ---- whole bytes

store_none : (l : List ℕ) (s : ℕ) → store packed l s [] ≡ l
unfolding store
store_none l s = refl

pack_none : pack [] ≡ []
unfolding pack
pack_none = refl

module _ (f : ℕ → ℕ) where
  pack_eight : (s : ℕ) (r : List ℕ) → pack (part f s 8 ++ r) ≡ binary (part f s 8) ∷ pack r
  unfolding pack part binary
  pack_eight s r = ap (λ (x : ℕ). x ∷ pack r) (omega arith)

  eights : (s n : ℕ) → part f s (8 * suc n) ≡ part f s 8 ++ part f (s + 8) (8 * n)
  eights s n = let e : 8 * suc n ≡ 8 + 8 * n = omega arith in rw e (part_add f s 8 (8 * n))

  pack_eights : (s n : ℕ) → pack (part f s (8 * suc n)) ≡ binary (part f s 8) ∷ pack (part f (s + 8) (8 * n))
  pack_eights s n = ap pack (eights s n) ∙ pack_eight s (part f (s + 8) (8 * n))

  none : (s : ℕ) → part f s (8 * 0) ≡ []
  unfolding part
  none s = refl

  pack_append : (s n : ℕ) (r : List ℕ) → pack (part f s (8 * n) ++ r) ≡ pack (part f s (8 * n)) ++ pack r
  pack_append s zero r = rw (none s, pack_none)
  pack_append s (suc n) r =
      rw (pack_eights s n, eights s n, append_assoc, pack_eight s (part f (s + 8) (8 * n) ++ r), pack_append (s + 8) n r)

  -- one byte of n, of which i are done
  pub pack_step : (l : List ℕ) (at s n i x : ℕ) (z : List ℕ) → sets l (at + i) (pack (part f (s + 8 * i) (8 * (n - i)))) ≡ z
      → x ≡ binary (part f (s + 8 * i) 8) → i < n
      → sets (set l (at + i) x) (at + (i + 1)) (pack (part f (s + 8 * (i + 1)) (8 * (n - (i + 1))))) ≡ z
  pack_step l at s n i x z inv e h =
      let k : n - i ≡ suc (n - (i + 1)) = omega arith in
      let p : at + (i + 1) ≡ suc (at + i) = omega arith in
      let q : s + 8 * (i + 1) ≡ s + 8 * i + 8 = omega arith in
      rw (e, p, q) (rw (k, pack_eights (s + 8 * i) (n - (i + 1))) at inv)

  pub pack_done : (l : List ℕ) (at s n i : ℕ) (z : List ℕ) → sets l (at + i) (pack (part f (s + 8 * i) (8 * (n - i)))) ≡ z → n ≤ i → l ≡ z
  pack_done l at s n i z inv h = let k : n - i ≡ 0 = omega arith in rw (k, none, pack_none) at inv

  module _ (bits : (i : ℕ) → f i ≤ 1) where
    eight_bits : (s : ℕ) → Bits (part f s 8)
    eight_bits s = part_all f (λ v. v ≤ 1) s 8 bits

    -- eight cells that fill a byte
    store_eight : (l : List ℕ) (j s : ℕ) → Bytes l → j < length l → set l j (binary (part f s 8)) ≡ store packed l (8 * j) (part f s 8)
    store_eight l j s y h =
        let q : 8 * j / 8 ≡ j = omega arith in
        let r : 8 * j % 8 ≡ 0 = omega arith in
        let n = length_part f s 8 in
        rw q at (store_byte l (8 * j) (part f s 8) (binary (part f s 8)) y (rw n at (binary_lt (part f s 8) (eight_bits s))) (eight_bits s)
        (rw q h) (omega arith)
        (λ i g. rw (r, zero-add) (binary_bit (part f s 8) (eight_bits s) i g))
        (λ k g o. absurd (o (omega arith, omega arith))))

    -- whole bytes are set at once
    store_whole : (l : List ℕ) (j s n : ℕ) → Bytes l → j + n ≤ length l
        → sets l j (pack (part f s (8 * n))) ≡ store packed l (8 * j) (part f s (8 * n))
    store_whole l j s zero y h = rw (none s, pack_none) (sym (store_none l (8 * j)))
    store_whole l j s (suc n) y h =
        let x = binary (part f s 8) in
        let e : 8 * j + 8 ≡ 8 * suc j = omega arith in
        let b : x < 256 = rw length_part at (binary_lt (part f s 8) (eight_bits s)) in
        rw (
          pack_eights s n,
          eights s n,
          store_append packed l (8 * j) (part f s 8) (part f (s + 8) (8 * n)),
          ← store_eight l j s y (omega arith),
          length_part,
          e,
        ) (store_whole (set l j x) (suc j) (s + 8) n (bytes_set l j x y b) (rw length-set (omega arith)))

-- ---- the bytes of a reply

binary_pad : (vs : List ℕ) (n : ℕ) → binary (vs ++ replicate n 0) ≡ binary vs
unfolding binary
binary_pad [] zero = refl
binary_pad [] (suc n) = let e = binary_pad [] n in omega arith
binary_pad (v ∷ vs) n = ap (λ (x : ℕ). v + 2 * x) (binary_pad vs n)

-- eight bits in a list are a byte
pack_list : (vs : List ℕ) → length vs ≡ 8 → pack vs ≡ binary vs ∷ []
pack_list vs h =
    let f : ℕ → ℕ = λ i. get_or vs i 0 in
    let at : (i : ℕ) → i < length (part f 0 8) → get_or (part f 0 8) i 0 ≡ get_or vs i 0 =
    λ i g. get_d_part f 0 8 i 0 (rw length_part at g) ∙ ap f (zero-add i) in
    let e : part f 0 8 ≡ vs = ext_get_or 0 (part f 0 8) vs (length_part f 0 8 ∙ sym h) at in
    rw (append-nil, pack_none, e) at (pack_eight f 0 [])

module _ (f : ℕ → ℕ) (s : ℕ) where
  shown_whole : (n : ℕ) → shown bit (part f s (8 * n)) ≡ pack (part f s (8 * n))
  shown_whole n = let k : 8 * ((8 * n + 7) / 8) - 8 * n ≡ 0 = omega arith in rw (length_part, k, append-nil)

  -- the last byte where t cells are left
  shown_rest : (n t : ℕ) → 0 < t → t < 8
      → shown bit (part f s (8 * n + t)) ≡ pack (part f s (8 * n)) ++ (binary (part f (s + 8 * n) t) ∷ [])
  shown_rest n t h k =
      let e : 8 * ((8 * n + t + 7) / 8) - (8 * n + t) ≡ 8 - t = omega arith in
      let vs = part f (s + 8 * n) t in
      let l : length (vs ++ replicate (8 - t) 0) ≡ 8 = rw (length-append, length_part, length-replicate) (omega arith) in
      rw (
        length_part f s (8 * n + t),
        e,
        part_add f s (8 * n) t,
        append_assoc,
        pack_append f s n (vs ++ replicate (8 - t) 0),
        pack_list (vs ++ replicate (8 - t) 0) l,
        binary_pad,
      )

  -- one cell alone
  pub show_one : (l : List ℕ) (at n x : ℕ) → n ≡ 1 → x ≡ binary (part f s 1) → set l at x ≡ sets l at (shown bit (part f s n))
  unfolding pack part binary
  show_one l at n x e q = let k : x ≡ f s + 2 * 0 = q in rw e (ap (set l at) (omega arith))

  module _ (l m : List ℕ) (at n : ℕ) (whole : m ≡ sets l at (pack (part f s (8 * (n / 8))))) where
    pub show_whole : n % 8 ≤ 0 → m ≡ sets l at (shown bit (part f s n))
    show_whole h =
        let e : 8 * (n / 8) ≡ n = omega arith in
        whole ∙ ap (sets l at) (sym (shown_whole (n / 8)) ∙ ap (λ (k : ℕ). shown bit (part f s k)) e)

    pub show_rest : (x : ℕ) → 0 < n % 8 → x ≡ binary (part f (s + 8 * (n / 8)) (n % 8))
        → set m (at + n / 8) x ≡ sets l at (shown bit (part f s n))
    show_rest x h e =
        let k : 8 * (n / 8) + n % 8 ≡ n = omega arith in
        let vs = part f s (8 * (n / 8)) in
        let c : length (pack vs) ≡ n / 8 = length_packed vs (n / 8) (length_part f s (8 * (n / 8))) in
        let r : shown bit (part f s n) ≡ pack vs ++ (x ∷ []) =
        ap (λ (j : ℕ). shown bit (part f s j)) (sym k) ∙ shown_rest (n / 8) (n % 8) h (omega arith)
        ∙ ap (λ (j : ℕ). pack vs ++ (j ∷ [])) (sym e) in
        rw whole (sym (ap (sets l at) r ∙ sets_append (pack vs) (x ∷ []) l at _ refl
        ∙ ap (λ (j : ℕ). set (sets l at (pack vs)) (at + j) x) c))

-- ---- a run of any length: to the end of a byte, whole bytes, and what is left

module _ (f : ℕ → ℕ) (bits : (i : ℕ) → f i ≤ 1) where
  store_middle : (l : List ℕ) (s k n : ℕ) → Bytes l → s / 8 + n ≤ length l → (0 < n → s % 8 ≡ 0)
      → sets l (s / 8) (pack (part f k (8 * n))) ≡ store packed l s (part f k (8 * n))
  store_middle l s k zero y h even = rw (none f k, pack_none) (sym (store_none l s))
  store_middle l s k (suc n) y h even =
      let z = even (omega arith) in
      let e : 8 * (s / 8) ≡ s = omega arith in
      rw e at (store_whole f bits l (s / 8) k (suc n) y h)

  split_three : (h k n : ℕ) → h + k ≤ n → part f 0 n ≡ part f 0 h ++ (part f h k ++ part f (h + k) (n - (h + k)))
  split_three h k n l =
      let e : n ≡ h + (k + (n - (h + k))) = omega arith in
      ap (part f 0) e ∙ part_add f 0 h (k + (n - (h + k))) ∙ rw (zero-add, part_add f h k (n - (h + k)))

  -- from l by way of a and b to d
  pub store_three : (l a b d : List ℕ) (s head whole n : ℕ) → Bytes a → (s + head) / 8 + whole ≤ length a
      → (0 < whole → (s + head) % 8 ≡ 0) → head + 8 * whole ≤ n → a ≡ store packed l s (part f 0 head)
      → b ≡ sets a ((s + head) / 8) (pack (part f head (8 * whole)))
      → d ≡ store packed b (s + (head + 8 * whole)) (part f (head + 8 * whole) (n - (head + 8 * whole)))
      → d ≡ store packed l s (part f 0 n)
  store_three l a b d s head whole n y room even h p q r =
      let m = store_middle a (s + head) head whole y room even in
      r ∙ rw (split_three head (8 * whole) n h, store_append, length_part, ← p, store_append, length_part, ← m, ← q, add_assoc)
