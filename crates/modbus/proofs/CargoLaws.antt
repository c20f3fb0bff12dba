-- Values into data bytes and back, both kinds: the data bytes of values hold those values, whatever the pad bits, and data bytes are
-- those of the values that they hold.
-- Assumes nothing.
use mathlib.Core.Path.{◌≡◌, refl, ap, ap₂, ◌∙◌}
use mathlib.Core.List.{List, [], ◌∷◌, ◌++◌}
use Prim.Native.Nat.{ℕ, zero, suc, ◌+◌, ◌-◌, ◌*◌, ◌/◌, ◌%◌, ◌^◌, ◌≤◌, ◌<◌}
use native.Mathlib.Omega.{arith}
use native.Mathlib.Nat.{div-add-mod', add-zero, zero-add, add-suc, suc-add, zero-div}
use lib.ListN.{length, get_or, length-append, get_or-append}
use lib.Seq.{ext_get_or}
use lib.Arith.{digits_div, digits_mod}
use Rattle.modbus.specs.Bytes.{All, Bytes, twos, pack}
use Rattle.modbus.specs.Table.{Kind, bit, word, Fits, part}
use Rattle.modbus.specs.Request.{cargo, octets, Fills}
use Rattle.modbus.specs.Storage.{coil_at, register_at, datum, values}
use Rattle.modbus.proofs.StorageLaws.{length_part, get_d_part, part_all}
use Rattle.modbus.proofs.BytesLaws.{all_append, word_at_law}
use Rattle.modbus.proofs.Views.{Eights, none, eight, eights?}

-- ---- cells in a row

part_append : (f : ℕ → ℕ) (s n m : ℕ) → part f s n ++ part f (s + n) m ≡ part f s (n + m)
unfolding part
part_append f s zero m = rw (add-zero, zero-add)
part_append f s (suc n) m = rw (suc-add, add-suc) (ap (λ l. f s ∷ l) (rw suc-add at (part_append f (suc s) n m)))

-- cells from k on that are those of another list of cells from its start
part_shift : (f g : ℕ → ℕ) (k : ℕ) → ((i : ℕ) → f (k + i) ≡ g i) → (s n : ℕ) → part f (k + s) n ≡ part g s n
unfolding part
part_shift f g k h s zero = refl
part_shift f g k h s (suc n) = ap₂ ◌∷◌ (h s) (rw add-suc at (part_shift f g k h (suc s) n))

-- ---- registers

length_twos : (vs : List ℕ) → length (twos vs) ≡ 2 * length vs
unfolding twos
length_twos [] = refl
length_twos (v ∷ vs) = let i = length_twos vs in omega arith

register_next : (a b : ℕ) (l : List ℕ) (i : ℕ) → register_at (a ∷ b ∷ l) (1 + i) ≡ register_at l i
unfolding register_at
register_next a b l i = let e : 2 * (1 + i) ≡ suc (suc (2 * i)) = omega arith in rw e

register_twos : (vs : List ℕ) (i : ℕ) → register_at (twos vs) i ≡ get_or vs i 0
unfolding register_at twos
register_twos [] i = refl
register_twos (v ∷ vs) zero = div-add-mod' v 256
register_twos (v ∷ vs) (suc i) = let e : 2 * suc i ≡ suc (suc (2 * i)) = omega arith in rw e (register_twos vs i)

twos_back : (d : List ℕ) (n : ℕ) → Bytes d → length d ≡ 2 * n → twos (part (register_at d) 0 n) ≡ d
unfolding twos part register_at
twos_back [] zero y e = refl
twos_back [] (suc n) y e = absurd (omega arith)
twos_back (a ∷ d) zero y e = absurd (omega arith)
twos_back (a ∷ []) (suc n) y e = absurd (omega arith)
twos_back (a ∷ b ∷ d) (suc n) y e =
    let h : b < 256 = y.1.0 in
    let i : twos (part (register_at (a ∷ b ∷ d)) 1 n) ≡ d =
    ap twos (part_shift (register_at (a ∷ b ∷ d)) (register_at d) 1 (register_next a b d) 0 n) ∙ twos_back d n y.1.1 (omega arith) in
    ap₂ ◌∷◌ (digits_div a h) (ap₂ ◌∷◌ (digits_mod a h) i)

register_lt : (d : List ℕ) (i : ℕ) → Bytes d → register_at d i < 65536
unfolding register_at
register_lt d i y = word_at_law d (2 * i) y

bytes_twos : (vs : List ℕ) → All (Fits word) vs → Bytes (twos vs)
unfolding twos
bytes_twos [] p = tt
bytes_twos (v ∷ vs) p = (omega (arith, p.0), (omega arith, bytes_twos vs p.1))

-- ---- coils

coil_le : (d : List ℕ) (i : ℕ) → coil_at d i ≤ 1
unfolding coil_at
coil_le d i = omega arith

coil_next : (x : ℕ) (d : List ℕ) (i : ℕ) → coil_at (x ∷ d) (8 + i) ≡ coil_at d i
unfolding coil_at
coil_next x d i =
    let q : (8 + i) / 8 ≡ suc (i / 8) = omega arith in
    let r : (8 + i) % 8 ≡ i % 8 = omega arith in
    rw (q, r)

coil_none : (i : ℕ) → coil_at [] i ≡ 0
unfolding coil_at
coil_none i = ap (λ q. q % 2) (zero-div (2 ^ (i % 8)))

-- the coils of a byte that was packed from eight bits, and those of the bytes after it
module _ (a b c d e f g h : ℕ) (r : List ℕ) (bits : All (Fits bit) (a ∷ b ∷ c ∷ d ∷ e ∷ f ∷ g ∷ h ∷ r)) where
  coil_octet : ((i : ℕ) → coil_at (pack r) i ≡ get_or r i 0) → (i : ℕ)
      → coil_at (pack (a ∷ b ∷ c ∷ d ∷ e ∷ f ∷ g ∷ h ∷ r)) i ≡ get_or (a ∷ b ∷ c ∷ d ∷ e ∷ f ∷ g ∷ h ∷ r) i 0
  unfolding coil_at pack
  coil_octet rest zero = omega arith
  coil_octet rest (suc zero) = omega arith
  coil_octet rest (suc (suc zero)) = omega arith
  coil_octet rest (suc (suc (suc zero))) = omega arith
  coil_octet rest (suc (suc (suc (suc zero)))) = omega arith
  coil_octet rest (suc (suc (suc (suc (suc zero))))) = omega arith
  coil_octet rest (suc (suc (suc (suc (suc (suc zero)))))) = omega arith
  coil_octet rest (suc (suc (suc (suc (suc (suc (suc zero))))))) = omega arith
  coil_octet rest (suc (suc (suc (suc (suc (suc (suc (suc i)))))))) =
      let n : suc (suc (suc (suc (suc (suc (suc (suc i))))))) ≡ 8 + i = omega arith in
      ap (coil_at (pack (a ∷ b ∷ c ∷ d ∷ e ∷ f ∷ g ∷ h ∷ r))) n ∙ coil_next _ (pack r) i ∙ rest i

coil_pack : {l : List ℕ} → Eights l → All (Fits bit) l → (i : ℕ) → coil_at (pack l) i ≡ get_or l i 0
unfolding pack
coil_pack none p i = coil_none i
coil_pack (eight a b c d e f g h {r} v) p i = coil_octet a b c d e f g h r p (coil_pack v p.1.1.1.1.1.1.1.1) i

length_pack : {l : List ℕ} → Eights l → 8 * length (pack l) ≡ length l
unfolding pack
length_pack none = refl
length_pack (eight a b c d e f g h v) = let i = length_pack v in omega arith

pub length_packed : (l : List ℕ) (n : ℕ) → length l ≡ 8 * n → length (pack l) ≡ n
length_packed l n e = omega (arith, length_pack (eights? l n e))

bytes_pack : {l : List ℕ} → Eights l → All (Fits bit) l → Bytes (pack l)
unfolding pack
bytes_pack none p = tt
bytes_pack (eight a b c d e f g h v) p = (omega arith, bytes_pack v p.1.1.1.1.1.1.1.1)

-- the bits of a byte make up the byte
bits_of : (x : ℕ) → x < 256
    → x / 1 % 2
    + 2 * (x / 2 % 2 + 2 * (x / 4 % 2 + 2 * (x / 8 % 2 + 2 * (x / 16 % 2 + 2 * (x / 32 % 2 + 2 * (x / 64 % 2 + 2 * (x / 128 % 2)))))))
    ≡ x
bits_of x h =
    let b₇ : x / 128 % 2 ≡ x / 128 = omega arith in
    let b₆ : x / 64 % 2 + 2 * (x / 128) ≡ x / 64 = omega arith in
    let b₅ : x / 32 % 2 + 2 * (x / 64) ≡ x / 32 = omega arith in
    let b₄ : x / 16 % 2 + 2 * (x / 32) ≡ x / 16 = omega arith in
    let b₃ : x / 8 % 2 + 2 * (x / 16) ≡ x / 8 = omega arith in
    let b₂ : x / 4 % 2 + 2 * (x / 8) ≡ x / 4 = omega arith in
    let b₁ : x / 2 % 2 + 2 * (x / 4) ≡ x / 2 = omega arith in
    let b₀ : x / 1 % 2 + 2 * (x / 2) ≡ x = omega arith in
    rw (b₇, b₆, b₅, b₄, b₃, b₂, b₁, b₀)

pack_back : (d : List ℕ) → Bytes d → pack (part (coil_at d) 0 (8 * length d)) ≡ d
unfolding pack part coil_at
pack_back [] y = refl
pack_back (x ∷ d) y =
    let e : 8 * suc (length d) ≡ suc (suc (suc (suc (suc (suc (suc (suc (8 * length d)))))))) = omega arith in
    rw e
    (ap₂ ◌∷◌ (bits_of x y.0)
    (ap pack (part_shift (coil_at (x ∷ d)) (coil_at d) 8 (coil_next x d) 0 (8 * length d)) ∙ pack_back d y.1))

-- ---- both kinds

-- data bytes hold n values, and are the encoding of these
pub record Holds (k : Kind) (n : ℕ) (d : List ℕ) : Type 0 where
  pub counted : length (values k n d) ≡ n
  pub fits : All (Fits k) (values k n d)
  pub pad : List ℕ
  pub fills : Fills k (values k n d) pad
  pub back : cargo k (values k n d) pad ≡ d

pub values_of : (k : Kind) (n : ℕ) (d : List ℕ) → Bytes d → length d ≡ octets k n → Holds k n d
values_of bit n d y e =
    let c = length_part (coil_at d) 0 n in
    record {
      counted = c;
      fits = part_all (coil_at d) (Fits bit) 0 n (coil_le d);
      pad = part (coil_at d) (0 + n) (8 * length d - n);
      fills = (part_all (coil_at d) (Fits bit) (0 + n) _ (coil_le d), simp (c, length_part) (omega arith));
      back =
          let z : n + (8 * length d - n) ≡ 8 * length d = omega arith in
          ap pack (part_append (coil_at d) 0 n (8 * length d - n) ∙ ap (part (coil_at d) 0) z) ∙ pack_back d y;
    }
values_of word n d y e =
    record {
      counted = length_part (register_at d) 0 n;
      fits = part_all (register_at d) (Fits word) 0 n (λ i. register_lt d i y);
      pad = [];
      fills = refl;
      back = twos_back d n y e;
    }

filled : (vs pad : List ℕ) → Fills bit vs pad → Eights (vs ++ pad)
filled vs pad f = eights? (vs ++ pad) (octets bit (length vs)) (length-append vs pad ∙ f.1)

cell_cargo : (k : Kind) (vs pad : List ℕ) → All (Fits k) vs → Fills k vs pad → (i : ℕ) → i < length vs
    → datum k (cargo k vs pad) i ≡ get_or vs i 0
cell_cargo bit vs pad p f i h =
    coil_pack (filled vs pad f) (all_append (Fits bit) vs pad p f.0) i ∙ get_or-append vs pad 0 i h
cell_cargo word vs pad p f i h = register_twos vs i

-- and values are read back from their encoding, whatever the pad bits
pub values_back : (k : Kind) (vs pad : List ℕ) → All (Fits k) vs → Fills k vs pad → values k (length vs) (cargo k vs pad) ≡ vs
values_back k vs pad p f =
    let n = length_part (datum k (cargo k vs pad)) 0 (length vs) in
    ext_get_or 0 _ vs n
    (λ i h.
    let l : i < length vs = omega arith in
    get_d_part (datum k (cargo k vs pad)) 0 (length vs) i 0 l ∙ rw zero-add (cell_cargo k vs pad p f i l))

pub length_cargo : (k : Kind) (vs pad : List ℕ) → Fills k vs pad → length (cargo k vs pad) ≡ octets k (length vs)
length_cargo bit vs pad f = omega (arith, length_pack (filled vs pad f), length-append vs pad, f.1)
length_cargo word vs pad f = length_twos vs

pub bytes_cargo : (k : Kind) (vs pad : List ℕ) → All (Fits k) vs → Fills k vs pad → Bytes (cargo k vs pad)
bytes_cargo bit vs pad p f = bytes_pack (filled vs pad f) (all_append (Fits bit) vs pad p f.0)
bytes_cargo word vs pad p f = bytes_twos vs p
