-- A body of the right length and values is the unit and the encoding of what it asks, and that is permitted; and every permitted request is
-- read back from its encoding.
-- Assumes nothing.
use mathlib.Core.Logic.{◌⊎◌, inl, inr}
use mathlib.Core.Path.{◌≡◌, refl}
use mathlib.Core.List.{List, [], ◌∷◌, ◌++◌}
use Prim.Native.Nat.{ℕ, zero, suc, ◌+◌, ◌*◌, ◌/◌, ◌%◌, ◌≤◌, ◌<◌}
use native.Mathlib.Omega.{arith}
use native.Mathlib.Nat.{div-add-mod'}
use lib.ListN.{length, drop, get_or}
use lib.Arith.{digits_div, digits_mod}
use Rattle.modbus.specs.Bytes.{Bytes, two, word_at}
use Rattle.modbus.specs.Table.{Kind, bit, word}
use Rattle.modbus.specs.Request.{Fn, reads, one, many, mask, both, code, Ask, read, write, writes, masks, swaps, fn_of, Permitted, Pads, pdu, Encodes}
use Rattle.modbus.specs.Decode.{Lengthy, Valued, asked}
use Rattle.modbus.proofs.BytesLaws.{word_at_law}
use Rattle.modbus.proofs.Views.{headed, Hexad, hexad, hexad?, Seven, seven, seven?, Octad, octad, octad?, Eleven, eleven, eleven?}
use Rattle.modbus.proofs.CargoLaws.{values_of, values_back, length_cargo}

-- ---- from the bytes

-- the body is the unit and an encoding of a permitted request
pub record Says (a : Ask) (b : List ℕ) : Type 0 where
  pub permitted : Permitted a
  pub encodes : Encodes a (drop 1 b)
  pub headed : b ≡ get_or b 0 0 ∷ drop 1 b

six_bytes : (c : ℕ) (b : List ℕ) → Hexad b → Bytes b → get_or b 1 0 ≡ c → drop 1 b ≡ c ∷ two (word_at b 2) ++ two (word_at b 4)
six_bytes c _ (hexad u n p q x z) y e =
    let (h, k) : (q < 256) × (z < 256) = (y.1.1.1.0, y.1.1.1.1.1.0) in
    simp (digits_div, digits_mod, e)

coil : (w : ℕ) → (w ≡ 0) ⊎ (w ≡ 0xFF00) → (w / 0xFF00 ≤ 1) × (0xFF00 * (w / 0xFF00) ≡ w)
coil w (inl e) = omega arith
coil w (inr e) = omega arith

many_says : (k : Kind) (b : List ℕ) → Seven b → Bytes b → get_or b 1 0 ≡ code (many k) → length b ≡ 7 + get_or b 6 0 → Valued (many k) b
    → Says (asked (many k) b) b
many_says k _ (seven u n p q x z c d) y e l v =
    let (h, j) : (q < 256) × (z < 256) = (y.1.1.1.0, y.1.1.1.1.1.0) in
    let r = values_of k (x * 256 + z) d y.1.1.1.1.1.1.1 (omega arith) in
    record {
      permitted = (rw r.counted v.0, rw r.counted v.1.0, r.fits);
      encodes = (r.pad, r.fills, simp (r.counted, r.back, digits_div, digits_mod, e, ← v.1.1));
      headed = refl;
    }

eight_bytes : (c : ℕ) (b : List ℕ) → Octad b → Bytes b → get_or b 1 0 ≡ c
    → drop 1 b ≡ c ∷ two (word_at b 2) ++ two (word_at b 4) ++ two (word_at b 6)
eight_bytes c _ (octad u n p q x z v w) y e =
    let (h, k, m) : (q < 256) × (z < 256) × (w < 256) = (y.1.1.1.0, y.1.1.1.1.1.0, y.1.1.1.1.1.1.1.0) in
    simp (digits_div, digits_mod, e)

both_says : (b : List ℕ) → Eleven b → Bytes b → get_or b 1 0 ≡ code both → length b ≡ 11 + get_or b 10 0 → Valued both b → Says (asked both b) b
both_says _ (eleven u n p q x z p' q' x' z' c d) y e l v =
    let (h, j) : (q < 256) × (z < 256) = (y.1.1.1.0, y.1.1.1.1.1.0) in
    let (h', j') : (q' < 256) × (z' < 256) = (y.1.1.1.1.1.1.1.0, y.1.1.1.1.1.1.1.1.1.0) in
    let r = values_of word (x' * 256 + z') d y.1.1.1.1.1.1.1.1.1.1.1 (omega arith) in
    record {
      permitted = (v.0.0, v.0.1, rw r.counted v.1.0, rw r.counted v.1.1.0, r.fits);
      encodes = ([], refl, simp (r.counted, r.back, digits_div, digits_mod, e, ← v.1.1.1));
      headed = refl;
    }

pub asked_says : (fn : Fn) (b : List ℕ) → Bytes b → get_or b 1 0 ≡ code fn → Lengthy fn b → Valued fn b → Says (asked fn b) b
asked_says (reads t) b y e l v =
    record { permitted = v; encodes = ([], refl, six_bytes _ b (hexad? b l) y e); headed = headed b (omega arith) }
asked_says (one bit) b y e l v =
    let c = coil (word_at b 4) v in
    record { permitted = c.0; encodes = ([], refl, rw c.1 (six_bytes _ b (hexad? b l) y e)); headed = headed b (omega arith) }
asked_says (one word) b y e l v =
    record { permitted = word_at_law b 4 y; encodes = ([], refl, six_bytes _ b (hexad? b l) y e); headed = headed b (omega arith) }
asked_says (many k) b y e l v = many_says k b (seven? b l.0) y e l.1 v
asked_says mask b y e l v =
    record { permitted = (word_at_law b 4 y, word_at_law b 6 y); encodes = ([], refl, eight_bytes _ b (octad? b l) y e); headed = headed b (omega arith) }
asked_says both b y e l v = both_says b (eleven? b l.0) y e l.1 v

-- ---- and back

-- the body is read as this request
pub record Heard (a : Ask) (b : List ℕ) : Type 0 where
  pub number : get_or b 1 0 ≡ code (fn_of a)
  pub lengthy : Lengthy (fn_of a) b
  pub valued : Valued (fn_of a) b
  pub asks : asked (fn_of a) b ≡ a

word_two : (n : ℕ) → n / 256 * 256 + n % 256 ≡ n
word_two n = div-add-mod' n 256

coil_back : (v : ℕ) → v ≤ 1 → ((0xFF00 * v ≡ 0) ⊎ (0xFF00 * v ≡ 0xFF00)) × (0xFF00 * v / 0xFF00 ≡ v)
coil_back zero h = (inl (omega arith), omega arith)
coil_back (suc zero) h = (inr (omega arith), omega arith)
coil_back (suc (suc v)) h = absurd (omega arith)

pdu_heard : (a : Ask) (u : ℕ) (pad : List ℕ) → Permitted a → Pads a pad → Heard a (u ∷ pdu a pad)
pdu_heard (read t s n) u pad p q =
    record { number = refl; lengthy = refl; valued = rw word_two p; asks = simp word_two }
pdu_heard (write bit a v) u pad p q =
    let c = coil_back v p in
    record { number = refl; lengthy = refl; valued = rw word_two c.0; asks = simp (word_two, c.1) }
pdu_heard (write word a v) u pad p q =
    record { number = refl; lengthy = refl; valued = tt; asks = simp word_two }
pdu_heard (writes k s vs) u pad p q =
    let n = length_cargo k vs pad q in
    record {
      number = refl;
      lengthy = (omega arith, omega arith);
      valued = (simp word_two p.0, (simp word_two p.1, simp word_two));
      asks = simp (word_two, values_back k vs pad p.2 q);
    }
pdu_heard (masks a x y) u pad p q =
    record { number = refl; lengthy = refl; valued = tt; asks = simp word_two }
pdu_heard (swaps r n s vs) u pad p q =
    let n = length_cargo word vs [] refl in
    record {
      number = refl;
      lengthy = (omega arith, omega arith);
      valued = ((simp word_two p.0, simp word_two p.1), (simp word_two p.2, (simp word_two p.3, simp word_two)));
      asks = simp (word_two, values_back word vs [] p.4 refl);
    }

pub says_heard : (a : Ask) (u : ℕ) (l : List ℕ) → Permitted a → Encodes a l → Heard a (u ∷ l)
says_heard a u l p (pad, q, e) = rw e (pdu_heard a u pad p q)

pub fn_asked : (fn : Fn) (b : List ℕ) → fn_of (asked fn b) ≡ fn
fn_asked (reads t) b = refl
fn_asked (one bit) b = refl
fn_asked (one word) b = refl
fn_asked (many k) b = refl
fn_asked mask b = refl
fn_asked both b = refl
