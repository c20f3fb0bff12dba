-- Bytes put into the reply one after the other are the whole put at once; and what the calls on tables and on the reply leave, where the cells lie
-- inside and there is room.
-- Assumes nothing.
use mathlib.Core.Path.{◌≡◌, refl, sym, ap, ap₂, ◌∙◌}
use mathlib.Core.List.{List, [], ◌∷◌}
use Prim.Native.Nat.{ℕ, ◌+◌, ◌-◌, ◌*◌, ◌/◌, ◌%◌, ◌≤◌, ◌<◌}
use native.Mathlib.Omega.{arith}
use lib.ListN.{length, take, drop, length-drop}
use lib.Seq.{sets, length-take-le}
use Rattle.modbus.specs.Table.{word, part}
use Rattle.modbus.specs.Request.{octets, shown}
use Rattle.modbus.specs.Paper.{told_with, paper_by, done_paper}
use Rattle.modbus.specs.Step.{Step}
use Rattle.modbus.specs.declared.ErrorKind.{ErrorKind}
use Rattle.modbus.specs.declared.ErrorKind.TheVariants.{OOB, OOBContext, FrameBroken, FrameCRCError, IllegalDataValue, ReadCallOnWriteFrame, WriteCallOnReadFrame}
use Rattle.std.specs.Prelude.{Result, Ok, Err, ⊤}
use Rattle.std.specs.Result.{IsOk}
use Rattle.modbus.specs.Bytes.{word_at}
use Rattle.modbus.specs.Storage.{Storage, registers, register_at, put_register, Sound, store, values}
use Rattle.modbus.proofs.StepLaws.{pass}
use Rattle.modbus.proofs.StorageLaws.{size_sound}
use Rattle.modbus.proofs.BytesLaws.{sets_append}
use Rattle.response.specs.Bounded.{extended}
use Rattle.requests.specs.declared.Cells.{Cells}
use Rattle.tables.specs.Calls.{added, stored, stored_whole, changed}
use Rattle.tables.proofs.CallsLaws.{added_inside, stored_inside, changed_inside}
use Rattle.driver.specs.Serving.{put_at, data_of}

-- ---- the reply

pub put_at_law : (start : ℕ) (reply l : List ℕ) (r : ℕ) (o : List ℕ) → r ≡ length l → o ≡ sets reply start l
    → ◌≡◌ {A = ℕ × List ℕ} (r, o) (put_at start reply l)
put_at_law start reply l r o e f = ap₂ (λ (n : ℕ) (m : List ℕ). (n, m)) e f

-- the cells' bytes behind the head of a reply
pub put_behind : (reply : List ℕ) (start x y z : ℕ) (d h o : List ℕ) → h ≡ sets reply start (x ∷ y ∷ z ∷ []) → o ≡ sets h (start + 3) d
    → o ≡ sets reply start (x ∷ y ∷ z ∷ d)
put_behind reply start x y z d h o e f =
    f ∙ ap (λ (l : List ℕ). sets l (start + 3) d) e ∙ sym (sets_append (x ∷ y ∷ z ∷ []) d reply start (start + 3) (omega arith))

-- ---- the calls

abbrev Told : Type 0
Told = (ℕ × ℕ) × List ℕ

-- an answer of number 0 holds
pub holds_by : {A : Type 0} (f : A → ℕ) (r : Result A ErrorKind) → (paper_by f r).0 ≡ 0 → IsOk r
holds_by f (Ok v) e = refl
holds_by f (Err OOB) e = absurd (omega arith)
holds_by f (Err OOBContext) e = absurd (omega arith)
holds_by f (Err FrameBroken) e = absurd (omega arith)
holds_by f (Err FrameCRCError) e = absurd (omega arith)
holds_by f (Err IllegalDataValue) e = absurd (omega arith)
holds_by f (Err ReadCallOnWriteFrame) e = absurd (omega arith)
holds_by f (Err WriteCallOnReadFrame) e = absurd (omega arith)

number_of : Told → ℕ
number_of t = t.0.0

pub extend_done : (x : ℕ × ℕ) (o out : List ℕ) (len : ℕ) (l : List ℕ) → ◌≡◌ {A = Told} (x, o) (told_with out (extended out len l))
    → len + length l ≤ length out → x.0 ≡ 0
unfolding extended number_of
extend_done x o out len l e room =
    ap number_of (e ∙ ap (told_with out) (pass _ _ _ (omega arith) ∙ pass _ _ _ room))

pub extend_put : (x : ℕ × ℕ) (o out : List ℕ) (len : ℕ) (l : List ℕ) → ◌≡◌ {A = Told} (x, o) (told_with out (extended out len l))
    → len + length l ≤ length out → o ≡ sets out len l
unfolding extended
extend_put x o out len l e room =
    ap (λ (t : Told). t.1) (e ∙ ap (told_with out) (pass _ _ _ (omega arith) ∙ pass _ _ _ room))

module _ (S : Storage) (l : List ℕ) (cells : ℕ) (sound : Sound S l cells) (x : ℕ × ℕ) (o : List ℕ) where
  pub added_put : (reg count : ℕ) (out : List ℕ) (len : ℕ) → ◌≡◌ {A = Told} (x, o) (told_with out (added S l cells reg count out len))
      → reg + count ≤ cells → len + octets S.kind count ≤ length out → o ≡ sets out len (shown S.kind (part (S.cell l) reg count))
  added_put reg count out len e h room =
      ap (λ (t : Told). t.1)
      (e ∙ ap (told_with out) (added_inside S l cells reg count out len (rw (size_sound S l cells sound) h) room))

  pub added_done : (reg count : ℕ) (out : List ℕ) (len : ℕ) → ◌≡◌ {A = Told} (x, o) (told_with out (added S l cells reg count out len))
      → reg + count ≤ cells → len + octets S.kind count ≤ length out → x.0 ≡ 0
  unfolding number_of
  added_done reg count out len e h room =
      ap number_of (e ∙ ap (told_with out) (added_inside S l cells reg count out len (rw (size_sound S l cells sound) h) room))

  pub stored_done : (reg count : ℕ) (d : List ℕ) → ◌≡◌ {A = Told} (x, o) (told_with l (stored S l cells reg count d)) → reg + count ≤ cells
      → length d ≡ octets S.kind count → x.0 ≡ 0
  unfolding number_of
  stored_done reg count d e h n =
      ap number_of (e ∙ ap (told_with l) (stored_inside S l cells reg count d (rw (size_sound S l cells sound) h) n))

  pub changed_done : (n v : ℕ) → ◌≡◌ {A = Told} (x, o) (told_with l (changed S l cells n v)) → n < cells → x.0 ≡ 0
  unfolding number_of
  changed_done n v e h =
      ap number_of (e ∙ ap (told_with l) (changed_inside S l cells n v (rw (size_sound S l cells sound) h)))

  pub stored_put : (reg count : ℕ) (d : List ℕ) → ◌≡◌ {A = Told} (x, o) (told_with l (stored S l cells reg count d)) → reg + count ≤ cells
      → length d ≡ octets S.kind count → o ≡ store S l reg (values S.kind count d)
  stored_put reg count d e h n =
      ap (λ (t : Told). t.1) (e ∙ ap (told_with l) (stored_inside S l cells reg count d (rw (size_sound S l cells sound) h) n))

  pub changed_put : (n v : ℕ) → ◌≡◌ {A = Told} (x, o) (told_with l (changed S l cells n v)) → n < cells → o ≡ S.put l n v
  changed_put n v e h =
      ap (λ (t : Told). t.1) (e ∙ ap (told_with l) (changed_inside S l cells n v (rw (size_sound S l cells sound) h)))

-- registers tell their count by the data
pub stored_whole_law : (l : List ℕ) (cells reg count : ℕ) (d : List ℕ) → length d ≡ 2 * count
    → stored_whole l cells reg d ≡ stored registers l cells reg count d
unfolding stored_whole
stored_whole_law l cells reg count d e = let h : length d / 2 ≡ count = omega arith in rw h

-- registers from a place in the body on
pub words_put : (l : List ℕ) (cells : ℕ) → Sound registers l cells → (x : ℕ × ℕ) (o b : List ℕ) (from reg count : ℕ)
    → ◌≡◌ {A = Told} (x, o) (told_with l (stored_whole l cells reg (take ((from + 2 * count) - from) (drop from b)))) → reg + count ≤ cells
    → from + 2 * count ≤ length b → o ≡ store registers l reg (values word count (take (2 * count) (drop from b)))
words_put l cells sound x o b from reg count e h k =
    let d = take (2 * count) (drop from b) in
    let z : (from + 2 * count) - from ≡ 2 * count = omega arith in
    let n : length d ≡ 2 * count = length-take-le _ _ (simp length-drop (omega arith)) in
    stored_put registers l cells sound x o reg count d ((rw z at e) ∙ ap (told_with l) (stored_whole_law l cells reg count d n)) h n

pub words_done : (l : List ℕ) (cells : ℕ) → Sound registers l cells → (x : ℕ × ℕ) (o b : List ℕ) (from reg count : ℕ)
    → ◌≡◌ {A = Told} (x, o) (told_with l (stored_whole l cells reg (take ((from + 2 * count) - from) (drop from b)))) → reg + count ≤ cells
    → from + 2 * count ≤ length b → x.0 ≡ 0
words_done l cells sound x o b from reg count e h k =
    let d = take (2 * count) (drop from b) in
    let z : (from + 2 * count) - from ≡ 2 * count = omega arith in
    let n : length d ≡ 2 * count = length-take-le _ _ (simp length-drop (omega arith)) in
    stored_done registers l cells sound x o reg count d ((rw z at e) ∙ ap (told_with l) (stored_whole_law l cells reg count d n)) h n

-- the same as an equation on what the call is said to do, and what its answer then is
pub words_told : (l : List ℕ) (cells reg n from : ℕ) (b : List ℕ) → Sound registers l cells → reg + n / 2 ≤ cells → from + n ≤ length b → n % 2 ≡ 0
    → (told_with l (stored_whole l cells reg (take n (drop from b)))).0 ≡ (0, 0)
words_told l cells reg n from b sound h k even =
    let d = take n (drop from b) in
    let m : length d ≡ 2 * (n / 2) = length-take-le _ _ (simp length-drop (omega arith)) ∙ omega arith in
    ap (λ (s : Step ErrorKind (ℕ × List ℕ)). (told_with l s).0)
    (stored_whole_law l cells reg (n / 2) d m ∙ stored_inside registers l cells reg (n / 2) d (rw (size_sound registers l cells sound) h) m)

pub done_holds : (r : Result ⊤ ErrorKind) → done_paper r ≡ (0, 0) → IsOk r
done_holds r e = holds_by _ r (ap (λ (p : ℕ × ℕ). p.0) e)

-- a single register
pub single_word : (l b : List ℕ) (c : Cells) → c.at ≡ 4 → c.count ≡ 1 → 6 ≤ length b
    → put_register l c.address (word_at b 4) ≡ store registers l c.address (data_of word b c)
unfolding store part register_at
single_word l b c e f h = rw (e, f) (ap (put_register l c.address) (by b h))
  where
    by : (b : List ℕ) → 6 ≤ length b → word_at b 4 ≡ word_at (take 2 (drop 4 b)) 0
    by (u ∷ n ∷ p ∷ q ∷ x ∷ y ∷ b) h = refl
    by (u ∷ n ∷ p ∷ q ∷ x ∷ []) h = absurd (omega arith)
    by (u ∷ n ∷ p ∷ q ∷ []) h = absurd (omega arith)
    by (u ∷ n ∷ p ∷ []) h = absurd (omega arith)
    by (u ∷ n ∷ []) h = absurd (omega arith)
    by (u ∷ []) h = absurd (omega arith)
    by [] h = absurd (omega arith)
