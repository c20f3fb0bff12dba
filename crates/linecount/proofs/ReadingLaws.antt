-- What is left of a log that is read in pieces, and a fault, after which nothing matters.
-- Assumes nothing.
use Rattle.std.proofs.Common.{◌≡◌, ℕ, zero, suc, ◌+◌, ◌-◌, ◌≤◌, List, ◌++◌, length, take, drop, subst, sym, ap, ◌∙◌, arith, Option, Some, Result, Ok, Err, IsErrAnd, IfErr, append_assoc, length-drop, length-take-le}
use lib.Seq.{paste, take-append-add, take-append-le}
use borrow.Author.Rules.{part_to_end}
use borrow.Rule.Slice.PartMut.{put_mid}
use Rattle.std.proofs.lemmas.List.{drop-take}
use Rattle.std.proofs.lemmas.List.Edits.{take-paste}
use Rattle.logs.specs.Log.{report, peeked}
use Rattle.logs.specs.declared.Fault.{Fault}
use Rattle.logs.specs.declared.Total.{Total}
use Rattle.logs.proofs.LogLaws.{whole_is, then_fault, ends_fault}
use Rattle.logs.proofs.Pieces.{final}
use Rattle.linecount.specs.Reading.{Continues, Faulty, OnFault}
use Rattle.linecount.specs.declared.reading.Failure.{Failure}
use Rattle.linecount.specs.declared.reading.Failure.TheVariants.{Refused}

-- the bytes from u on, of the first h, that were moved to the front
pub waits : (l m : List ℕ) (u h : ℕ) → u ≤ h → h ≤ length l → m ≡ paste l 0 (drop u l) (h - u) → take (h - u) m ≡ drop u (take h l)
waits l m u h a b e =
    let n = h - u in
    let d = length-drop u l in
    ap (take n) e ∙ ap (λ k. take k (paste l 0 (drop u l) n)) (let z : n ≡ 0 + n = omega arith in z) ∙ take-paste l 0 (drop u l) n (omega arith) (omega (arith, d))
    ∙ sym (drop-take u n l) ∙ ap (λ k. drop u (take k l)) (let z : u + n ≡ h = omega arith in z)

-- none of them was used
pub stays : (l : List ℕ) (u h : ℕ) → u ≤ 0 → take (h - u) l ≡ drop u (take h l)
stays l zero h a = ap (λ k. take k l) (let z : h - 0 ≡ h = omega arith in z)
stays l (suc u) h a = absurd (omega arith)

-- a fault behind whole records
pub fault_settles : (t u : Total) (l m : List ℕ) (f : Fault) → Continues t l u m → peeked u.at m ≡ Err f → Faulty t l f
fault_settles t u l m f same e =
    let comes : report t l ≡ Err f = sym (then_fault t l u m same f e) in (
      λ next. same next ∙ final u m next (λ n x. (let y = sym e ∙ x in cc)) (λ x. (let y = sym e ∙ x in cc)) ∙ ends_fault u m f e ∙ sym comes,
      comes,
    )

-- what `look` said of a whole record behind the first u bytes
pub whole_front : (t : Total) (l : List ℕ) (u : ℕ) (p : Option ℕ) (n : ℕ) → u ≤ length l → Ok p ≡ peeked t.at (take (length l - u) (drop u l)) → p ≡ Some n
    → (peeked t.at (drop u l) ≡ Ok (Some n)) × (u + 4 + n ≤ length l) × (length (take (u + 4 + n - (u + 4)) (drop (u + 4) l)) ≤ 4096)
    × (t.at + (4 + length (take (u + 4 + n - (u + 4)) (drop (u + 4) l))) ≤ 4294967295)
whole_front t l u p n h e f =
    let w = sym (ap (peeked t.at) (part_to_end l u)) ∙ sym e ∙ ap Ok f in
    let (a, b, c) = whole_is t.at (drop u l) n w in
    let d = length-drop u l in
    let k = length-drop (u + 4) l in
    let s = length-take-le (u + 4 + n - (u + 4)) (drop (u + 4) l) (omega (arith, a, d, k)) in
    (w, omega (arith, a, d, h), omega (arith, b, s), omega (arith, c, s))

-- a fault on its way out
pub on_fault : {A : Type 0} (r : Result A Failure) (f : Fault) (P : Fault → Type 0) → IsErrAnd r (λ e. e ≡ Refused f) → P f → IfErr r (OnFault P)
on_fault (Ok x) f P h p = absurd h
on_fault (Err e) f P h p = subst (OnFault P) (sym h) p

-- what was read stands behind what waited
pub comes_behind : (l m : List ℕ) (h k n : ℕ) → h ≤ length l → n ≤ length m → take (h + n) (put_mid h k l m) ≡ take h l ++ take n m
comes_behind l m h k n a b =
    let e = length-take-le h l a in
    ap (λ (x : ℕ). take (x + n) (put_mid h k l m)) (sym e) ∙ take-append-add (take h l) _ n ∙ ap (λ x. take h l ++ x) (take-append-le n m _ b)

pub read_refused : {A : Type 0} (r : Result A Failure) (t : Total) (l m : List ℕ) (h k n : ℕ) (f : Fault) → Faulty t (take (h + n) (put_mid h k l m)) f
    → IsErrAnd r (λ e. e ≡ Refused f) → h ≤ length l → n ≤ length m → n ≤ 65536
    → IfErr r (OnFault (λ fault. (more : List ℕ) × (length more ≤ 65536) × Faulty t (take h l ++ more) fault))
read_refused r t l m h k n f x e a b o =
    let y = length-take-le n m b in
    on_fault r f _ e (take n m, omega (arith, y, o), subst (λ x. Faulty t x f) (comes_behind l m h k n a b) x)

-- one reading behind another
module _ (t u : Total) (l m a b : List ℕ) (first : Continues t (l ++ a) u m) where
  behind : (next : List ℕ) → report t ((l ++ (a ++ b)) ++ next) ≡ report u ((m ++ b) ++ next)
  behind next =
      ap (report t) (ap (λ x. x ++ next) (sym (append_assoc l a b)) ∙ append_assoc (l ++ a) b next) ∙ first (b ++ next)
      ∙ ap (report u) (sym (append_assoc m b next))

  pub go_on_behind : (v : Total) (k : List ℕ) → Continues u (m ++ b) v k → Continues t (l ++ (a ++ b)) v k
  go_on_behind v k e next = behind next ∙ e next
