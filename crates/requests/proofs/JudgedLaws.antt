-- Each way out of the verdict on a body.
-- Assumes nothing.
use mathlib.Core.Bool.{Bool, true, false}
use mathlib.Core.Logic.{◌≢◌, by_cases}
use mathlib.Core.Path.{◌≡◌, refl, sym, ap, subst, ◌∙◌}
use mathlib.Core.List.{List, [], ◌∷◌, ◌++◌}
use Rattle.std.specs.Prelude.{Result, Ok, Err}
use Rattle.std.specs.Result.{IsErrAnd}
use Rattle.std.proofs.lemmas.Result.{err_from_is_err_and}
use Prim.Native.Nat.{ℕ, ◌+◌, ◌<◌}
use native.Mathlib.Omega.{arith}
use lib.ListN.{length, get_or, drop, get_or-eq_default}
use Rattle.modbus.specs.Step.{Step, go, ◌>>◌, need, choose, ◌≤?◌, ◌and?◌, not?}
use Rattle.modbus.specs.Bytes.{word_at}
use Rattle.modbus.specs.Table.{Kind, bit, word, Tab, coils, discretes, holdings, inputs, target, Range}
use Rattle.modbus.specs.Request.{Fn, reads, one, many, both, code, tab_of, Ask, reading, writing}
use Rattle.modbus.specs.Storage.{datum}
use Rattle.modbus.specs.Setup.{Setup, proto}
use Rattle.modbus.specs.Decode.{IsRead, is_read?, Lengthy, lengthy?, Valued, valued?, asked}
use Rattle.modbus.specs.Drive.{AllWithin, Inside, inside?, weigh}
use Rattle.modbus.proofs.StepLaws.{pass, fail, follow, halt, pick_yes, pick_no, picked}
use Rattle.modbus.proofs.StorageLaws.{length_part}
use Rattle.modbus.proofs.FindLaws.{code_low, none, find_fn, find_none}
use Rattle.requests.specs.Judged.{On, on?, Verdict, needed, refused_by, ignored, weighed, write_of, written, kept, kept_by, judged}
use Rattle.requests.specs.declared.Request.{Request}
use Rattle.requests.specs.declared.Request.TheVariants as request
use Rattle.requests.specs.declared.Code.TheVariants.{IllegalFunction, IllegalDataAddress, IllegalDataValue}
use Rattle.requests.specs.declared.Refusal.{Refusal}
use Rattle.requests.specs.declared.Refusal.TheVariants.{WrongLength, BadFunction}

pub on : (broadcast : Bool) → broadcast ≡ true → On broadcast
on broadcast e = rw e tt

pub off : (broadcast : Bool) → broadcast ≡ false → ¬ On broadcast
off broadcast e h = rw e at h

-- a read's number names one table
pub tab_of_law : (t : Tab) → tab_of (code (reads t)) ≡ t
tab_of_law coils = refl
tab_of_law discretes = refl
tab_of_law holdings = refl
tab_of_law inputs = refl

-- ---- each way out

module _ (s : Setup) (broadcast : Bool) (b : List ℕ) where
  -- a number of none of the functions
  pub judged_other : get_or b 1 0 ≢ 1 → get_or b 1 0 ≢ 2 → get_or b 1 0 ≢ 3 → get_or b 1 0 ≢ 4 → get_or b 1 0 ≢ 5 → get_or b 1 0 ≢ 6 → get_or b 1 0 ≢ 15
      → get_or b 1 0 ≢ 16 → get_or b 1 0 ≢ 22 → get_or b 1 0 ≢ 23
      → Err (choose (get_or b 1 0 ≤? 127) (refused_by broadcast IllegalFunction) BadFunction) ≡ judged s broadcast b
  unfolding judged weigh
  judged_other h1 h2 h3 h4 h5 h6 h15 h16 h22 h23 =
      by_cases (get_or b 1 0 ≤? 127)
      (λ l.
      ap Err (pick_yes _ _ _ l) ∙ sym (ap kept_by (pass _ _ _ l ∙ halt _ _ (find_none code _ _ (none _ h1 h2 h3 h4 h5 h6 h15 h16 h22 h23) _))))
      (λ n. ap Err (pick_no _ _ _ n) ∙ sym (ap kept_by (fail _ _ _ n)))

  -- a body without a function counts as one of function 0
  pub judged_short : length b < 2 → Err (refused_by broadcast IllegalFunction) ≡ judged s broadcast b
  judged_short h =
      let z : get_or b 1 0 ≡ 0 = get_or-eq_default b 0 (omega arith) in
      ap Err (sym (pick_yes _ _ _ (omega arith)))
      ∙ judged_other (λ k. omega arith) (λ k. omega arith) (λ k. omega arith) (λ k. omega arith) (λ k. omega arith)
      (λ k. omega arith) (λ k. omega arith) (λ k. omega arith) (λ k. omega arith) (λ k. omega arith)

module _ (s : Setup) (broadcast : Bool) (b : List ℕ) (fn : Fn) (e : get_or b 1 0 ≡ code fn) where
  abbrev ranged : Step Refusal Ask
  ranged = need (inside? s (asked fn b)) (refused_by broadcast IllegalDataAddress) >> go (asked fn b)

  known : weighed s broadcast b
      ≡ (need (not? (on? broadcast and? is_read? fn)) ignored
      >> (need (lengthy? fn b) WrongLength >> (need (valued? fn b) (refused_by broadcast IllegalDataValue) >> ranged)))
  unfolding weigh
  known = pass _ _ _ (omega (arith, code_low fn)) ∙ follow _ _ (find_fn _ _ (proto s) fn e)

  pub judged_read : On broadcast → IsRead fn → judged s broadcast b ≡ Err ignored
  unfolding judged
  judged_read o r = ap kept_by (known ∙ fail _ _ _ (λ (h : ¬ (On broadcast × IsRead fn)). h (o, r)))

  -- not a read on a broadcast number
  module _ (served : ¬ (On broadcast × IsRead fn)) where
    pub judged_length : ¬ Lengthy fn b → judged s broadcast b ≡ Err WrongLength
    unfolding judged
    judged_length n = ap kept_by (known ∙ pass _ _ _ served ∙ fail _ _ _ n)

    pub judged_value : Lengthy fn b → ¬ Valued fn b → judged s broadcast b ≡ Err (refused_by broadcast IllegalDataValue)
    unfolding judged
    judged_value l n = ap kept_by (known ∙ pass _ _ _ served ∙ pass _ _ _ l ∙ fail _ _ _ n)

    -- a request by the address rule alone, however that is asked
    pub judged_inside : Lengthy fn b → Valued fn b → {P : Type 0} (d : Dec P) → (P → Inside s (asked fn b)) → (Inside s (asked fn b) → P)
        → judged s broadcast b ≡ choose d (Ok (kept (asked fn b))) (Err (refused_by broadcast IllegalDataAddress))
    unfolding judged
    judged_inside l v d f g =
        let i = ap kept_by (known ∙ pass _ _ _ served ∙ pass _ _ _ l ∙ pass _ _ _ v) in
        by_cases d
        (λ h. i ∙ ap kept_by (pass _ _ _ (f h)) ∙ sym (pick_yes _ _ _ h))
        (λ n. i ∙ ap kept_by (fail _ _ _ (λ k. n (g k))) ∙ sym (pick_no _ _ _ n))

    -- one range
    pub judged_range : Lengthy fn b → Valued fn b → (r : Range) → reading (asked fn b) ++ writing (asked fn b) ≡ r ∷ []
        → (cells : ℕ) → s.cells r.tab ≡ cells
        → judged s broadcast b ≡ choose (r.first + r.count ≤? cells) (Ok (kept (asked fn b))) (Err (refused_by broadcast IllegalDataAddress))
    judged_range l v r q cells z =
        judged_inside l v (r.first + r.count ≤? cells)
        (λ h. subst (AllWithin s) (sym q) (rw z h, tt))
        (λ k. rw z at (subst (AllWithin s) q k).0)

-- a write of many is kept with its count
pub many_kept : (k : Kind) (b : List ℕ)
    → (reading (asked (many k) b) ++ writing (asked (many k) b) ≡ record { tab = target k; first = word_at b 2; count = word_at b 4 } ∷ [])
    × (kept (asked (many k) b) ≡ write_of k (record { address = word_at b 2; count = word_at b 4; at = 7 }))
many_kept k b = let n = length_part (datum k (drop 7 b)) 0 (word_at b 4) in (rw n, rw n)

pub one_kept : (k : Kind) (b : List ℕ)
    → (reading (asked (one k) b) ++ writing (asked (one k) b) ≡ record { tab = target k; first = word_at b 2; count = 1 } ∷ [])
    × (kept (asked (one k) b) ≡ write_of k (record { address = word_at b 2; count = 1; at = 4 }))
one_kept bit b = (refl, refl)
one_kept word b = (refl, refl)

-- a write of the right length and values is kept or refused by the address rule
module _ (s : Setup) (broadcast : Bool) (b : List ℕ) (k : Kind) where
  pub one_judged : get_or b 1 0 ≡ code (one k) → length b ≡ 6 → Valued (one k) b → (cells : ℕ) → s.cells (target k) ≡ cells
      → judged s broadcast b
      ≡ written k (record { address = word_at b 2; count = 1; at = 4 }) cells (refused_by broadcast IllegalDataAddress)
  one_judged n l v cells z =
      judged_range s broadcast b (one k) n (λ h. h.1) l v _ (one_kept k b).0 cells z
      ∙ ap (λ (x : Request). choose (word_at b 2 + 1 ≤? cells) (Ok x) (Err (refused_by broadcast IllegalDataAddress))) (one_kept k b).1

  pub many_judged : get_or b 1 0 ≡ code (many k) → Lengthy (many k) b → Valued (many k) b → (cells : ℕ) → s.cells (target k) ≡ cells
      → judged s broadcast b
      ≡ written k (record { address = word_at b 2; count = word_at b 4; at = 7 }) cells (refused_by broadcast IllegalDataAddress)
  many_judged n l v cells z =
      judged_range s broadcast b (many k) n (λ h. h.1) l v _ (many_kept k b).0 cells z
      ∙ ap (λ (x : Request). choose (word_at b 2 + word_at b 4 ≤? cells) (Ok x) (Err (refused_by broadcast IllegalDataAddress))) (many_kept k b).1

-- a write and read is kept with its counts
both_kept : (b : List ℕ)
    → (reading (asked both b) ++ writing (asked both b)
    ≡ record { tab = holdings; first = word_at b 2; count = word_at b 4 } ∷ record { tab = holdings; first = word_at b 6; count = word_at b 8 } ∷ [])
    × (kept (asked both b)
    ≡ request.Exchange (record { read_address = word_at b 2; read_count = word_at b 4; write_address = word_at b 6; write_count = word_at b 8 }))
both_kept b = let n = length_part (datum word (drop 11 b)) 0 (word_at b 8) in (rw n, rw n)

-- and served or refused by the address rule on both ranges
pub both_judged : (s : Setup) (broadcast : Bool) (b : List ℕ) → ¬ On broadcast → get_or b 1 0 ≡ code both → Lengthy both b → Valued both b
    → (cells : ℕ) → s.cells holdings ≡ cells
    → judged s broadcast b
    ≡ choose ((word_at b 2 + word_at b 4 ≤? cells) and? (word_at b 6 + word_at b 8 ≤? cells))
    (Ok (request.Exchange (record { read_address = word_at b 2; read_count = word_at b 4; write_address = word_at b 6; write_count = word_at b 8 })))
    (Err (refused_by broadcast IllegalDataAddress))
both_judged s broadcast b o n l v cells z =
    let q = both_kept b in
    judged_inside s broadcast b both n (λ h. o h.0) l v ((word_at b 2 + word_at b 4 ≤? cells) and? (word_at b 6 + word_at b 8 ≤? cells))
    (λ h. subst (AllWithin s) (sym q.0) (rw z h.0, (rw z h.1, tt)))
    (λ k. let w = subst (AllWithin s) q.0 k in (rw z at w.0, rw z at w.1.0))
    ∙ ap (λ (x : Request). choose ((word_at b 2 + word_at b 4 ≤? cells) and? (word_at b 6 + word_at b 8 ≤? cells)) (Ok x) (Err (refused_by broadcast IllegalDataAddress))) q.1

-- what an answer of a test tells
module _ {P : Type 0} (d : Dec P) (x : Refusal) {r : Result (Unit {0}) Refusal} (e : r ≡ needed d x) where
  pub needed_ok : {u : Unit {0}} → r ≡ Ok u → P
  needed_ok f = picked _ _ _ (sym e ∙ f) (λ p q. p) (λ n q. let z : ◌≡◌ {A = ℕ} 0 1 = cc in absurd (omega arith))

  pub needed_err : {y : Refusal} → r ≡ Err y → ¬ P
  needed_err f = picked _ _ _ (sym e ∙ f) (λ p q. let z : ◌≡◌ {A = ℕ} 0 1 = cc in absurd (omega arith)) (λ n q. n)

  pub needed_is : {y : Refusal} → r ≡ Err y → y ≡ x
  needed_is f = picked _ _ _ (sym e ∙ f) (λ p q. let z : ◌≡◌ {A = ℕ} 0 1 = cc in absurd (omega arith)) (λ n q. cc)

  -- what `?` hands on
  pub needed_out : {f : Verdict} {y : Refusal} → IsErrAnd f (λ z. z ≡ y) → r ≡ Err y → f ≡ Err x
  needed_out {f} h g = let p = err_from_is_err_and f h in p.1 ∙ ap Err (p.2 ∙ needed_is g)
