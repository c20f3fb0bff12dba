-- Lists cut to a length, and stores that do not meet.
-- Assumes nothing.
use mathlib.Core.Path.{◌≡◌, refl, sym, ap, ◌∙◌}
use mathlib.Core.List.{List, [], ◌∷◌, ◌++◌}
use Prim.Native.Nat.{ℕ, zero, suc, ◌+◌, ◌-◌, ◌≤◌, ◌<◌, min}
use native.Mathlib.Omega.{arith}
use lib.ListN.{length, take, drop, set, drop_of_length-le}
use lib.Seq.{sets, take_all, drop-cons, set-get_or, set_comm, take-append-add}
use Rattle.modbus.specs.Step.{◌≤?◌}

-- what is left of a list beyond its length is nothing
pub take_least : (k : ℕ) (b : List ℕ) → take (min (length b) k) b ≡ take k b
take_least k b = by (length b ≤? k)
  where
    by : Dec (length b ≤ k) → take (min (length b) k) b ≡ take k b
    by (yes h) = take_all (min (length b) k) b (omega arith) ∙ sym (take_all k b h)
    by (no h) = let e : min (length b) k ≡ k = omega arith in ap (λ (n : ℕ). take n b) e

-- cut to n, and more behind it cut to n again
pub take_again : (n : ℕ) (l m : List ℕ) → take n (take n l ++ m) ≡ take n (l ++ m)
take_again zero l m = refl
take_again (suc n) [] m = refl
take_again (suc n) (x ∷ l) m = ap (λ (r : List ℕ). x ∷ r) (take_again n l m)

-- n of the k bytes are there, and as many more as are left
pub take_more : (k n : ℕ) (h b : List ℕ) → length h ≡ n → n ≤ k → take k (h ++ b) ≡ h ++ take (min (length b) (k - n)) b
take_more k n h b e le =
    let z : k ≡ length h + (k - n) = omega arith in
    ap (λ (i : ℕ). take i (h ++ b)) z ∙ take-append-add h b (k - n) ∙ ap (λ (r : List ℕ). h ++ r) (sym (take_least (k - n) b))

-- a list is not changed by its own elements
pub sets_own : (n : ℕ) (l : List ℕ) (i : ℕ) → sets l i (take n (drop i l)) ≡ l
sets_own zero l i = refl
sets_own (suc n) l i = by (suc i ≤? length l) (sets_own n l (suc i))
  where
    by : Dec (suc i ≤ length l) → sets l (suc i) (take n (drop (suc i) l)) ≡ l → sets l i (take (suc n) (drop i l)) ≡ l
    by (yes h) e =
        ap (λ (r : List ℕ). sets l i (take (suc n) r)) (drop-cons l i 0 h)
        ∙ ap (λ (r : List ℕ). sets r (suc i) (take n (drop (suc i) l))) (set-get_or l i 0)
        ∙ e
    by (no h) e = ap (λ (r : List ℕ). sets l i (take (suc n) r)) (drop_of_length-le l {i = i} (omega arith))

-- a store before others is done before or after them
pub sets_set : (l : List ℕ) (i v j : ℕ) (t : List ℕ) → i < j → sets (set l i v) j t ≡ set (sets l j t) i v
sets_set l i v j [] h = refl
sets_set l i v j (x ∷ t) h =
    ap (λ (r : List ℕ). sets r (suc j) t) (set_comm l i j v x (λ e. absurd (omega arith))) ∙ sets_set (set l j x) i v (suc j) t (omega arith)
