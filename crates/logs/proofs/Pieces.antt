-- A log may come in any pieces: who takes the whole records off the front of what he has, and keeps the rest for the next piece, ends with what the
-- whole log comes to.
-- Assumes nothing.
use mathlib.Core.Logic.{⊎_elim}
use mathlib.Core.Path.{◌≡◌, refl, sym, ap, ◌∙◌}
use mathlib.Core.List.{List, [], ◌∷◌, ◌++◌}
use Prim.Native.Nat.{ℕ}
use lib.ListN.{drop}
use Rattle.std.specs.Prelude.{Some, None, Ok, Err}
use Rattle.logs.specs.Log.{Peek, peeked, Report, go_on, report}
use Rattle.logs.specs.declared.Total.{Total}
use Rattle.logs.proofs.LogLaws.{peek_stays, report_last, append_nil}

-- all of the pieces, one behind the other
unfoldable pub joined : List (List ℕ) → List ℕ
joined [] = []
joined (p ∷ ps) = p ++ joined ps

-- the first k bytes of l are whole records, with which t becomes u; what is left begins with none
pub record Takes (t : Total) (l : List ℕ) (u : Total) (k : ℕ) : Type 0 where
  pub same : (rest : List ℕ) → report t (l ++ rest) ≡ report u (drop k l ++ rest)
  pub none : (n : ℕ) → ¬ peeked u.at (drop k l) ≡ Ok (Some n)

-- a reader with the totals t, for whom l waits from the pieces before: it ends with the report at the last piece, or where it need not read on
pub data Fed : Total → List ℕ → List (List ℕ) → Report → Type 0 where
  ended : (t : Total) (l : List ℕ) → Fed t l [] (report t l)
  took : (t : Total) (l p : List ℕ) (ps : List (List ℕ)) (u : Total) (k : ℕ) (r : Report) → Takes t (l ++ p) u k
      → Fed u (drop k (l ++ p)) ps r → Fed t l (p ∷ ps) r
  stopped : (t : Total) (l p : List ℕ) (ps : List (List ℕ)) (u : Total) (k : ℕ) → Takes t (l ++ p) u k → ¬ peeked u.at (drop k (l ++ p)) ≡ Ok None
      → Fed t l (p ∷ ps) (report u (drop k (l ++ p)))

append_assoc : (a b c : List ℕ) → (a ++ b) ++ c ≡ a ++ (b ++ c)
append_assoc [] b c = refl
append_assoc (x ∷ a) b c = ap (λ m. x ∷ m) (append_assoc a b c)

-- a fault is final
same_fault : (t : Total) (l m : List ℕ) (p : Peek) → ((n : ℕ) → ¬ p ≡ Ok (Some n)) → ¬ p ≡ Ok None → go_on report t l p ≡ go_on report t m p
same_fault t l m (Err f) w o = refl
same_fault t l m (Ok None) w o = absurd (o refl)
same_fault t l m (Ok (Some n)) w o = absurd (w n refl)

pub final : (t : Total) (l r : List ℕ) → ((n : ℕ) → ¬ peeked t.at l ≡ Ok (Some n)) → ¬ peeked t.at l ≡ Ok None → report t (l ++ r) ≡ report t l
final t l r w o =
    ⊎_elim (λ e. absurd (o e))
    (λ e. report_last t (l ++ r) (λ n h. w n (sym e ∙ h)) ∙ ap (go_on report t (l ++ r)) e ∙ same_fault t (l ++ r) l (peeked t.at l) w o ∙ sym (report_last t l w))
    (peek_stays t.at l r)

pub any_pieces : {t : Total} {l : List ℕ} {ps : List (List ℕ)} {r : Report} → Fed t l ps r → r ≡ report t (l ++ joined ps)
unfolding joined
any_pieces (ended t l) = ap (report t) (sym (append_nil l))
any_pieces (took t l p qs u k r c f) =
    any_pieces f ∙ sym (c.same (joined qs)) ∙ ap (report t) (append_assoc l p (joined qs))
any_pieces (stopped t l p qs u k c o) =
    sym (final u (drop k (l ++ p)) (joined qs) c.none o) ∙ sym (c.same (joined qs)) ∙ ap (report t) (append_assoc l p (joined qs))
