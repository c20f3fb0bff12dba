-- What the answer of a call that adds to a response tells of its definition; and what adding bytes comes to.
-- Assumes nothing.
use mathlib.Core.Path.{◌≡◌, sym, ap, ◌∙◌}
use mathlib.Core.List.{List, []}
use Prim.Native.Nat.{ℕ, ◌+◌, ◌≤◌, ◌<◌}
use native.Mathlib.Omega.{arith}
use lib.ListN.{length}
use lib.Seq.{sets}
use Rattle.std.specs.Prelude.{IsErrAnd, Result, Ok, Err, ⊤}
use Rattle.modbus.specs.Step.{Step, stop, go, ◌>>=◌}
use Rattle.modbus.specs.Paper.{number, told_with, paper}
use Rattle.modbus.specs.declared.ErrorKind.{ErrorKind}
use Rattle.modbus.specs.declared.ErrorKind.TheVariants.{OOB}
use Rattle.modbus.proofs.PaperLaws.{number_some, handed_on, value_with, refusal_with}
use Rattle.modbus.proofs.StepLaws.{follow, halt}
use Rattle.modbus.proofs.Unique.{done_paper_law}
use Rattle.response.specs.Bounded.{extended}
use Rattle.response.proofs.BoundedLaws.{extended_fits, extended_none}
use Rattle.outgoing.specs.Grow.{Response, response, Short, short, growth, grown_paper, or_short, add}

-- ---- what a call's answer tells

kind_same : (j k : ErrorKind) → number j ≡ number k → j ≡ k
kind_same j k e = let p = done_paper_law (Err j) (Err k) (ap (λ (n : ℕ). (n, 0)) e) in cc

grown_same : (m n : Step Short Response) → growth m ≡ growth n → m ≡ n
grown_same (go r) (go s) e = ap (λ (t : ℕ × Response). go t.1) e
grown_same (go r) (stop y) e = absurd (number_some y.why (sym (ap (λ (t : ℕ × Response). t.0) e)))
grown_same (stop x) (go s) e = absurd (number_some x.why (ap (λ (t : ℕ × Response). t.0) e))
grown_same (stop x) (stop y) e =
    let k = kind_same x.why y.why (ap (λ (t : ℕ × Response). t.0) e) in
    ap (λ (j : ErrorKind). stop (short j x.at)) k ∙ ap (λ (t : ℕ × Response). stop (short y.why t.1)) e

pub grew : (m : Step Short Response) (n : ℕ) (l : List ℕ) → growth m ≡ (0, response n l) → m ≡ go (response n l)
grew m n l e = grown_same m (go (response n l)) e

pub stopped : (m : Step Short Response) (k : ErrorKind) (n : ℕ) (l : List ℕ) → growth m ≡ (number k, response n l)
    → m ≡ stop (short k (response n l))
stopped m k n l e = grown_same m (stop (short k (response n l))) e

-- an answer of the code, with what is left
module _ (m : Step Short Response) (r : Result ⊤ ErrorKind) (n : ℕ) (l : List ℕ) (e : grown_paper r n l ≡ growth m) where
  as_said : (a : Result ⊤ ErrorKind) → r ≡ a → growth m ≡ grown_paper a n l
  as_said a q = sym e ∙ ap (λ (b : Result ⊤ ErrorKind). grown_paper b n l) q

  -- a step that was done goes on with the response as it then stands
  pub was_done : r ≡ Ok tt → m ≡ go (response n l)
  was_done q = grew m n l (as_said (Ok tt) q)

  pub goes_on : (f : Response → Step Short Response) → r ≡ Ok tt → (m >>= f) ≡ f (response n l)
  goes_on f q = follow m f (was_done q)

  -- one that was refused ends the call
  pub was_refused : (k : ErrorKind) → r ≡ Err k → m ≡ stop (short k (response n l))
  was_refused k q = stopped m k n l (as_said (Err k) q)

  pub ends_there : (f : Response → Step Short Response) (k : ErrorKind) → r ≡ Err k
      → (m >>= f) ≡ stop (short k (response n l))
  ends_there f k q = halt m f (was_refused k q)

-- a refusal that `?` hands on, where the definition ends so
pub handed : (r : Result ⊤ ErrorKind) {m : Step Short Response} {k : ErrorKind} {n : ℕ} {l : List ℕ} → IsErrAnd r (λ e. e ≡ k)
    → m ≡ stop (short k (response n l)) → grown_paper r n l ≡ growth m
handed r {m} {k} {n} {l} h e =
    ap (λ (a : Result ⊤ ErrorKind). grown_paper a n l) (handed_on r h) ∙ sym (ap growth e)

-- ---- bytes added

-- an answer on the bounded response: the length that it gives, or the one that stands where it refuses
module _ (out d l : List ℕ) (len : ℕ) where
  pub extend_grown : (n : ℕ) → (paper (Ok n), l) ≡ told_with out (extended out len d)
      → add d (response len out) ≡ go (response n l)
  unfolding or_short
  extend_grown n e = ap (or_short (response len out)) (value_with out l _ n e)

  pub extend_refused : (k : ErrorKind) → (paper (Err k), l) ≡ told_with out (extended out len d)
      → add d (response len out) ≡ stop (short k (response len l))
  unfolding or_short
  extend_refused k e =
      let p = refusal_with out l _ k e in
      ap (or_short (response len out)) p.0 ∙ ap (λ (t : List ℕ). stop (short k (response len t))) (sym p.1)

module _ (len : ℕ) (out : List ℕ) where
  pub add_none : (d : List ℕ) → length out < len + length d
      → add d (response len out) ≡ stop (short OOB (response len out))
  unfolding or_short
  add_none d h = ap (or_short (response len out)) (extended_none out len d h)

  pub add_fits : (d : List ℕ) → len + length d ≤ length out
      → add d (response len out) ≡ go (response (len + length d) (sets out len d))
  unfolding or_short
  add_fits d h = ap (or_short (response len out)) (extended_fits out len d h)
