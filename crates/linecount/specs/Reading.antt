-- A log that is read in pieces: what one taking-in owes the rest of it (document 02, 2026-12).
-- Assumes nothing.
use Rattle.std.specs.Prelude.{◌≡◌, ℕ, ◌-◌, List, ◌++◌, drop, Err, ⊤}
use Rattle.logs.specs.Log.{report}
use Rattle.logs.specs.declared.Total.{Total}
use Rattle.logs.specs.declared.Fault.{Fault}
use Rattle.linecount.specs.declared.reading.Failure.{Failure}
use Rattle.linecount.specs.declared.reading.Failure.TheVariants.{CannotRead, Refused}

-- with the totals u and m left, the log comes to what it came to with t and l, whatever follows
abbrev pub Continues : Total → List ℕ → Total → List ℕ → Type 0
Continues t l u m = (next : List ℕ) → report t (l ++ next) ≡ report u (m ++ next)

-- nothing that follows changes it
abbrev pub Settled : Total → List ℕ → Type 0
Settled t l = (next : List ℕ) → report t (l ++ next) ≡ report t l

-- this is its fault, whatever follows
abbrev pub Faulty : Total → List ℕ → Fault → Type 0
Faulty t l f = Settled t l × (report t l ≡ Err f)

-- what is said of the fault, and nothing where the log could not be read
abbrev pub OnFault : (Fault → Type 0) → Failure → Type 0
OnFault P CannotRead = ⊤
OnFault P (Refused f) = P f

-- what is left of a log where the totals went from t to u
abbrev pub left : Total → Total → List ℕ → List ℕ
left t u l = drop (u.at - t.at) l
