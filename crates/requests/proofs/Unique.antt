-- Each contract leaves one possible result; that of `judge` is the one for a setup with these numbers of cells, of which there is one.
-- Assumes nothing.
use mathlib.Core.Path.{◌≡◌, refl, sym, ◌∙◌}
use mathlib.Core.Bool.{cond}
use mathlib.Core.List.{List, [], ◌∷◌}
use Rattle.std.specs.Prelude.{Ok, Err}
use lib.Dec.{eqb}
use Rattle.modbus.specs.Table.{coils, discretes, holdings, inputs, Sizes}
use Rattle.modbus.specs.Setup.{Setup}
use Rattle.modbus.proofs.Unique.{Unique, by_back}
use Prim.Native.Nat.{ℕ}
use Rattle.requests.specs.Judged.{Verdict, verdict_paper}
use Rattle.requests.specs.declared.Request.TheVariants as request
use Rattle.requests.specs.declared.Code.{Code}
use Rattle.requests.specs.declared.Code.TheVariants.{IllegalFunction, IllegalDataAddress, IllegalDataValue}
use Rattle.requests.specs.declared.Refusal.{Refusal}
use Rattle.requests.specs.declared.Refusal.TheVariants.{Exception, Ignored, ReadIgnored, Foreign, FrameBroken, FrameCheck, WrongLength, BadFunction, NoRoom, BadSetup}
use Rattle.requests.proofs.U8FromCode.from.Kinds as code-kinds
use Rattle.requests.proofs.U8FromCode.from.Reads as code-reads
use Rattle.requests.proofs.judge.Kinds as judge-kinds
use Rattle.requests.proofs.judge.Reads as judge-reads

-- ---- the way back from a verdict's numbers: by how many there are

abbrev code_back : ℕ → Code
code_back n = cond (eqb n 1) IllegalFunction (cond (eqb n 2) IllegalDataAddress IllegalDataValue)

abbrev refusal_back : ℕ → ℕ → Refusal
refusal_back o c =
    cond (eqb o 2) (Exception (code_back c)) (cond (eqb o 3) (cond (eqb c 0) ReadIgnored (Ignored (code_back c))) (cond (eqb o 4) Foreign
    (cond (eqb o 5) FrameBroken (cond (eqb o 6) FrameCheck (cond (eqb o 7) WrongLength (cond (eqb o 8) BadFunction (cond (eqb o 9) NoRoom BadSetup)))))))

abbrev verdict_back : List ℕ → Verdict
verdict_back (o ∷ r ∷ c ∷ []) = Err (refusal_back o c)
verdict_back (o ∷ f ∷ a ∷ n ∷ []) = Ok (request.Read (record { address = a; count = n; function = f }))
verdict_back (o ∷ k ∷ a ∷ n ∷ at ∷ []) =
    Ok (cond (eqb k 22) (request.Mask (record { address = a; and_mask = n; or_mask = at }))
    (cond (eqb k 0) (request.WriteBits (record { address = a; count = n; at = at })) (request.WriteWords (record { address = a; count = n; at = at }))))
verdict_back (o ∷ k ∷ r ∷ n ∷ s ∷ m ∷ l) =
    Ok (request.Exchange (record { read_address = r; read_count = n; write_address = s; write_count = m }))
verdict_back [] = Err BadSetup
verdict_back (o ∷ []) = Err BadSetup
verdict_back (o ∷ r ∷ []) = Err BadSetup

verdict_back_law : (v : Verdict) → verdict_back (verdict_paper v) ≡ v
verdict_back_law (Ok (request.Read q)) = refl
verdict_back_law (Ok (request.WriteBits c)) = refl
verdict_back_law (Ok (request.WriteWords c)) = refl
verdict_back_law (Ok (request.Mask m)) = refl
verdict_back_law (Ok (request.Exchange x)) = refl
verdict_back_law (Err (Exception IllegalFunction)) = refl
verdict_back_law (Err (Exception IllegalDataAddress)) = refl
verdict_back_law (Err (Exception IllegalDataValue)) = refl
verdict_back_law (Err ReadIgnored) = refl
verdict_back_law (Err (Ignored IllegalFunction)) = refl
verdict_back_law (Err (Ignored IllegalDataAddress)) = refl
verdict_back_law (Err (Ignored IllegalDataValue)) = refl
verdict_back_law (Err Foreign) = refl
verdict_back_law (Err FrameBroken) = refl
verdict_back_law (Err FrameCheck) = refl
verdict_back_law (Err WrongLength) = refl
verdict_back_law (Err BadFunction) = refl
verdict_back_law (Err NoRoom) = refl
verdict_back_law (Err BadSetup) = refl

-- no two verdicts share document 01's numbers
pub verdict_paper_law : (x y : Verdict) → verdict_paper x ≡ verdict_paper y → x ≡ y
verdict_paper_law = by_back verdict_paper verdict_back verdict_back_law

-- ---- the public functions

abbrev sizes : ℕ → ℕ → ℕ → ℕ → Sizes
sizes c d h i coils = c
sizes c d h i discretes = d
sizes c d h i holdings = h
sizes c d h i inputs = i

abbrev setup : ℕ → ℕ → ℕ → ℕ → Setup
setup c d h i = record { transport = 0; unit = 0; hex = 0; broadcasts = []; cells = sizes c d h i; bytes = λ t. 0; room = 0 }

pub judge : Unique 1 judge-kinds.ps judge-kinds.r judge-reads.Post
judge κs a x y u v p q =
    let s = setup a.1.1.0 a.1.1.1.0 a.1.1.1.1.0 a.1.1.1.1.1.0 in
    (verdict_paper_law x y (p s (refl, refl, refl, refl) ∙ sym (q s (refl, refl, refl, refl))), refl)

pub code_of : Unique 0 code-kinds.ps code-kinds.r code-reads.Post
code_of κs a x y u v p q = (p ∙ sym q, refl)
