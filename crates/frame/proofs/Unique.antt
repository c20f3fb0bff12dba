-- Each contract leaves one possible result, and one possible content of the lent response.
-- Assumes nothing.
use mathlib.Core.Path.{◌≡◌, refl, sym, ap, ◌∙◌}
use mathlib.Core.Bool.{cond}
use mathlib.Core.List.{List}
use Prim.Native.Nat.{ℕ}
use native.Mathlib.Omega.{arith}
use lib.Dec.{eqb}
use lib.ListN.{length, get_or}
use Rattle.modbus.specs.declared.ErrorKind.{ErrorKind}
use Rattle.std.specs.Prelude.{Option, Some, None, Result, Ok, Err, ⊤}
use Rattle.modbus.proofs.Unique.{Unique, done_number, by_back}
use Rattle.frame.specs.State.{func_of, ported_of, function_paper, After, left_paper}
use Rattle.frame.specs.declared.ModbusFunction.{ModbusFunction}
use Rattle.frame.specs.declared.Unsupported.{Unsupported}
use Rattle.frame.specs.declared.ModbusFrame.{ModbusFrame}
use Rattle.frame.specs.Changes.{changes_paper}
use Rattle.frame.specs.declared.changes.Changes.{Changes}
use Rattle.frame.specs.declared.changes.Changes.TheVariants.{Coils, Holdings}
use Rattle.frame.proofs.StateLaws.{func_back, code_same}
use Rattle.frame.proofs.ModbusFrame.changes.Kinds as changes-kinds
use Rattle.frame.proofs.ModbusFrame.changes.Reads as changes-reads
use Rattle.frame.proofs.ModbusFunctionTryFromU8.try_from.Kinds as function-of-kinds
use Rattle.frame.proofs.ModbusFunctionTryFromU8.try_from.Reads as function-of-reads
use Rattle.frame.proofs.ModbusFrame.new.Kinds as new-kinds
use Rattle.frame.proofs.ModbusFrame.new.Reads as new-reads
use Rattle.frame.proofs.ModbusFrame.parse.Kinds as parse-kinds
use Rattle.frame.proofs.ModbusFrame.parse.Reads as parse-reads

-- ---- the way back from what a call leaves

-- a call's result, the state and what one lent buffer holds at exit; `lasts` puts state and buffer in their places
pub left_paper_law : {U : Type 0} (lasts : ModbusFrame → List ℕ → U) (x y : Result ⊤ ErrorKind) (s t : ModbusFrame) (l m : List ℕ)
    → left_paper x s l ≡ left_paper y t m → (x ≡ y) × (lasts s l ≡ lasts t m)
left_paper_law lasts x y s t l m e = (
  done_number x y (ap (λ (a : After). a.kind) e),
  ap (λ (a : After). lasts a.frame a.out) e,
)

-- ---- the way back from a change's numbers

abbrev changes_back : List ℕ → Option Changes
changes_back l =
    cond (eqb (length l) 0) None
    (cond (eqb (get_or l 0 0) 0) (Some (Coils (get_or l 1 0) (get_or l 2 0))) (Some (Holdings (get_or l 1 0) (get_or l 2 0))))

changes_back_law : (x : Option Changes) → changes_back (changes_paper x) ≡ x
changes_back_law None = refl
changes_back_law (Some (Coils reg count)) = refl
changes_back_law (Some (Holdings reg count)) = refl

-- ---- no two answers share a function's numbers

pub function_paper_law : (x y : Result ModbusFunction Unsupported) → function_paper x ≡ function_paper y → x ≡ y
function_paper_law (Ok f) (Ok g) e =
    let z = code_same (ported_of f) (ported_of g) (ap (λ (a : ℕ × ℕ). a.1) e) in
    ap Ok (sym (func_back f) ∙ ap func_of z ∙ func_back g)
function_paper_law (Ok f) (Err v) e = absurd (omega (arith, ap (λ (a : ℕ × ℕ). a.0) e))
function_paper_law (Err u) (Ok g) e = absurd (omega (arith, ap (λ (a : ℕ × ℕ). a.0) e))
function_paper_law (Err u) (Err v) e = refl

-- ---- the public functions

pub function_of : Unique 0 function-of-kinds.ps function-of-kinds.r function-of-reads.Post
function_of κs a x y u v p q = (function_paper_law x y (p ∙ sym q), refl)

pub new : Unique 0 new-kinds.ps new-kinds.r new-reads.Post
new κs a x y u v p q = (p ∙ sym q, refl)

-- the state is the first of the parameters, the response the last
pub parse : Unique 4 parse-kinds.ps parse-kinds.r parse-reads.Post
parse κs a x y u v p q =
    left_paper_law (λ s l. (s, (u.1.0, (u.1.1.0, (l, u.1.1.1.1))))) x y _ _ _ _ (p ∙ sym q)

pub changes : Unique 1 changes-kinds.ps changes-kinds.r changes-reads.Post
changes κs a x y u v p q = (by_back changes_paper changes_back changes_back_law x y (p ∙ sym q), refl)
