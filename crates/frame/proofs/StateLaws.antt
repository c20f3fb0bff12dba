-- The functions by their numbers, and what a call leaves, as the code says it.
-- Assumes nothing.
use mathlib.Core.Logic.{◌≢◌}
use mathlib.Core.Path.{◌≡◌, refl, sym, ap, ◌∙◌}
use mathlib.Core.List.{List}
use Prim.Native.Nat.{ℕ}
use native.Mathlib.Omega.{arith}
use Rattle.std.specs.Prelude.{IsErrAnd, Result, Ok, Err, ⊤}
use Rattle.modbus.specs.Step.{Step, stop, go}
use Rattle.modbus.specs.declared.ErrorKind.{ErrorKind}
use Rattle.modbus.proofs.PaperLaws.{handed_on}
use Rattle.frame.specs.declared.ModbusFrame.{ModbusFrame}
use Rattle.modbus.specs.Table.{coils, discretes, holdings, inputs, bit, word}
use Rattle.modbus.specs.Ported.{Ported, reads, one, many, code_of, all_ported}
use Rattle.modbus.specs.Drive.{find}
use Rattle.modbus.proofs.FindLaws.{find_ported, found_fn, found_fault, find_none}
use Rattle.frame.specs.State.{func_of, ported_of, function_paper, function_told, function_of, left_paper, refused}
use Rattle.frame.specs.declared.ModbusFunction.{ModbusFunction}
use Rattle.frame.specs.declared.ModbusFunction.TheVariants.{GetCoils, GetDiscretes, GetHoldings, GetInputs, SetCoil, SetHolding, SetCoilsBulk, SetHoldingsBulk}
use Rattle.frame.specs.declared.Unsupported.{Unsupported}

-- ---- the functions

pub fn_back : (fn : Ported) → ported_of (func_of fn) ≡ fn
fn_back (reads coils) = refl
fn_back (reads discretes) = refl
fn_back (reads holdings) = refl
fn_back (reads inputs) = refl
fn_back (one bit) = refl
fn_back (one word) = refl
fn_back (many bit) = refl
fn_back (many word) = refl

pub func_back : (f : ModbusFunction) → func_of (ported_of f) ≡ f
func_back GetCoils = refl
func_back GetDiscretes = refl
func_back GetHoldings = refl
func_back GetInputs = refl
func_back SetCoil = refl
func_back SetHolding = refl
func_back SetCoilsBulk = refl
func_back SetHoldingsBulk = refl

-- no two functions share a number
pub code_same : (f g : Ported) → code_of f ≡ code_of g → f ≡ g
code_same f g e =
    let p = find_ported {F = ℕ} 1 (code_of f) f refl in
    let q = find_ported {F = ℕ} 1 (code_of f) g e in
    cc

pub function_known : (n : ℕ) (fn : Ported) → n ≡ code_of fn → function_of n ≡ function_paper (Ok (func_of fn))
unfolding function_of
function_known n fn e =
    ap function_told (find_ported 1 n fn e) ∙ ap (λ (g : Ported). function_told (go g)) (sym (fn_back fn))

pub function_none : (n : ℕ) (e : Unsupported) → ((fn : Ported) → n ≢ code_of fn) → function_of n ≡ function_paper (Err e)
unfolding function_of
function_none n e h = ap function_told (find_none code_of 1 n h all_ported)

-- a function that was found has the number, and a number of none is no function's
pub function_found : {C : Type 0} (n : ℕ) (f : ModbusFunction) → function_of n ≡ function_paper (Ok f)
    → ((fn : Ported) → n ≡ code_of fn → func_of fn ≡ f → C) → C
unfolding function_of
function_found {C} n f e k = by (find code_of 1 n all_ported) refl e
  where
    by : (m : Step ℕ Ported) → find code_of 1 n all_ported ≡ m → function_told m ≡ function_paper (Ok f) → C
    by (go fn) p q =
        let z = code_same fn (ported_of f) (ap (λ (a : ℕ × ℕ). a.1) q) in
        k fn (found_fn code_of _ _ _ fn p) (ap func_of z ∙ func_back f)
    by (stop c) p q =
        let z = found_fault code_of _ _ _ p in
        absurd (omega (arith, ap (λ (a : ℕ × ℕ). a.0) q))

pub function_missing : (n : ℕ) (u : Unsupported) → function_of n ≡ function_paper (Err u) → (fn : Ported) → n ≢ code_of fn
function_missing n u e fn p = omega (arith, ap (λ (a : ℕ × ℕ). a.0) (sym e ∙ function_known n fn p))

-- ---- what a call leaves: a refusal that `?` hands on

pub handed : (r : Result ⊤ ErrorKind) (k : ErrorKind) (s : ModbusFrame) (out : List ℕ) → IsErrAnd r (λ e. e ≡ k)
    → left_paper r s out ≡ refused k s out
handed r k s out h = ap (λ (a : Result ⊤ ErrorKind). left_paper a s out) (handed_on r h)
