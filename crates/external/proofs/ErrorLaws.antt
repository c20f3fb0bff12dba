-- Each way out of setting a Modbus error, and of what the firmware reports.
-- Assumes nothing.
use mathlib.Core.Path.{◌≡◌, refl, sym, ap, ◌∙◌}
use mathlib.Core.List.{List}
use Prim.Native.Nat.{ℕ, zero, suc, ◌≤◌, ◌<◌}
use native.Mathlib.Omega.{arith}
use lib.ListN.{length}
use Rattle.std.specs.Prelude.{Option, Some, None, Err}
use Rattle.modbus.specs.Step.{stop, choose, ◌≟◌}
use Rattle.modbus.specs.Paper.{number}
use Rattle.modbus.specs.declared.ErrorKind.{ErrorKind}
use Rattle.modbus.specs.declared.ErrorKind.TheVariants.{OOB, IllegalDataValue}
use Rattle.modbus.proofs.StepLaws.{pick_yes, pick_no}
use Rattle.modbus.proofs.PaperLaws.{told_same}
use Rattle.frame.specs.State.{After, well, refused, ended}
use Rattle.external.specs.External.{error_set, kind_code, report_code, error_set_if_unset}
use Rattle.external.specs.External.{failed_by}
use Rattle.external.specs.Answers.{coded}
use Rattle.frame.specs.declared.ModbusFrame.{ModbusFrame}
use Rattle.external.specs.declared.Failure.{Failure}
use Rattle.external.specs.declared.Failure.TheVariants as failure
use Rattle.external.specs.External.{Reported, reported, report_processed}
use Rattle.external.proofs.CallLaws.{exceeds, admits}

-- ---- the code of a Modbus error

pub kind_illegal : (k : ErrorKind) → k ≡ IllegalDataValue → kind_code k ≡ 3
kind_illegal k e = pick_yes _ _ _ (ap number e)

pub kind_other : (k : ErrorKind) → ¬ (k ≡ IllegalDataValue) → kind_code k ≡ 0
kind_other k h =
    pick_no _ _ _ (λ e. h (let p = told_same (stop k) (stop IllegalDataValue) (ap (λ (n : ℕ). (n, 0)) e) in cc))

-- the number of a code, 0 of none, and whether there is one
abbrev code_number : Option ℕ → ℕ
code_number None = 0
code_number (Some n) = n

abbrev there : Option ℕ → ℕ
there None = 0
there (Some n) = 1

number_coded : (m : ℕ) → code_number (coded m) ≡ m
number_coded zero = refl
number_coded (suc m) = refl

-- what is chosen by a code, where 0 is none
module _ {A : Type 0} (m : ℕ) (a : A) (f : ℕ → A) where
  no_code : coded m ≡ None → choose (m ≟ 0) a (f m) ≡ a
  no_code e = pick_yes _ _ _ (sym (number_coded m) ∙ ap code_number e)

  some_code : (n : ℕ) → coded m ≡ Some n → choose (m ≟ 0) a (f m) ≡ f n
  some_code n e =
      pick_no _ _ _ (λ (z : m ≡ 0). omega (arith, ap there (sym (ap coded z) ∙ e)))
      ∙ ap f (sym (number_coded m) ∙ ap code_number e)

-- ---- a Modbus error, where none is set

module _ (e : Reported) (s : ModbusFrame) (out : List ℕ) where
  pub unset_exceeds : length out < s.response_len → error_set_if_unset e s out ≡ refused OOB s out
  unfolding error_set_if_unset
  unset_exceeds h = ap ended (exceeds s out _ h)

  -- n is the code of what was reported
  module _ (h : s.response_len ≤ length out) where
    pub unset_none : coded (report_code e) ≡ None → error_set_if_unset e s out ≡ well s out
    unfolding error_set_if_unset
    unset_none q = ap ended (admits s out _ h) ∙ no_code (report_code e) _ (λ m. error_set s.error m s out) q

    pub unset_coded : (n : ℕ) → coded (report_code e) ≡ Some n → error_set_if_unset e s out ≡ error_set s.error n s out
    unfolding error_set_if_unset
    unset_coded n q = ap ended (admits s out _ h) ∙ some_code (report_code e) _ (λ m. error_set s.error m s out) n q

-- ---- what the firmware reports

module _ (k : ErrorKind) (s : ModbusFrame) (out : List ℕ) where
  pub fail_hands_on : coded (kind_code k) ≡ None → failed_by k s out ≡ refused k s out
  fail_hands_on q = no_code (kind_code k) _ (λ m. error_set s.error m s out) q

  pub fail_sets : (n : ℕ) → coded (kind_code k) ≡ Some n → failed_by k s out ≡ error_set s.error n s out
  fail_sets n q = some_code (kind_code k) _ (λ m. error_set s.error m s out) n q

-- d is what is left of a request that was done
module _ (e : Reported) (d : After) (s : ModbusFrame) (out : List ℕ) where
  pub report_exceeds : length out < s.response_len → report_processed e d s out ≡ refused OOB s out
  unfolding report_processed
  report_exceeds h = ap ended (exceeds s out _ h)

  pub report_by : s.response_len ≤ length out → (f : Reported) → e ≡ f → report_processed e d s out ≡ reported f d s out
  unfolding report_processed
  report_by h f q = ap ended (admits s out _ h) ∙ ap (λ (x : Reported). reported x d s out) q

-- what is left of a request that was done is asked for only where it was
other_report : (f : Failure) (c d : After) (s : ModbusFrame) (out : List ℕ) → reported (Err f) c s out ≡ reported (Err f) d s out
other_report (failure.Refused k) c d s out = refl
other_report failure.IllegalFunction c d s out = refl
other_report failure.IllegalDataAddress c d s out = refl

pub report_other : {x : After} (e : Reported) (c d : After) (s : ModbusFrame) (out : List ℕ) (f : Failure) → e ≡ Err f
    → s.response_len ≤ length out → x ≡ reported (Err f) c s out → x ≡ report_processed e d s out
report_other e c d s out f q h p = p ∙ other_report f c d s out ∙ sym (report_by e d s out h (Err f) q)
