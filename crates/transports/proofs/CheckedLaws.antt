-- Bytes whose last are the check of those before, or are not.
-- Assumes nothing.
use mathlib.Core.Logic.{by_cases}
use Rattle.std.proofs.Common.{◌≡◌, ℕ, suc, ◌-◌, ◌<◌, ◌≤◌, List, [], ◌∷◌, length, get_or, take, drop, sym, ap, ◌∙◌, arith, drop_of_length-le, length-take-le, drop-cons, get_or-take, take-take}
use Rattle.std.specs.Prelude.{Result, Ok, Err, IsOk}
use Rattle.std.proofs.Common.{refl}
use Rattle.modbus.specs.Paper.{paper, told}
use Rattle.modbus.specs.declared.ErrorKind.{ErrorKind}
use Rattle.checks.specs.Within.{lrc_within}
use Rattle.checks.proofs.WithinLaws.{lrc_never}
use Rattle.modbus.specs.Step.{stop, go, same?}
use Rattle.modbus.specs.Check.{lrc}
use Rattle.modbus.specs.Decode.{frame_check_quiet}
use Rattle.modbus.proofs.StepLaws.{pass, fail}
use Rattle.transports.specs.Opened.{Fronted}
use Rattle.transports.specs.Checked.{checked, lrc_byte}

-- the first n bytes of a buffer, the last k of them the check
module _ (check : List ℕ → List ℕ) (k : ℕ) (s : List ℕ) (n : ℕ) (low : k ≤ n) (high : n ≤ length s) where
  place : length (take n s) - k ≡ n - k
  place = omega (arith, length-take-le n s high)

  before : take (length (take n s) - k) (take n s) ≡ take (n - k) s
  before = rw (place, take-take (n - k) n s (omega arith))

  pub checked_wrong : ¬ (drop (n - k) (take n s) ≡ check (take (n - k) s)) → checked check k (take n s) ≡ stop frame_check_quiet
  checked_wrong h = fail _ _ _ (λ q. h (ap (λ (i : ℕ). drop i (take n s)) (sym place) ∙ q ∙ ap check before))

  pub checked_right : drop (n - k) (take n s) ≡ check (take (n - k) s)
      → checked check k (take n s) ≡ go (record { tag = []; body = take (n - k) s })
  checked_right e =
      pass _ _ _ (ap (λ (i : ℕ). drop i (take n s)) place ∙ e ∙ ap check (sym before))
      ∙ ap (λ (t : List ℕ). go (record { tag = []; body = t })) before

  -- what is checked stands at the front
  pub checked_front : Fronted (checked check k (take n s)) s
  checked_front =
      by_cases (same? (drop (n - k) (take n s)) (check (take (n - k) s)))
      (λ e. rw (checked_right e) (rw (length-take-le (n - k) s (omega arith))))
      (λ h. rw (checked_wrong h) tt)

-- an LRC within the bytes is answered
pub lrc_answered : (r : Result ℕ ErrorKind) (s : List ℕ) (n : ℕ) → n ≤ length s → paper r ≡ told (lrc_within s n) → IsOk r
lrc_answered (Ok v) s n h e = refl
lrc_answered (Err k) s n h e = absurd (lrc_never (Err k) s n h e k refl)

-- the last byte is the LRC, or it is not
module _ (s : List ℕ) (n : ℕ) (low : 1 ≤ n) (high : n ≤ length s) where
  last : drop (n - 1) (take n s) ≡ get_or s (n - 1) 0 ∷ []
  last =
      let long = length-take-le n s high in
      let k : n - 1 < length (take n s) = omega arith in
      let j : length (take n s) ≤ suc (n - 1) = omega arith in
      rw (drop-cons (take n s) (n - 1) 0, drop_of_length-le (take n s) j, get_or-take n s (n - 1) 0 (omega arith))

  pub lrc_wrong : ¬ (get_or s (n - 1) 0 ≡ lrc (take (n - 1) s)) → checked lrc_byte 1 (take n s) ≡ stop frame_check_quiet
  lrc_wrong h = checked_wrong lrc_byte 1 s n low high (λ q. h (let p = sym last ∙ q in cc))

  pub lrc_right : get_or s (n - 1) 0 ≡ lrc (take (n - 1) s) → checked lrc_byte 1 (take n s) ≡ go (record { tag = []; body = take (n - 1) s })
  lrc_right e = checked_right lrc_byte 1 s n low high (last ∙ ap (λ (b : ℕ). b ∷ []) e)
