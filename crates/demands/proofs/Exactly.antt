-- Each refusal is given exactly on its condition, whatever the setup, and only outcomes 0 and 1 may change cells.
-- Assumes nothing.
use mathlib.Core.Logic.{◌↔◌}
use mathlib.Core.Path.{◌≡◌, sym, ◌∙◌}
use mathlib.Core.List.{List}
use Prim.Native.Nat.{ℕ, ◌≤◌, ◌<◌}
use native.Mathlib.Omega.{arith}
use Rattle.modbus.specs.Bytes.{Bytes}
use Rattle.modbus.specs.Table.{Tables, Tab}
use Rattle.modbus.specs.Setup.{Setup}
use Rattle.modbus.specs.Decode.{Message}
use Rattle.modbus.specs.Drive.{drive}
use Rattle.modbus.proofs.DriveLaws.{stop_after, go_low, by_judge}
use Rattle.demands.specs.Order.{Coded, exception_sent, ignored, Refusal, bad_setup, no_room, frame_broken, frame_check, foreign, bad_function, no_function, read_ignored, wrong_length, bad_value, bad_address}
use Rattle.demands.proofs.Judge.{refusal_returns, judge_refused}

module _ (s : Setup) (f : List ℕ) where
  coded_high : {m : Message} {o c : ℕ} {r : List ℕ} → Coded s m o c r → 2 ≤ o
  coded_high (exception_sent c n) = omega arith
  coded_high (ignored c b) = omega arith

  pub refusal_high : {o c : ℕ} {r : List ℕ} → Refusal s f o c r → 2 ≤ o
  refusal_high (bad_setup n) = omega arith
  refusal_high (no_room v n) = omega arith
  refusal_high (frame_broken v r n) = omega arith
  refusal_high (frame_check v r h n) = omega arith
  refusal_high (foreign m h n k) = omega arith
  refusal_high (bad_function m h r k) = omega arith
  refusal_high (no_function m h r l n c) = coded_high c
  refusal_high (read_ignored m fn h b e i) = omega arith
  refusal_high (wrong_length m fn h n) = omega arith
  refusal_high (bad_value m fn h l n c) = coded_high c
  refusal_high (bad_address m a h q n c) = coded_high c

  -- no two refusals are due at once
  pub one_refusal : Bytes f → {o c o' c' : ℕ} {r r' : List ℕ} → Refusal s f o c r → Refusal s f o' c' r' → (o ≡ o') × (c ≡ c') × (r ≡ r')
  one_refusal y h k =
      let (a, b, d) = refusal_returns s (λ tab i. 0) f y h in
      let (a', b', d') = refusal_returns s (λ tab i. 0) f y k in
      (sym a ∙ a', sym b ∙ b', sym d ∙ d')

module _ (s : Setup) (t : Tables) (f : List ℕ) where
  returned_refusal : Bytes f → 2 ≤ (drive s t f).outcome → Refusal s f (drive s t f).outcome (drive s t f).exception_code (drive s t f).reply
  unfolding drive
  returned_refusal y high =
      by_judge s f
      (λ x e. rw e (judge_refused s t f y x e))
      (λ m a e. absurd (let low : (drive s t f).outcome < 2 = rw e (go_low s t m a) in omega arith))

  pub exactly : Bytes f → (o c : ℕ) (r : List ℕ) → 2 ≤ o
      → Refusal s f o c r ↔ (((drive s t f).outcome ≡ o) × ((drive s t f).exception_code ≡ c) × ((drive s t f).reply ≡ r))
  exactly y o c r high = (
    λ h. refusal_returns s t f y h,
    λ (p, q, w).
        let h : 2 ≤ (drive s t f).outcome = omega arith in
        rw (p, q, w) at (returned_refusal y h),
  )

  pub unchanged : 2 ≤ (drive s t f).outcome → (tab : Tab) (i : ℕ) → (drive s t f).after tab i ≡ t tab i
  unfolding drive
  unchanged high tab i =
      by_judge s f
      (λ x e. rw (e, stop_after s t x))
      (λ m a e. absurd (let low : (drive s t f).outcome < 2 = rw e (go_low s t m a) in omega arith))
