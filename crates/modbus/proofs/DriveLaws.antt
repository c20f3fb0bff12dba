-- Laws of the driver's parts: a silent fault, and what each way out settles.
-- Assumes nothing.
use mathlib.Core.Path.{◌≡◌, refl, ap}
use mathlib.Core.List.{List, []}
use Prim.Native.Nat.{ℕ, ◌≤◌, ◌<◌}
use native.Mathlib.Omega.{arith}
use Rattle.modbus.specs.Step.{Step, stop, go}
use Rattle.modbus.specs.Table.{Tables}
use Rattle.modbus.specs.Request.{Ask, writing, apply}
use Rattle.modbus.specs.Setup.{Setup}
use Rattle.modbus.specs.Decode.{Message, Silent, read_ignored_quiet, foreign, frame_broken_quiet, frame_check_quiet, wrong_length_quiet, bad_function_quiet, no_room_quiet, bad_setup_quiet, outcome_of}
use Rattle.modbus.specs.Drive.{Fault, quiet, coded, quietly, judge, Result, settle}
use Rattle.modbus.proofs.StepLaws.{either}

-- ---- a silent fault is a fault

pub quietly_go : {A : Type 0} (m : Step Silent A) {a : A} → m ≡ go a → quietly m ≡ go a
unfolding quietly
quietly_go m {a} e = rw e

pub quietly_stop : {A : Type 0} (m : Step Silent A) {o : Silent} → m ≡ stop o → quietly m ≡ stop (quiet o)
unfolding quietly
quietly_stop m {o} e = rw e

pub went_quietly : {A : Type 0} (m : Step Silent A) {a : A} → quietly m ≡ go a → m ≡ go a
unfolding quietly
went_quietly (stop o) e = let z : ◌≡◌ {A = ℕ} 0 1 = cc in absurd (omega arith)
went_quietly (go b) {a} e = let z : b ≡ a = cc in ap go z

pub stopped_quietly : {A C : Type 0} (m : Step Silent A) {x : Fault} → quietly m ≡ stop x
    → ((o : Silent) → m ≡ stop o → quiet o ≡ x → C) → C
unfolding quietly
stopped_quietly (stop o) e k = k o refl cc
stopped_quietly (go b) e k = let z : ◌≡◌ {A = ℕ} 0 1 = cc in absurd (omega arith)

-- ---- what is settled

number_high : (o : Silent) → 2 ≤ outcome_of o
number_high read_ignored_quiet = omega arith
number_high foreign = omega arith
number_high frame_broken_quiet = omega arith
number_high frame_check_quiet = omega arith
number_high wrong_length_quiet = omega arith
number_high bad_function_quiet = omega arith
number_high no_room_quiet = omega arith
number_high bad_setup_quiet = omega arith

pub stop_high : (s : Setup) (t : Tables) (x : Fault) → 2 ≤ (settle s t (stop x)).outcome
unfolding settle
stop_high s t (quiet o) = number_high o
stop_high s t (coded m c) = either (λ (r : Result). 2 ≤ r.outcome) _ _ _ (λ _. omega arith) (λ _. omega arith)

pub stop_after : (s : Setup) (t : Tables) (x : Fault) → (settle s t (stop x)).after ≡ t
unfolding settle
stop_after s t (quiet o) = refl
stop_after s t (coded m c) = either (λ (r : Result). r.after ≡ t) _ _ _ (λ _. refl) (λ _. refl)

pub go_low : (s : Setup) (t : Tables) (m : Message) (a : Ask) → (settle s t (go (m, a))).outcome < 2
unfolding settle
go_low s t m a = either (λ (r : Result). r.outcome < 2) _ _ _ (λ _. omega arith) (λ _. omega arith)

pub go_after : (s : Setup) (t : Tables) (m : Message) (a : Ask) → (settle s t (go (m, a))).after ≡ apply a t
unfolding settle
go_after s t m a = either (λ (r : Result). r.after ≡ apply a t) _ _ _ (λ _. refl) (λ _. refl)

-- the cells written are told of what is served, and of nothing else
pub stop_changed : (s : Setup) (t : Tables) (x : Fault) → (settle s t (stop x)).changed ≡ []
unfolding settle
stop_changed s t (quiet o) = refl
stop_changed s t (coded m c) = either (λ (r : Result). r.changed ≡ []) _ _ _ (λ _. refl) (λ _. refl)

pub go_changed : (s : Setup) (t : Tables) (m : Message) (a : Ask) → (settle s t (go (m, a))).changed ≡ writing a
unfolding settle
go_changed s t m a = either (λ (r : Result). r.changed ≡ writing a) _ _ _ (λ _. refl) (λ _. refl)

-- a frame is judged to stop or to go through
pub by_judge : {C : Type 0} (s : Setup) (f : List ℕ) → ((x : Fault) → judge s f ≡ stop x → C)
    → ((m : Message) (a : Ask) → judge s f ≡ go (m, a) → C) → C
by_judge {C} s f p q = by (judge s f) refl
  where
    by : (j : Step Fault (Message × Ask)) → judge s f ≡ j → C
    by (stop x) e = p x e
    by (go w) e = q w.0 w.1 e
