-- The driver (document 01, "What the driver returns"): every fault in document 01's order, one line each, the first wins; and what each
-- outcome leaves.
-- Assumes nothing.
use Rattle.std.specs.Prelude.{List, [], ◌∷◌, ◌++◌, ℕ, get_or}
use Rattle.modbus.specs.Step.{Step, stop, go, ◌>>=◌, ◌>>◌, need, choose, ◌≤?◌, ◌≟◌, ◌and?◌, ◌or?◌, not?}
use Rattle.modbus.specs.Table.{Range, Tables}
use Rattle.modbus.specs.Request.{code, offered, Ask, reading, writing, apply, seen, found, answer, exception}
use Rattle.modbus.specs.Frame.{wrap}
use Rattle.modbus.specs.Setup.{Setup, proto, valid?, roomy?, Within, within?}
use Rattle.modbus.specs.Unit.{broadcast?, ours?}
use Rattle.modbus.specs.Decode.{Message, unit_of, number_of, Silent, read_ignored_quiet, foreign, wrong_length_quiet, bad_function_quiet, no_room_quiet, bad_setup_quiet, outcome_of, unwrap, spelled_in, is_read?, lengthy?, valued?, asked}

-- a fault is silent, or comes with a message and an exception code
pub data Fault : Type 0 where
  quiet : Silent → Fault
  coded : Message → ℕ → Fault

unfoldable pub quietly : {A : Type 0} → Step Silent A → Step Fault A
quietly (stop x) = stop (quiet x)
quietly (go a) = go a

-- the function of a number among some, or the fault
unfoldable pub find : {F A : Type 0} → (A → ℕ) → F → ℕ → List A → Step F A
find code x n [] = stop x
find code x n (fn ∷ l) = choose (n ≟ code fn) (go fn) (find code x n l)

-- all the cells it names
abbrev pub AllWithin : Setup → List Range → Type 0
AllWithin s [] = Unit {0}
AllWithin s (r ∷ l) = Within s r × AllWithin s l

unfoldable pub all_within? : (s : Setup) (l : List Range) → Dec (AllWithin s l)
all_within? s [] = yes tt
all_within? s (r ∷ l) = within? s r and? all_within? s l

abbrev pub Inside : Setup → Ask → Type 0
Inside s a = AllWithin s (reading a ++ writing a)

abbrev pub inside? : (s : Setup) (a : Ask) → Dec (Inside s a)
inside? s a = all_within? s (reading a ++ writing a)

-- ---- document 01's order: BadSetup, NoRoom, FrameBroken, FrameCheck, Foreign, BadFunction, unsupported function (code 1), broadcast read,
-- WrongLength, value (code 3), address (code 2)

-- from the function on: what a body asks, or its first fault. What a fault without a code and one with a code become is the caller's, and so is
-- whether the body went to a broadcast number
unfoldable pub weigh : {F P : Type 0} → (Silent → F) → (ℕ → F) → Setup → Dec P → List ℕ → Step F Ask
weigh silent refused s broadcast b = do
  need (get_or b 1 0 ≤? 127) (silent bad_function_quiet)
  fn ← find code (refused 1) (get_or b 1 0) (offered (proto s))
  need (not? (broadcast and? is_read? fn)) (silent read_ignored_quiet)
  need (lengthy? fn b) (silent wrong_length_quiet)
  need (valued? fn b) (refused 3)
  need (inside? s (asked fn b)) (refused 2)
  go (asked fn b)

-- once the frame is taken apart
abbrev pub from_unit : Setup → Message → Step Fault (Message × Ask)
from_unit s m = do
  need (broadcast? s (unit_of m) or? ours? s (unit_of m)) (quiet foreign)
  a ← weigh quiet (coded m) s (broadcast? s (unit_of m)) m.body
  go (m, a)

-- the frame as the setup's switch has it read
abbrev pub spelled : Setup → List ℕ → List ℕ
spelled s f = spelled_in (proto s) s.hex f

-- from the start
unfoldable pub judge : Setup → List ℕ → Step Fault (Message × Ask)
judge s f = do
  need (valid? s) (quiet bad_setup_quiet)
  need (roomy? s) (quiet no_room_quiet)
  m ← quietly (unwrap (proto s) (spelled s f))
  from_unit s m

-- an outcome, its exception code, the reply, the tables afterwards, and the cells that were written (document 02, 2026-07), whether or not their
-- values were others before
pub record Result : Type 0 where
  pub outcome : ℕ
  pub exception_code : ℕ
  pub reply : List ℕ
  pub after : Tables
  pub changed : List Range

abbrev pub silently : ℕ → ℕ → Tables → List Range → Result
silently o x t w = record { outcome = o; exception_code = x; reply = []; after = t; changed = w }

abbrev pub replying : Setup → Message → ℕ → ℕ → List ℕ → Tables → List Range → Result
replying s m o x pdu t w =
    record { outcome = o; exception_code = x; reply = wrap (proto s) m.tag (unit_of m ∷ pdu); after = t; changed = w }

-- only outcomes 0 and 1 may change cells; a broadcast is never answered; the answer is read off the tables after the write
unfoldable pub settle : Setup → Tables → Step Fault (Message × Ask) → Result
settle s t (stop (quiet o)) = silently (outcome_of o) 0 t []
settle s t (stop (coded m x)) =
    choose (broadcast? s (unit_of m)) (silently 3 x t []) (replying s m 2 x (exception (number_of m) x) t [])
settle s t (go (m, a)) =
    choose (broadcast? s (unit_of m)) (silently 1 0 (apply a t) (writing a))
    (replying s m 0 0 (answer a (found a (seen (apply a t)))) (apply a t) (writing a))

unfoldable pub drive : Setup → Tables → List ℕ → Result
drive s t f = settle s t (judge s f)
