-- What a body comes to, as the driver keeps it: what its first fault becomes, and the cells that a request names.
-- Assumes nothing.
use Rattle.std.specs.Prelude.{Option, Bool, true, false, List, [], ◌∷◌, ℕ, zero, suc, ◌+◌, length, None, Some, Result, Ok, Err}
use Rattle.modbus.specs.Step.{Step, stop, go, choose, ◌≤?◌}
use Rattle.modbus.specs.Table.{Kind, bit, word}
use Rattle.modbus.specs.Request.{reads, mask, both, code, Ask, read, write, writes, masks, swaps}
use Rattle.modbus.specs.Setup.{Setup}
use Rattle.modbus.specs.Decode.{Silent, read_ignored_quiet, foreign, frame_broken_quiet, frame_check_quiet, wrong_length_quiet, bad_function_quiet, no_room_quiet, bad_setup_quiet}
use Rattle.modbus.specs.Drive.{weigh}
use Rattle.requests.specs.declared.Cells.{Cells}
use Rattle.requests.specs.declared.Request.{Request}
use Rattle.requests.specs.declared.Request.TheVariants as request
use Rattle.requests.specs.declared.Code.{Code}
use Rattle.requests.specs.declared.Code.TheVariants.{IllegalFunction, IllegalDataAddress, IllegalDataValue}
use Rattle.requests.specs.declared.Refusal.{Refusal}
use Rattle.requests.specs.declared.Refusal.TheVariants.{Exception, Ignored, ReadIgnored, Foreign, FrameBroken, FrameCheck, WrongLength, BadFunction, NoRoom, BadSetup}

abbrev pub On : Bool → Type 0
On true = Unit {0}
On false = ⊥

unfoldable pub on? : (b : Bool) → Dec (On b)
on? true = yes tt
on? false = no (λ h. h)

-- what becomes of a body: it is served, or not
abbrev pub Verdict : Type 0
Verdict = Result Request Refusal

-- goes on exactly if P holds
abbrev pub needed : {P : Type 0} → Dec P → Refusal → Result (Unit {0}) Refusal
needed p r = choose p (Ok tt) (Err r)

-- a fault without a code: nothing is sent
abbrev pub quiet_by : Silent → Refusal
quiet_by read_ignored_quiet = ReadIgnored
quiet_by foreign = Foreign
quiet_by frame_broken_quiet = FrameBroken
quiet_by frame_check_quiet = FrameCheck
quiet_by wrong_length_quiet = WrongLength
quiet_by bad_function_quiet = BadFunction
quiet_by no_room_quiet = NoRoom
quiet_by bad_setup_quiet = BadSetup

-- a fault with a code: an exception from our own unit; on a broadcast number it is ignored, and nothing is sent
abbrev pub refused_by : Bool → Code → Refusal
refused_by true c = Ignored c
refused_by false c = Exception c

abbrev pub ignored : Refusal
ignored = quiet_by read_ignored_quiet

-- document 01's codes, of which there are three
abbrev pub coded : ℕ → Code
coded zero = IllegalFunction
coded (suc zero) = IllegalFunction
coded (suc (suc zero)) = IllegalDataAddress
coded (suc (suc (suc n))) = IllegalDataValue

-- what the body asks, or the refusal that its first fault becomes
abbrev pub weighed : Setup → Bool → List ℕ → Step Refusal Ask
weighed s broadcast b = weigh quiet_by (λ n. refused_by broadcast (coded n)) s (on? broadcast) b

abbrev pub write_of : Kind → Cells → Request
write_of bit c = request.WriteBits c
write_of word c = request.WriteWords c

-- a write of cells, which lie inside a table of so many, or are refused
abbrev pub written : Kind → Cells → ℕ → Refusal → Verdict
written k c cells r = choose (c.address + c.count ≤? cells) (Ok (write_of k c)) (Err r)

-- the cells it names, and where its data stand in the body: a single value at 4, many after the byte count at 7; masks are kept as they are, and the
-- data of a write that comes with a read always stand at 11
abbrev pub kept : Ask → Request
kept (read t s n) = request.Read (record { address = s; count = n; function = code (reads t) })
kept (write k a v) = write_of k (record { address = a; count = 1; at = 4 })
kept (writes k s vs) = write_of k (record { address = s; count = length vs; at = 7 })
kept (masks a x y) = request.Mask (record { address = a; and_mask = x; or_mask = y })
kept (swaps r n s vs) = request.Exchange (record { read_address = r; read_count = n; write_address = s; write_count = length vs })

abbrev pub kept_by : Step Refusal Ask → Verdict
kept_by (stop r) = Err r
kept_by (go a) = Ok (kept a)

unfoldable pub judged : Setup → Bool → List ℕ → Verdict
judged s broadcast b = kept_by (weighed s broadcast b)

-- ---- a verdict in document 01's numbers

abbrev pub code_number : Code → ℕ
code_number IllegalFunction = 1
code_number IllegalDataAddress = 2
code_number IllegalDataValue = 3

-- its outcome, the length of the body that is sent, which for an exception is 3, and the code
abbrev pub refusal_paper : Refusal → ℕ × ℕ × ℕ
refusal_paper (Exception c) = (2, 3, code_number c)
refusal_paper (Ignored c) = (3, 0, code_number c)
refusal_paper ReadIgnored = (3, 0, 0)
refusal_paper Foreign = (4, 0, 0)
refusal_paper FrameBroken = (5, 0, 0)
refusal_paper FrameCheck = (6, 0, 0)
refusal_paper WrongLength = (7, 0, 0)
refusal_paper BadFunction = (8, 0, 0)
refusal_paper NoRoom = (9, 0, 0)
refusal_paper BadSetup = (10, 0, 0)

-- what it says on the line
abbrev pub spoken : Refusal → Option Code
spoken (Exception c) = Some c
spoken (Ignored c) = None
spoken ReadIgnored = None
spoken Foreign = None
spoken FrameBroken = None
spoken FrameCheck = None
spoken WrongLength = None
spoken BadFunction = None
spoken NoRoom = None
spoken BadSetup = None

-- first the outcome, 0 for a request that is served: then its function, or 0 for bits and 1 for words, its first cell, how many, and where a write's
-- data stand, or its masks, or the cells that it writes; else the length of the body that is sent, and the code
abbrev pub verdict_paper : Verdict → List ℕ
verdict_paper (Ok (request.Read q)) = 0 ∷ q.function ∷ q.address ∷ q.count ∷ []
verdict_paper (Ok (request.WriteBits c)) = 0 ∷ 0 ∷ c.address ∷ c.count ∷ c.at ∷ []
verdict_paper (Ok (request.WriteWords c)) = 0 ∷ 1 ∷ c.address ∷ c.count ∷ c.at ∷ []
verdict_paper (Ok (request.Mask m)) = 0 ∷ code mask ∷ m.address ∷ m.and_mask ∷ m.or_mask ∷ []
verdict_paper (Ok (request.Exchange x)) = 0 ∷ code both ∷ x.read_address ∷ x.read_count ∷ x.write_address ∷ x.write_count ∷ []
verdict_paper (Err r) = (refusal_paper r).0 ∷ (refusal_paper r).1 ∷ (refusal_paper r).2 ∷ []
