-- What the stages of building and reading hand on: for the contracts of private functions.
-- Assumes nothing.
use Rattle.std.specs.Prelude.{Bool, true, false, ◌≡◌, List, ◌∷◌, ◌++◌, ℕ, ◌*◌, ◌≤◌, length, get_or, Result, Ok, Err}
use Rattle.modbus.specs.Step.{Step, stop, go, ◌>>=◌, ◌>>◌, need, ◌≤?◌, ◌≟◌}
use Rattle.modbus.specs.Bytes.{two}
use Rattle.modbus.specs.Request.{both, code, Ask, read, write, writes, masks, swaps, fn_of, most_read}
use Rattle.modbus.specs.Paper.{proto_of}
use Rattle.modbus.specs.Frame.{wrap, tag_of}
use Rattle.modbus.specs.Decode.{Message, no_room_quiet, IsRead}
use Rattle.modbus.specs.declared.Answer.{Answer}
use Rattle.requests.specs.Judged.{weighed}
use Rattle.client.specs.declared.ModbusRequest.{ModbusRequest}
use Rattle.requests.specs.declared.Request.{Request}
use Rattle.requests.specs.declared.Request.TheVariants as request
use Rattle.transports.specs.Opened.{fault_of}
use Rattle.client.specs.declared.Reading.{Reading}
use Rattle.client.specs.declared.Refusal.{Refusal}
use Rattle.client.specs.declared.Refusal.TheVariants.{BadRequest, NotMyReply, NoRoom, Unopened}
use Rattle.client.specs.declared.Heard.{Heard}
use Rattle.client.specs.declared.Heard.TheVariants.{Values, Exception}
use Rattle.client.specs.Asking.{Declined, bad_request, not_my_reply, silent, declined_by, or_bad_request, every_cell, tag_to, Reply, said_by, shown_count, kind_shown, heard, replied}

-- why the code says that nothing is built or read
abbrev pub refusal_of : Refusal → Declined
refusal_of BadRequest = bad_request
refusal_of NotMyReply = not_my_reply
refusal_of NoRoom = silent no_room_quiet
refusal_of (Unopened fault) = silent (fault_of fault)

abbrev pub declining : ℕ → Answer
declining k = record { value = 0; kind = k }

abbrev pub read_of : ℕ → ℕ → ℕ → Reading
read_of n o c = record { count = n; outcome = o; code = c }

-- what the code hands to C
abbrev pub answer_of : Result ℕ Refusal → Answer
answer_of (Ok n) = record { value = n; kind = 0 }
answer_of (Err r) = declining (declined_by (refusal_of r))

abbrev pub reading_of : Result Heard Refusal → Reading
reading_of (Ok (Values n)) = read_of n 0 0
reading_of (Ok (Exception c)) = read_of 0 2 c
reading_of (Err r) = read_of 0 (declined_by (refusal_of r)) 0

-- ---- building

abbrev pub failed : {F A : Type 0} → Step F A → Bool
failed (stop x) = true
failed (go a) = false

-- a frame, if there is room for it
abbrev pub roomed : List ℕ → ℕ → Step Declined (List ℕ)
roomed f room = need (length f ≤? room) (silent no_room_quiet) >> go f

abbrev pub framed : ModbusRequest → List ℕ → List ℕ
framed to b = wrap (proto_of to.proto) (tag_to to) b

-- a body in its frame, if it says a request
abbrev pub body_sent : ModbusRequest → List ℕ → ℕ → Step Declined (List ℕ)
body_sent to b room = do
  need (to.proto ≤? 2) bad_request
  a ← or_bad_request (weighed (every_cell to.proto) false b)
  roomed (framed to b) room

-- the body of a write of n values, whose data these bytes are
abbrev pub many_body : ModbusRequest → ℕ → ℕ → ℕ → ℕ → List ℕ → List ℕ
many_body to func reg n octets d = to.unit_id ∷ func ∷ two reg ++ two n ++ (octets ∷ d)

-- and of one that comes with a read of so many holdings
abbrev pub both_body : ModbusRequest → ℕ → ℕ → ℕ → ℕ → List ℕ → List ℕ
both_body to reg count at n d = to.unit_id ∷ code both ∷ two reg ++ two count ++ two at ++ two n ++ ((2 * n) ∷ d)

-- ---- reading

-- a request's frame, opened to this body
abbrev pub message_in : ℕ → List ℕ → List ℕ → Message
message_in n f b = record { tag = tag_of (proto_of n) (get_or f 0 0) (get_or f 1 0); body = b }

-- how many bytes of its body the answer to a write repeats
abbrev pub echoed : Ask → ℕ
echoed (read t s n) = 6
echoed (write k a v) = 6
echoed (writes k s vs) = 6
echoed (masks a x y) = 8
echoed (swaps r n s vs) = 6

-- an answer to it brings so many cells, behind this function
pub record Showing (a : Ask) (function count : ℕ) : Type 0 where
  pub reads : IsRead (fn_of a)
  pub numbered : function ≡ code (fn_of a)
  pub counted : count ≡ shown_count a
  pub most : count ≤ most_read (kind_shown a)

-- the body asks this, and an answer shows so many values
pub record Asks (a : Ask) (count : ℕ) (sent : List ℕ) : Type 0 where
  pub counted : count ≡ shown_count a
  pub numbered : get_or sent 1 0 ≡ code (fn_of a)
  pub some : IsRead (fn_of a) → 1 ≤ count
  pub most : count ≤ most_read (kind_shown a)
  pub whole : 6 ≤ length sent
  pub repeats : echoed a ≤ length sent

-- the body says a request, an answer to which shows so many values
pub record Said (n : ℕ) (b : List ℕ) (count : ℕ) : Type 0 where
  pub ask : Ask
  pub asks : Asks ask count b
  pub goes : weighed (every_cell n) false b ≡ go ask

-- so many values, by the request as it is judged
abbrev pub values_of : Request → ℕ
values_of (request.Read q) = q.count
values_of (request.WriteBits c) = 0
values_of (request.WriteWords c) = 0
values_of (request.Mask m) = 0
values_of (request.Exchange x) = x.read_count

-- or none
abbrev pub Unsaid : ℕ → List ℕ → Type 0
Unsaid n b = failed (weighed (every_cell n) false b) ≡ true

-- the body of a reply whose frame is right, and of the same transaction
abbrev pub heard_from : Ask → List ℕ → List ℕ → Step Declined Reply
heard_from a sent b = need (get_or b 0 0 ≟ get_or sent 0 0) not_my_reply >> heard a sent b

-- and to a message
abbrev pub replied_to : ℕ → Message → List ℕ → ℕ → Step Declined Reply
replied_to n m r room = said_by n m >>= λ q. replied n q.0 q.1 r room
