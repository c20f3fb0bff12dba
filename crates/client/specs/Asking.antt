-- The asking side (document 02, 2026-02 and 2026-05): the requests that can be built and their frames; the request that a frame says; and what a reply to it
-- says. Requests, answers and frames are those of Request, Decode and Frame: there is no second encoding.
-- Assumes nothing.
use Rattle.std.specs.Prelude.{◌≡◌, List, [], ◌∷◌, ℕ, suc, ◌+◌, ◌-◌, ◌*◌, ◌/◌, ◌%◌, ◌≤◌, length, take, drop, get_or, replicate}
use Rattle.std.proofs.lemmas.List.Edits.{sets}
use Rattle.modbus.specs.Step.{Step, stop, go, ◌>>=◌, ◌>>◌, need, choose, ◌≤?◌, ◌≟◌, ◌and?◌, same?}
use Rattle.modbus.specs.Bytes.{All}
use Rattle.modbus.specs.Table.{Kind, bit, word, kind_of, Fits}
use Rattle.modbus.specs.Request.{Fn, reads, one, many, mask, both, code, offered, Ask, read, write, writes, masks, swaps, fn_of, most_read, most_written, most_swapped, Permitted, octets, pdu}
use Rattle.modbus.specs.Storage.{values}
use Rattle.modbus.specs.Paper.{proto_of}
use Rattle.modbus.specs.Setup.{Setup}
use Rattle.modbus.specs.Frame.{wrap, tag_of}
use Rattle.modbus.specs.Decode.{Message, unit_of, Silent, no_room_quiet, outcome_of, unwrap}
use Rattle.modbus.specs.Drive.{find, inside?, weigh}
use Rattle.modbus.specs.declared.Answer.{Answer}
use Rattle.client.specs.declared.ModbusRequest.{ModbusRequest}
use Rattle.client.specs.declared.Reading.{Reading}

-- ---- refusals: BadRequest and NotMyReply are the asking side's own; NoRoom, FrameBroken and FrameCheck are document 01's

pub data Declined : Type 0 where
  bad_request not_my_reply : Declined
  silent : Silent → Declined

abbrev pub declined_by : Declined → ℕ
declined_by bad_request = 11
declined_by not_my_reply = 12
declined_by (silent o) = outcome_of o

-- whatever stops it, it is no request
unfoldable pub or_bad_request : {F A : Type 0} → Step F A → Step Declined A
or_bad_request (stop x) = stop bad_request
or_bad_request (go a) = go a

unfoldable pub or_silent : {A : Type 0} → Step Silent A → Step Declined A
or_silent (stop o) = stop (silent o)
or_silent (go a) = go a

-- ---- what may be asked: document 01's value rules, and no cell beyond 65,535

unfoldable pub fits? : (k : Kind) (v : ℕ) → Dec (Fits k v)
fits? bit v = v ≤? 1
fits? word v = suc v ≤? 65536

unfoldable pub all_fit? : (k : Kind) (vs : List ℕ) → Dec (All (Fits k) vs)
all_fit? k [] = yes tt
all_fit? k (v ∷ vs) = fits? k v and? all_fit? k vs

unfoldable pub three? : {P Q R : Type 0} → Dec P → Dec Q → Dec R → Dec (P × Q × R)
three? (yes p) (yes q) (yes r) = yes (p, q, r)
three? (yes p) (yes q) (no r) = no (λ h. r h.2)
three? (yes p) (no q) r = no (λ h. q h.1)
three? (no p) q r = no (λ h. p h.0)

unfoldable pub five? : {P Q R S T : Type 0} → Dec P → Dec Q → Dec (R × S × T) → Dec (P × Q × R × S × T)
five? (yes p) (yes q) (yes r) = yes (p, q, r.0, r.1, r.2)
five? (yes p) (yes q) (no r) = no (λ h. r (h.2, h.3, h.4))
five? (yes p) (no q) r = no (λ h. q h.1)
five? (no p) q r = no (λ h. p h.0)

-- so many values, from 1 on, each of which fits
abbrev pub count_fit? : (k : Kind) (n : ℕ) (vs : List ℕ) → Dec ((1 ≤ length vs) × (length vs ≤ n) × All (Fits k) vs)
count_fit? k n vs = three? (1 ≤? length vs) (length vs ≤? n) (all_fit? k vs)

unfoldable pub permitted? : (a : Ask) → Dec (Permitted a)
permitted? (read t s n) = (1 ≤? n) and? (n ≤? most_read (kind_of t))
permitted? (write k a v) = fits? k v
permitted? (writes k s vs) = count_fit? k (most_written k) vs
permitted? (masks a x y) = fits? word x and? fits? word y
permitted? (swaps r n s vs) = five? (1 ≤? n) (n ≤? most_read word) (count_fit? word most_swapped vs)

-- a unit with all the cells that can be named
abbrev pub every_cell : ℕ → Setup
every_cell n = record { transport = n; unit = 0; hex = 0; broadcasts = []; cells = λ tab. 65536; bytes = λ tab. 131072; room = 511 }

-- ---- building

-- whom to ask: the transaction number, the unit, the transport's number
abbrev pub asker : ℕ → ℕ → ℕ → ModbusRequest
asker tr u n = record { tr_id = tr; unit_id = u; proto = n }

abbrev pub function_of : ℕ → ℕ → Step Declined Fn
function_of n func = find code bad_request func (offered (proto_of n))

-- functions 1 to 4 read; 22 and 23 have builders of their own
abbrev pub read_by : ℕ → ℕ → Fn → Step Declined Ask
read_by reg count (reads t) = go (read t reg count)
read_by reg count (one k) = stop bad_request
read_by reg count (many k) = stop bad_request
read_by reg count mask = stop bad_request
read_by reg count both = stop bad_request

-- functions 5 and 6 write exactly one value, 15 and 16 as many as there are
abbrev pub write_by : ℕ → List ℕ → Fn → Step Declined Ask
write_by reg vs (reads t) = stop bad_request
write_by reg [] (one k) = stop bad_request
write_by reg (v ∷ []) (one k) = go (write k reg v)
write_by reg (v ∷ w ∷ vs) (one k) = stop bad_request
write_by reg vs (many k) = go (writes k reg vs)
write_by reg vs mask = stop bad_request
write_by reg vs both = stop bad_request

unfoldable pub getting : ℕ → ℕ → ℕ → ℕ → Step Declined Ask
getting n func reg count = function_of n func >>= read_by reg count

unfoldable pub setting : ℕ → ℕ → ℕ → List ℕ → Step Declined Ask
setting n func reg vs = function_of n func >>= write_by reg vs

-- pad bits are zero
abbrev pub padding : Ask → List ℕ
padding (read t s n) = []
padding (write k a v) = []
padding (writes bit s vs) = replicate (8 * octets bit (length vs) - length vs) 0
padding (writes word s vs) = []
padding (masks a x y) = []
padding (swaps r n s vs) = []

-- the body of a request to a unit, and its frame, in which TCP has the transaction number
abbrev pub body_to : ModbusRequest → Ask → List ℕ
body_to to a = to.unit_id ∷ pdu a (padding a)

abbrev pub tag_to : ModbusRequest → List ℕ
tag_to to = tag_of (proto_of to.proto) (to.tr_id / 256) (to.tr_id % 256)

abbrev pub frame_to : ModbusRequest → Ask → List ℕ
frame_to to a = wrap (proto_of to.proto) (tag_to to) (body_to to a)

-- the frame of what is wanted, or the first reason why there is none
unfoldable pub generated : ModbusRequest → Step Declined Ask → ℕ → Step Declined (List ℕ)
generated to wanted room = do
  need (to.proto ≤? 2) bad_request
  a ← wanted
  need (permitted? a) bad_request
  need (inside? (every_cell to.proto) a) bad_request
  need (length (frame_to to a) ≤? room) (silent no_room_quiet)
  go (frame_to to a)

-- the answer in numbers, and what the lent buffer then holds: the frame in front, and a refusal leaves it as lent
abbrev pub laid_into : List ℕ → Step Declined (List ℕ) → Answer × List ℕ
laid_into out (go f) = (record { value = length f; kind = 0 }, sets out 0 f)
laid_into out (stop x) = (record { value = 0; kind = declined_by x }, out)

-- ---- the request that a frame says: read as a server reads it that is asked itself, and every cell of which may be named

abbrev pub no_broadcast : Dec ⊥
no_broadcast = no (λ h. h)

abbrev pub said_by : ℕ → Message → Step Declined (Message × Ask)
said_by n m = weigh (λ o. bad_request) (λ c. bad_request) (every_cell n) no_broadcast m.body >>= λ a. go (m, a)

unfoldable pub sent_as : ℕ → List ℕ → Step Declined (Message × Ask)
sent_as n f = or_bad_request (unwrap (proto_of n) f) >>= said_by n

-- ---- reading

-- what a reply says: the values of the cells read, none after a write that reads none; or the code of an exception
pub data Reply : Type 0 where
  shows : List ℕ → Reply
  excepted : ℕ → Reply

-- how many values a reply to it shows
abbrev pub shown_count : Ask → ℕ
shown_count (read t s n) = n
shown_count (write k a v) = 0
shown_count (writes k s vs) = 0
shown_count (masks a x y) = 0
shown_count (swaps r n s vs) = n

-- and of which kind they are
abbrev pub kind_shown : Ask → Kind
kind_shown (read t s n) = kind_of t
kind_shown (write k a v) = k
kind_shown (writes k s vs) = k
kind_shown (masks a x y) = word
kind_shown (swaps r n s vs) = word

-- an exception to it (APP 7): three bytes, the function's number with its highest bit set, and a code from 1 on
abbrev pub Excepts : Ask → List ℕ → Type 0
Excepts a b = (length b ≡ 3) × ((get_or b 1 0 ≡ code (fn_of a) + 128) × (1 ≤ get_or b 2 0))

unfoldable pub excepts? : (a : Ask) (b : List ℕ) → Dec (Excepts a b)
excepts? a b = (length b ≟ 3) and? (get_or b 1 0 ≟ code (fn_of a) + 128) and? (1 ≤? get_or b 2 0)

-- a body that brings cells: the function, the byte count that the cells asked take, and as many bytes
abbrev pub Brings : ℕ → ℕ → List ℕ → Type 0
Brings function n b = (length b ≡ 3 + n) × ((get_or b 1 0 ≡ function) × (get_or b 2 0 ≡ n))

abbrev pub brings? : (function n : ℕ) (b : List ℕ) → Dec (Brings function n b)
brings? function n b = (length b ≟ 3 + n) and? (get_or b 1 0 ≟ function) and? (get_or b 2 0 ≟ n)

-- an answer to it: of a read, and of a write and read, the cells; of a write the first six bytes of its body again, of a mask write its eight
abbrev pub Answers : Ask → List ℕ → List ℕ → Type 0
Answers (read t s n) sent b = Brings (code (reads t)) (octets (kind_of t) n) b
Answers (write k a v) sent b = b ≡ take 6 sent
Answers (writes k s vs) sent b = b ≡ take 6 sent
Answers (masks a x y) sent b = b ≡ take 8 sent
Answers (swaps r n s vs) sent b = Brings (code both) (octets word n) b

unfoldable pub answers? : (a : Ask) (sent b : List ℕ) → Dec (Answers a sent b)
answers? (read t s n) sent b = brings? (code (reads t)) (octets (kind_of t) n) b
answers? (write k a v) sent b = same? b (take 6 sent)
answers? (writes k s vs) sent b = same? b (take 6 sent)
answers? (masks a x y) sent b = same? b (take 8 sent)
answers? (swaps r n s vs) sent b = brings? (code both) (octets word n) b

-- the values that an answer holds; pad bits are not looked at
abbrev pub held_in : Ask → List ℕ → List ℕ
held_in (read t s n) b = values (kind_of t) n (drop 3 b)
held_in (write k a v) b = []
held_in (writes k s vs) b = []
held_in (masks a x y) b = []
held_in (swaps r n s vs) b = values word n (drop 3 b)

abbrev pub answered : Ask → List ℕ → List ℕ → Step Declined Reply
answered a sent b = need (answers? a sent b) not_my_reply >> go (shows (held_in a b))

abbrev pub heard : Ask → List ℕ → List ℕ → Step Declined Reply
heard a sent b = choose (excepts? a b) (go (excepted (get_or b 2 0))) (answered a sent b)

-- of the same transaction and unit
abbrev pub Mine : Message → Message → Type 0
Mine m r = (r.tag ≡ m.tag) × (unit_of r ≡ unit_of m)

abbrev pub mine? : (m r : Message) → Dec (Mine m r)
mine? m r = same? r.tag m.tag and? (unit_of r ≟ unit_of m)

-- what a frame says as a reply to this message, which asks this, where there is room for so many values
abbrev pub replied : ℕ → Message → Ask → List ℕ → ℕ → Step Declined Reply
replied n m a r room = do
  need (shown_count a ≤? room) (silent no_room_quiet)
  reply ← or_silent (unwrap (proto_of n) r)
  need (mine? m reply) not_my_reply
  heard a m.body reply.body

-- and as a reply to a request's frame
unfoldable pub understood : ℕ → List ℕ → List ℕ → ℕ → Step Declined Reply
understood n f r room = do
  need (n ≤? 2) bad_request
  q ← sent_as n f
  replied n q.0 q.1 r room

-- the answer in numbers, and what the lent values then are: those shown in front, and else all as lent
abbrev pub read_into : List ℕ → Step Declined Reply → Reading × List ℕ
read_into out (go (shows vs)) = (record { count = length vs; outcome = 0; code = 0 }, sets out 0 vs)
read_into out (go (excepted c)) = (record { count = 0; outcome = 2; code = c }, out)
read_into out (stop x) = (record { count = 0; outcome = declined_by x; code = 0 }, out)
