-- The asking side's cases as data, with both sides of each of its numbers: frames to be built, and replies to be read. Unit 1 is asked.
-- Assumes nothing.
use Rattle.std.specs.Prelude.{List, [], ◌∷◌, ℕ, length, replicate}
use Rattle.modbus.specs.Step.{Step, stop, go}
use Rattle.modbus.specs.Request.{masks, swaps}
use Rattle.client.specs.declared.ModbusRequest.{ModbusRequest}
use Rattle.client.specs.Asking.{Declined, declined_by, getting, setting, generated, Reply, shows, excepted, understood}
use Rattle.asking.specs.Impostors.{two_asked, one_sent}

-- what a case says: of a transport, a transaction number, a function, a first cell, a count or values, and room, the kind and the frame; so of a
-- holding and two masks, and of cells to read and to write; of a transport, a request, a reply and room, the outcome, the code and the values; and
-- of such a request without its frame only the kind and length
pub data Case : Type 0 where
  get : ℕ → ℕ → ℕ → ℕ → ℕ → ℕ → ℕ → List ℕ → Case
  set : ℕ → ℕ → ℕ → ℕ → List ℕ → ℕ → ℕ → List ℕ → Case
  change : ℕ → ℕ → ℕ → ℕ → ℕ → ℕ → ℕ → List ℕ → Case
  swap : ℕ → ℕ → ℕ → ℕ → ℕ → List ℕ → ℕ → ℕ → List ℕ → Case
  long : ℕ → ℕ → ℕ → List ℕ → ℕ → ℕ → ℕ → Case
  long_swap : ℕ → ℕ → ℕ → ℕ → List ℕ → ℕ → ℕ → ℕ → Case
  hear : ℕ → List ℕ → List ℕ → ℕ → ℕ → ℕ → List ℕ → Case

abbrev to : ℕ → ℕ → ModbusRequest
to n tr = record { tr_id = tr; unit_id = 1; proto = n }

abbrev kind_of : Step Declined (List ℕ) → ℕ
kind_of (go f) = 0
kind_of (stop x) = declined_by x

abbrev frame_of : Step Declined (List ℕ) → List ℕ
frame_of (go f) = f
frame_of (stop x) = []

-- the same as the definitions give it
abbrev heard_as : ℕ → List ℕ → List ℕ → ℕ → Step Declined Reply → Case
heard_as n f r room (go (shows vs)) = hear n f r room 0 0 vs
heard_as n f r room (go (excepted c)) = hear n f r room 2 c []
heard_as n f r room (stop x) = hear n f r room (declined_by x) 0 []

abbrev pub computed : Case → Case
computed (get n tr func reg count room k f) =
    let s = generated (to n tr) (getting n func reg count) room in
    get n tr func reg count room (kind_of s) (frame_of s)
computed (set n tr func reg vs room k f) =
    let s = generated (to n tr) (setting n func reg vs) room in
    set n tr func reg vs room (kind_of s) (frame_of s)
computed (change n tr reg x y room k f) =
    let s = generated (to n tr) (go (masks reg x y)) room in
    change n tr reg x y room (kind_of s) (frame_of s)
computed (swap n tr reg count at vs room k f) =
    let s = generated (to n tr) (go (swaps reg count at vs)) room in
    swap n tr reg count at vs room (kind_of s) (frame_of s)
computed (long n func reg vs room k l) =
    let s = generated (to n 0) (setting n func reg vs) room in
    long n func reg vs room (kind_of s) (length (frame_of s))
computed (long_swap n reg count at vs room k l) =
    let s = generated (to n 0) (go (swaps reg count at vs)) room in
    long_swap n reg count at vs room (kind_of s) (length (frame_of s))
computed (hear n f r room o c vs) = heard_as n f r room (understood n f r room)

-- ---- building

-- `:010300000002FA`
abbrev pub case_j : List ℕ
case_j = 58 ∷ 48 ∷ 49 ∷ 48 ∷ 51 ∷ 48 ∷ 48 ∷ 48 ∷ 48 ∷ 48 ∷ 48 ∷ 48 ∷ 50 ∷ 70 ∷ 65 ∷ 13 ∷ 10 ∷ []

abbrev pub ten : List ℕ
ten = 1 ∷ 0 ∷ 1 ∷ 1 ∷ 0 ∷ 0 ∷ 1 ∷ 1 ∷ 1 ∷ 0 ∷ []

abbrev pub building : List Case
building =
    -- document 01's cases a and j, and a on RTU; with room for exactly the frame, and for a byte less
    get 2 7 3 0 2 12 0 two_asked
    ∷ get 2 7 3 0 2 11 9 []
    ∷ get 0 7 3 0 2 8 0 (0x01 ∷ 0x03 ∷ 0x00 ∷ 0x00 ∷ 0x00 ∷ 0x02 ∷ 0xC4 ∷ 0x0B ∷ [])
    ∷ get 0 7 3 0 2 7 9 []
    ∷ get 1 7 3 0 2 17 0 case_j
    ∷ get 1 7 3 0 2 16 9 []
    -- case f, over TCP and RTU; case d, and the same coil off
    ∷ set 2 12 15 3 ten 15 0
    (0x00 ∷ 0x0C ∷ 0x00 ∷ 0x00 ∷ 0x00 ∷ 0x09 ∷ 0x01 ∷ 0x0F ∷ 0x00 ∷ 0x03 ∷ 0x00 ∷ 0x0A ∷ 0x02 ∷ 0xCD ∷ 0x01 ∷ [])
    ∷ set 0 12 15 3 ten 11 0 (0x01 ∷ 0x0F ∷ 0x00 ∷ 0x03 ∷ 0x00 ∷ 0x0A ∷ 0x02 ∷ 0xCD ∷ 0x01 ∷ 0x70 ∷ 0x5B ∷ [])
    ∷ set 2 10 5 9 (1 ∷ []) 12 0 (0x00 ∷ 0x0A ∷ 0x00 ∷ 0x00 ∷ 0x00 ∷ 0x06 ∷ 0x01 ∷ 0x05 ∷ 0x00 ∷ 0x09 ∷ 0xFF ∷ 0x00 ∷ [])
    ∷ set 2 10 5 9 (0 ∷ []) 12 0 (0x00 ∷ 0x0A ∷ 0x00 ∷ 0x00 ∷ 0x00 ∷ 0x06 ∷ 0x01 ∷ 0x05 ∷ 0x00 ∷ 0x09 ∷ 0x00 ∷ 0x00 ∷ [])
    ∷ set 2 10 5 9 (2 ∷ []) 12 11 []
    -- one value for 5 and 6, neither fewer nor more; a register holds up to 65,535
    ∷ set 2 10 5 9 [] 12 11 []
    ∷ set 2 10 6 9 (1 ∷ 2 ∷ []) 12 11 []
    ∷ set 2 14 6 2 (0x1234 ∷ []) 12 0 (0x00 ∷ 0x0E ∷ 0x00 ∷ 0x00 ∷ 0x00 ∷ 0x06 ∷ 0x01 ∷ 0x06 ∷ 0x00 ∷ 0x02 ∷ 0x12 ∷ 0x34 ∷ [])
    ∷ long 2 6 2 (65535 ∷ []) 12 0 12
    ∷ long 2 6 2 (65536 ∷ []) 12 11 0
    ∷ set 2 13 16 0 (0x0001 ∷ 0xABCD ∷ []) 17 0
    (0x00 ∷ 0x0D ∷ 0x00 ∷ 0x00 ∷ 0x00 ∷ 0x0B ∷ 0x01 ∷ 0x10 ∷ 0x00 ∷ 0x00 ∷ 0x00 ∷ 0x02 ∷ 0x04 ∷ 0x00 ∷ 0x01 ∷ 0xAB ∷ 0xCD ∷ [])
    -- a value among many that is no coil's
    ∷ long 2 15 0 (1 ∷ 0 ∷ 2 ∷ []) 260 11 0
    -- the last cell, and one beyond it
    ∷ get 2 0 3 65535 1 12 0 (0x00 ∷ 0x00 ∷ 0x00 ∷ 0x00 ∷ 0x00 ∷ 0x06 ∷ 0x01 ∷ 0x03 ∷ 0xFF ∷ 0xFF ∷ 0x00 ∷ 0x01 ∷ [])
    ∷ get 2 0 3 65535 2 12 11 []
    ∷ long 2 6 65535 (1 ∷ []) 12 0 12
    ∷ long 2 15 65535 (1 ∷ []) 14 0 14
    ∷ long 2 15 65535 (1 ∷ 1 ∷ []) 14 11 0
    -- transports 0 to 2, functions 1 to 4 and 5, 6, 15, 16
    ∷ get 3 7 3 0 2 300 11 []
    ∷ get 2 0 0 0 1 12 11 []
    ∷ get 2 0 1 0 1 12 0 (0x00 ∷ 0x00 ∷ 0x00 ∷ 0x00 ∷ 0x00 ∷ 0x06 ∷ 0x01 ∷ 0x01 ∷ 0x00 ∷ 0x00 ∷ 0x00 ∷ 0x01 ∷ [])
    ∷ get 2 0 4 0 1 12 0 (0x00 ∷ 0x00 ∷ 0x00 ∷ 0x00 ∷ 0x00 ∷ 0x06 ∷ 0x01 ∷ 0x04 ∷ 0x00 ∷ 0x00 ∷ 0x00 ∷ 0x01 ∷ [])
    ∷ get 2 0 5 0 1 12 11 []
    ∷ get 2 0 15 0 1 12 11 []
    ∷ long 2 4 0 (1 ∷ []) 12 11 0
    ∷ long 2 7 0 (1 ∷ []) 12 11 0
    ∷ long 2 14 0 (1 ∷ []) 14 11 0
    ∷ long 2 17 0 (1 ∷ []) 15 11 0
    ∷ long 3 6 0 (1 ∷ []) 300 11 0
    -- counts: 1 to 2000 for 1 and 2, 1 to 125 for 3 and 4
    ∷ get 2 0 1 0 0 12 11 []
    ∷ get 2 0 1 0 2000 12 0 (0x00 ∷ 0x00 ∷ 0x00 ∷ 0x00 ∷ 0x00 ∷ 0x06 ∷ 0x01 ∷ 0x01 ∷ 0x00 ∷ 0x00 ∷ 0x07 ∷ 0xD0 ∷ [])
    ∷ get 2 0 1 0 2001 12 11 []
    ∷ get 2 0 2 0 2000 12 0 (0x00 ∷ 0x00 ∷ 0x00 ∷ 0x00 ∷ 0x00 ∷ 0x06 ∷ 0x01 ∷ 0x02 ∷ 0x00 ∷ 0x00 ∷ 0x07 ∷ 0xD0 ∷ [])
    ∷ get 2 0 2 0 2001 12 11 []
    ∷ get 2 0 3 0 0 12 11 []
    ∷ get 2 0 3 0 125 12 0 (0x00 ∷ 0x00 ∷ 0x00 ∷ 0x00 ∷ 0x00 ∷ 0x06 ∷ 0x01 ∷ 0x03 ∷ 0x00 ∷ 0x00 ∷ 0x00 ∷ 0x7D ∷ [])
    ∷ get 2 0 3 0 126 12 11 []
    ∷ get 2 0 4 0 125 12 0 (0x00 ∷ 0x00 ∷ 0x00 ∷ 0x00 ∷ 0x00 ∷ 0x06 ∷ 0x01 ∷ 0x04 ∷ 0x00 ∷ 0x00 ∷ 0x00 ∷ 0x7D ∷ [])
    ∷ get 2 0 4 0 126 12 11 []
    -- 1 to 1968 for 15, 1 to 123 for 16; the longest frames of each transport, with room for exactly them
    ∷ long 2 15 0 [] 260 11 0
    ∷ long 2 15 0 (replicate 1968 1) 259 0 259
    ∷ long 2 15 0 (replicate 1968 1) 258 9 0
    ∷ long 2 15 0 (replicate 1969 1) 260 11 0
    ∷ long 2 16 0 [] 260 11 0
    ∷ long 2 16 0 (replicate 123 1) 259 0 259
    ∷ long 2 16 0 (replicate 124 1) 262 11 0
    ∷ long 0 16 0 (replicate 123 1) 255 0 255
    ∷ long 1 16 0 (replicate 123 1) 511 0 511
    ∷ long 1 16 0 (replicate 123 1) 510 9 0
    -- 22 (document 02, 2026-05), with room for exactly the frame and for a byte less, on RTU, at the last cell and one beyond it; masks up to 65,535
    ∷ change 2 0x18 2 0x00F2 0x0025 14 0 (0x00 ∷ 0x18 ∷ 0x00 ∷ 0x00 ∷ 0x00 ∷ 0x08 ∷ 0x01 ∷ 0x16 ∷ 0x00 ∷ 0x02 ∷ 0x00 ∷ 0xF2 ∷ 0x00 ∷ 0x25 ∷ [])
    ∷ change 2 0x18 2 0x00F2 0x0025 13 9 []
    ∷ change 0 0x18 2 0x00F2 0x0025 10 0 (0x01 ∷ 0x16 ∷ 0x00 ∷ 0x02 ∷ 0x00 ∷ 0xF2 ∷ 0x00 ∷ 0x25 ∷ 0xEF ∷ 0xEE ∷ [])
    ∷ change 2 0 65535 65535 65535 14 0 (0x00 ∷ 0x00 ∷ 0x00 ∷ 0x00 ∷ 0x00 ∷ 0x08 ∷ 0x01 ∷ 0x16 ∷ 0xFF ∷ 0xFF ∷ 0xFF ∷ 0xFF ∷ 0xFF ∷ 0xFF ∷ [])
    ∷ change 2 0 65536 0 0 14 11 []
    ∷ change 2 0 0 65536 0 14 11 []
    ∷ change 2 0 0 0 65536 14 11 []
    ∷ change 3 0 0 0 0 14 11 []
    -- 23: the frame, the last cells, and each count on both sides; the longest on each transport
    ∷ swap 2 0x19 0 3 1 (0xAAAA ∷ 0xBBBB ∷ []) 21 0
    (0x00 ∷ 0x19 ∷ 0x00 ∷ 0x00 ∷ 0x00 ∷ 0x0F ∷ 0x01 ∷ 0x17 ∷ 0x00 ∷ 0x00 ∷ 0x00 ∷ 0x03 ∷ 0x00 ∷ 0x01 ∷ 0x00 ∷ 0x02 ∷ 0x04 ∷ 0xAA ∷ 0xAA ∷ 0xBB ∷ 0xBB ∷ [])
    ∷ swap 2 0x19 0 3 1 (0xAAAA ∷ 0xBBBB ∷ []) 20 9 []
    ∷ swap 0 0x19 0 3 1 (0xAAAA ∷ 0xBBBB ∷ []) 17 0
    (0x01 ∷ 0x17 ∷ 0x00 ∷ 0x00 ∷ 0x00 ∷ 0x03 ∷ 0x00 ∷ 0x01 ∷ 0x00 ∷ 0x02 ∷ 0x04 ∷ 0xAA ∷ 0xAA ∷ 0xBB ∷ 0xBB ∷ 0x64 ∷ 0x32 ∷ [])
    ∷ long_swap 2 65535 1 65535 (65535 ∷ []) 19 0 19
    ∷ long_swap 2 65535 2 0 (1 ∷ []) 260 11 0
    ∷ long_swap 2 0 1 65535 (1 ∷ 1 ∷ []) 260 11 0
    ∷ long_swap 2 0 1 0 (65536 ∷ []) 260 11 0
    ∷ long_swap 2 0 0 0 (1 ∷ []) 260 11 0
    ∷ long_swap 2 0 125 0 (1 ∷ []) 260 0 19
    ∷ long_swap 2 0 126 0 (1 ∷ []) 260 11 0
    ∷ long_swap 2 0 1 0 [] 260 11 0
    ∷ long_swap 2 0 125 0 (replicate 121 1) 259 0 259
    ∷ long_swap 2 0 125 0 (replicate 121 1) 258 9 0
    ∷ long_swap 2 0 125 0 (replicate 122 1) 262 11 0
    ∷ long_swap 0 0 125 0 (replicate 121 1) 255 0 255
    ∷ long_swap 1 0 125 0 (replicate 121 1) 511 0 511
    ∷ long_swap 3 0 1 0 (1 ∷ []) 260 11 0
    -- which have builders of their own
    ∷ get 2 0 22 0 1 260 11 []
    ∷ get 2 0 23 0 1 260 11 []
    ∷ long 2 22 0 (1 ∷ []) 260 11 0
    ∷ long 2 23 0 (1 ∷ []) 260 11 0
    ∷ []

-- ---- reading

-- a TCP frame of transaction 7 around a body of fewer than 250 bytes
abbrev pub reply : List ℕ → List ℕ
reply b = 0x00 ∷ 0x07 ∷ 0x00 ∷ 0x00 ∷ 0x00 ∷ length b ∷ b

-- ten coils from 3 on
abbrev pub coils_asked : List ℕ
coils_asked = reply (0x01 ∷ 0x01 ∷ 0x00 ∷ 0x03 ∷ 0x00 ∷ 0x0A ∷ [])

abbrev pub register_set : List ℕ
register_set = reply (0x01 ∷ 0x06 ∷ 0x00 ∷ 0x02 ∷ 0x12 ∷ 0x34 ∷ [])

abbrev pub coils_set : List ℕ
coils_set = reply (0x01 ∷ 0x0F ∷ 0x00 ∷ 0x03 ∷ 0x00 ∷ 0x0A ∷ 0x02 ∷ 0xCD ∷ 0x01 ∷ [])

abbrev pub mask_sent : List ℕ
mask_sent = reply (0x01 ∷ 0x16 ∷ 0x00 ∷ 0x02 ∷ 0x00 ∷ 0xF2 ∷ 0x00 ∷ 0x25 ∷ [])

abbrev pub both_sent : List ℕ
both_sent = reply (0x01 ∷ 0x17 ∷ 0x00 ∷ 0x00 ∷ 0x00 ∷ 0x03 ∷ 0x00 ∷ 0x01 ∷ 0x00 ∷ 0x02 ∷ 0x04 ∷ 0xAA ∷ 0xAA ∷ 0xBB ∷ 0xBB ∷ [])

abbrev pub rtu_asked : List ℕ
rtu_asked = 0x01 ∷ 0x03 ∷ 0x00 ∷ 0x00 ∷ 0x00 ∷ 0x02 ∷ 0xC4 ∷ 0x0B ∷ []

abbrev pub reading : List Case
reading =
    -- document 01's case a and its reply
    hear 2 two_asked (reply (0x01 ∷ 0x03 ∷ 0x04 ∷ 0x01 ∷ 0x02 ∷ 0x03 ∷ 0x04 ∷ [])) 2 0 0 (0x0102 ∷ 0x0304 ∷ [])
    -- another transaction, unit, function, byte count; a byte more than the count says
    ∷ hear 2 two_asked (0x00 ∷ 0x08 ∷ 0x00 ∷ 0x00 ∷ 0x00 ∷ 0x07 ∷ 0x01 ∷ 0x03 ∷ 0x04 ∷ 0x01 ∷ 0x02 ∷ 0x03 ∷ 0x04 ∷ []) 2 12 0 []
    ∷ hear 2 two_asked (0x01 ∷ 0x07 ∷ 0x00 ∷ 0x00 ∷ 0x00 ∷ 0x07 ∷ 0x01 ∷ 0x03 ∷ 0x04 ∷ 0x01 ∷ 0x02 ∷ 0x03 ∷ 0x04 ∷ []) 2 12 0 []
    ∷ hear 2 two_asked (reply (0x02 ∷ 0x03 ∷ 0x04 ∷ 0x01 ∷ 0x02 ∷ 0x03 ∷ 0x04 ∷ [])) 2 12 0 []
    ∷ hear 2 two_asked (reply (0x01 ∷ 0x04 ∷ 0x04 ∷ 0x01 ∷ 0x02 ∷ 0x03 ∷ 0x04 ∷ [])) 2 12 0 []
    ∷ hear 2 two_asked one_sent 2 12 0 []
    ∷ hear 2 two_asked (reply (0x01 ∷ 0x03 ∷ 0x02 ∷ 0x01 ∷ 0x02 ∷ 0x03 ∷ 0x04 ∷ [])) 2 12 0 []
    ∷ hear 2 two_asked (reply (0x01 ∷ 0x03 ∷ 0x04 ∷ 0x01 ∷ 0x02 ∷ 0x03 ∷ 0x04 ∷ 0x05 ∷ [])) 2 12 0 []
    -- exceptions: of this function, with a code from 1 to 255
    ∷ hear 2 two_asked (reply (0x01 ∷ 0x83 ∷ 0x02 ∷ [])) 2 2 2 []
    ∷ hear 2 two_asked (reply (0x01 ∷ 0x83 ∷ 0x01 ∷ [])) 2 2 1 []
    ∷ hear 2 two_asked (reply (0x01 ∷ 0x83 ∷ 0xFF ∷ [])) 2 2 255 []
    ∷ hear 2 two_asked (reply (0x01 ∷ 0x83 ∷ 0x00 ∷ [])) 2 12 0 []
    ∷ hear 2 two_asked (reply (0x01 ∷ 0x84 ∷ 0x02 ∷ [])) 2 12 0 []
    ∷ hear 2 two_asked (reply (0x01 ∷ 0x83 ∷ 0x02 ∷ 0x00 ∷ [])) 2 12 0 []
    -- no room comes before the reply is looked at
    ∷ hear 2 two_asked (reply (0x01 ∷ 0x03 ∷ 0x04 ∷ 0x01 ∷ 0x02 ∷ 0x03 ∷ 0x04 ∷ [])) 1 9 0 []
    ∷ hear 2 two_asked (reply (0x01 ∷ 0x83 ∷ 0x02 ∷ [])) 1 9 0 []
    ∷ hear 2 two_asked [] 1 9 0 []
    -- a transport above 2, and what is no request: a count of 0, an exception, a frame cut short, cells beyond 65,535
    ∷ hear 3 two_asked (reply (0x01 ∷ 0x83 ∷ 0x02 ∷ [])) 2 11 0 []
    ∷ hear 2 (reply (0x01 ∷ 0x03 ∷ 0x00 ∷ 0x00 ∷ 0x00 ∷ 0x00 ∷ [])) (reply (0x01 ∷ 0x83 ∷ 0x02 ∷ [])) 2 11 0 []
    ∷ hear 2 (reply (0x01 ∷ 0x83 ∷ 0x02 ∷ [])) (reply (0x01 ∷ 0x83 ∷ 0x02 ∷ [])) 2 11 0 []
    ∷ hear 2 (0x00 ∷ 0x07 ∷ []) (reply (0x01 ∷ 0x83 ∷ 0x02 ∷ [])) 2 11 0 []
    ∷ hear 2 (reply (0x01 ∷ 0x03 ∷ 0xFF ∷ 0xFF ∷ 0x00 ∷ 0x02 ∷ [])) (reply (0x01 ∷ 0x83 ∷ 0x02 ∷ [])) 2 11 0 []
    -- a reply that is no frame
    ∷ hear 2 two_asked (0x00 ∷ 0x07 ∷ 0x00 ∷ 0x00 ∷ 0x00 ∷ 0x04 ∷ 0x01 ∷ 0x83 ∷ 0x02 ∷ []) 2 5 0 []
    -- pad bits are not looked at
    ∷ hear 2 coils_asked (reply (0x01 ∷ 0x01 ∷ 0x02 ∷ 0xCD ∷ 0x01 ∷ [])) 10 0 0 ten
    ∷ hear 2 coils_asked (reply (0x01 ∷ 0x01 ∷ 0x02 ∷ 0xCD ∷ 0xFD ∷ [])) 10 0 0 ten
    -- the echo of a write, which needs no room, and others: each of its six bytes, one less, one more
    ∷ hear 2 register_set register_set 0 0 0 []
    ∷ hear 2 register_set (reply (0x01 ∷ 0x06 ∷ 0x00 ∷ 0x02 ∷ 0x12 ∷ 0x35 ∷ [])) 0 12 0 []
    ∷ hear 2 register_set (reply (0x01 ∷ 0x06 ∷ 0x00 ∷ 0x02 ∷ 0x13 ∷ 0x34 ∷ [])) 0 12 0 []
    ∷ hear 2 register_set (reply (0x01 ∷ 0x06 ∷ 0x00 ∷ 0x03 ∷ 0x12 ∷ 0x34 ∷ [])) 0 12 0 []
    ∷ hear 2 register_set (reply (0x01 ∷ 0x06 ∷ 0x01 ∷ 0x02 ∷ 0x12 ∷ 0x34 ∷ [])) 0 12 0 []
    ∷ hear 2 register_set (reply (0x01 ∷ 0x05 ∷ 0x00 ∷ 0x02 ∷ 0x12 ∷ 0x34 ∷ [])) 0 12 0 []
    ∷ hear 2 register_set (reply (0x01 ∷ 0x06 ∷ 0x00 ∷ 0x02 ∷ 0x12 ∷ [])) 0 12 0 []
    ∷ hear 2 register_set (reply (0x01 ∷ 0x06 ∷ 0x00 ∷ 0x02 ∷ 0x12 ∷ 0x34 ∷ 0x00 ∷ [])) 0 12 0 []
    ∷ hear 2 coils_set (reply (0x01 ∷ 0x0F ∷ 0x00 ∷ 0x03 ∷ 0x00 ∷ 0x0A ∷ [])) 0 0 0 []
    ∷ hear 2 coils_set coils_set 0 12 0 []
    -- the eight bytes of a mask write, each of its masks, one byte less and one more, and its exception
    ∷ hear 2 mask_sent mask_sent 0 0 0 []
    ∷ hear 2 mask_sent (reply (0x01 ∷ 0x16 ∷ 0x00 ∷ 0x02 ∷ 0x00 ∷ 0xF2 ∷ 0x00 ∷ 0x26 ∷ [])) 0 12 0 []
    ∷ hear 2 mask_sent (reply (0x01 ∷ 0x16 ∷ 0x00 ∷ 0x02 ∷ 0x00 ∷ 0xF2 ∷ 0x01 ∷ 0x25 ∷ [])) 0 12 0 []
    ∷ hear 2 mask_sent (reply (0x01 ∷ 0x16 ∷ 0x00 ∷ 0x02 ∷ 0x00 ∷ 0xF3 ∷ 0x00 ∷ 0x25 ∷ [])) 0 12 0 []
    ∷ hear 2 mask_sent (reply (0x01 ∷ 0x16 ∷ 0x00 ∷ 0x03 ∷ 0x00 ∷ 0xF2 ∷ 0x00 ∷ 0x25 ∷ [])) 0 12 0 []
    ∷ hear 2 mask_sent (reply (0x01 ∷ 0x16 ∷ 0x00 ∷ 0x02 ∷ 0x00 ∷ 0xF2 ∷ [])) 0 12 0 []
    ∷ hear 2 mask_sent (reply (0x01 ∷ 0x16 ∷ 0x00 ∷ 0x02 ∷ 0x00 ∷ 0xF2 ∷ 0x00 ∷ [])) 0 12 0 []
    ∷ hear 2 mask_sent (reply (0x01 ∷ 0x16 ∷ 0x00 ∷ 0x02 ∷ 0x00 ∷ 0xF2 ∷ 0x00 ∷ 0x25 ∷ 0x00 ∷ [])) 0 12 0 []
    ∷ hear 2 mask_sent (reply (0x01 ∷ 0x96 ∷ 0x02 ∷ [])) 0 2 2 []
    ∷ hear 2 mask_sent (reply (0x01 ∷ 0x97 ∷ 0x02 ∷ [])) 0 12 0 []
    -- the cells that 23 reads: its own function and byte count, and room for them
    ∷ hear 2 both_sent (reply (0x01 ∷ 0x17 ∷ 0x06 ∷ 0x01 ∷ 0x02 ∷ 0xAA ∷ 0xAA ∷ 0xBB ∷ 0xBB ∷ [])) 3 0 0 (0x0102 ∷ 0xAAAA ∷ 0xBBBB ∷ [])
    ∷ hear 2 both_sent (reply (0x01 ∷ 0x17 ∷ 0x06 ∷ 0x01 ∷ 0x02 ∷ 0xAA ∷ 0xAA ∷ 0xBB ∷ 0xBB ∷ [])) 2 9 0 []
    ∷ hear 2 both_sent (reply (0x01 ∷ 0x03 ∷ 0x06 ∷ 0x01 ∷ 0x02 ∷ 0xAA ∷ 0xAA ∷ 0xBB ∷ 0xBB ∷ [])) 3 12 0 []
    ∷ hear 2 both_sent (reply (0x01 ∷ 0x17 ∷ 0x04 ∷ 0x01 ∷ 0x02 ∷ 0xAA ∷ 0xAA ∷ [])) 3 12 0 []
    ∷ hear 2 both_sent (reply (0x01 ∷ 0x17 ∷ 0x04 ∷ 0x01 ∷ 0x02 ∷ 0xAA ∷ 0xAA ∷ 0xBB ∷ 0xBB ∷ [])) 3 12 0 []
    ∷ hear 2 both_sent (reply (0x01 ∷ 0x17 ∷ 0x06 ∷ 0x01 ∷ 0x02 ∷ 0xAA ∷ 0xAA ∷ 0xBB ∷ [])) 3 12 0 []
    ∷ hear 2 both_sent (reply (0x01 ∷ 0x17 ∷ 0x06 ∷ 0x01 ∷ 0x02 ∷ 0xAA ∷ 0xAA ∷ 0xBB ∷ 0xBB ∷ 0x00 ∷ [])) 3 12 0 []
    ∷ hear 2 both_sent (reply (0x01 ∷ 0x97 ∷ 0x02 ∷ [])) 3 2 2 []
    -- what is none: write counts of 0 and of another byte count, a body cut short
    ∷ hear 2 (reply (0x01 ∷ 0x17 ∷ 0x00 ∷ 0x00 ∷ 0x00 ∷ 0x01 ∷ 0x00 ∷ 0x00 ∷ 0x00 ∷ 0x00 ∷ 0x00 ∷ [])) (reply (0x01 ∷ 0x97 ∷ 0x02 ∷ [])) 3 11 0 []
    ∷ hear 2 (reply (0x01 ∷ 0x17 ∷ 0x00 ∷ 0x00 ∷ 0x00 ∷ 0x01 ∷ 0x00 ∷ 0x00 ∷ 0x00 ∷ 0x01 ∷ 0x04 ∷ 0x00 ∷ 0x00 ∷ 0x00 ∷ 0x00 ∷ [])) (reply (0x01 ∷ 0x97 ∷ 0x02 ∷ [])) 3 11 0 []
    ∷ hear 2 (reply (0x01 ∷ 0x16 ∷ 0x00 ∷ 0x02 ∷ 0x00 ∷ 0xF2 ∷ [])) (reply (0x01 ∷ 0x96 ∷ 0x02 ∷ [])) 3 11 0 []
    -- RTU, with its CRC right and wrong; ASCII
    ∷ hear 0 rtu_asked (0x01 ∷ 0x03 ∷ 0x04 ∷ 0x01 ∷ 0x02 ∷ 0x03 ∷ 0x04 ∷ 0x5B ∷ 0x3C ∷ []) 2 0 0 (0x0102 ∷ 0x0304 ∷ [])
    ∷ hear 0 rtu_asked (0x01 ∷ 0x03 ∷ 0x04 ∷ 0x01 ∷ 0x02 ∷ 0x03 ∷ 0x04 ∷ 0x5B ∷ 0x3D ∷ []) 2 6 0 []
    ∷ hear 1 case_j (58 ∷ 48 ∷ 49 ∷ 48 ∷ 51 ∷ 48 ∷ 52 ∷ 48 ∷ 49 ∷ 48 ∷ 50 ∷ 48 ∷ 51 ∷ 48 ∷ 52 ∷ 69 ∷ 69 ∷ 13 ∷ 10 ∷ []) 2 0 0 (0x0102 ∷ 0x0304 ∷ [])
    ∷ hear 1 case_j (58 ∷ 48 ∷ 49 ∷ 48 ∷ 51 ∷ 48 ∷ 52 ∷ 48 ∷ 49 ∷ 48 ∷ 50 ∷ 48 ∷ 51 ∷ 48 ∷ 52 ∷ 69 ∷ 70 ∷ 13 ∷ 10 ∷ []) 2 6 0 []
    ∷ []
