-- Document 01, module 3, its numbers and both sides of each: frames by their first bytes, and what the guess says, by computation over
-- the whole list.
-- Assumes nothing.
use mathlib.Core.Path.{◌≡◌, refl}
use mathlib.Core.List.{List, [], ◌∷◌, ◌++◌}
use mathlib.Core.Logic.Dec
use Prim.Native.Nat.{ℕ}
use native.Mathlib.Decide.{dec_le, ℕ_discrete}
use lib.ListN.{replicate, take}
use Rattle.modbus.specs.Step.{Step, ◌>>=◌, ◌>>◌, need, choose, ◌or?◌}
use Rattle.modbus.specs.Paper.{told}
use Rattle.modbus.specs.Hex.{digit, undigit, raised, spell, spelt, text}
use Rattle.modbus.specs.declared.ErrorKind.{ErrorKind}
use Rattle.modbus.specs.declared.ModbusProto.{ModbusProto}
use Rattle.modbus.specs.declared.ModbusProto.TheVariants.{Rtu, Ascii, TcpUdp}
use Rattle.ascii.specs.Reading.{onward, or_refused, second, pair, placed, decode, text_parsed}
use Rattle.lengths.specs.Guess.{request_body, response_body, in_byte, serial, guess, guess_under}

-- what is said of a body's first bytes, as they stand on the line
abbrev pub begun : ModbusProto → List ℕ → List ℕ
begun Rtu b = b
begun Ascii b = 58 ∷ text b
begun TcpUdp b = b

abbrev pub asked : ModbusProto → List ℕ → ℕ × ℕ
asked p b = told (guess request_body p (begun p b))

abbrev pub replied : ModbusProto → List ℕ → ℕ × ℕ
replied p b = told (guess response_body p (begun p b))

-- a request of 15 or 16 and a reply to a read with their byte count, and a TCP header with its length
abbrev pub many_of : ℕ → ℕ → List ℕ
many_of fn n = 1 ∷ fn ∷ 0 ∷ 0 ∷ 0 ∷ 8 ∷ n ∷ []

abbrev pub reply_of : ℕ → ℕ → List ℕ
reply_of fn n = 1 ∷ fn ∷ n ∷ []

abbrev pub head_of : ℕ → List ℕ
head_of n = 0 ∷ 7 ∷ 0 ∷ 0 ∷ 0 ∷ n ∷ []

-- a row for each number, one side of it and the other: the largest byte counts and header length, which make a frame of 255 bytes, and
-- one more; an unknown function, in a request on both serial lines, in a reply with two bytes known and with three, and from 128 on; how many
-- bytes tell a length, and one less; the functions on both sides of those that are known; a header whose protocol is not 0; functions 22 and 23,
-- which the crate does not know: six bytes in a request, none in a reply
pub boundaries :
    ◌≡◌ {A = List ((ℕ × ℕ) × (ℕ × ℕ))}
    ((asked Rtu (many_of 15 246), asked Rtu (many_of 15 247))
    ∷ (asked Rtu (many_of 16 246), asked Rtu (many_of 16 247))
    ∷ (asked Ascii (many_of 15 118), asked Ascii (many_of 15 119))
    ∷ (asked Ascii (many_of 16 118), asked Ascii (many_of 16 119))
    ∷ (replied Rtu (reply_of 1 250), replied Rtu (reply_of 1 251))
    ∷ (replied Rtu (reply_of 4 250), replied Rtu (reply_of 4 251))
    ∷ (replied Ascii (reply_of 1 122), replied Ascii (reply_of 1 123))
    ∷ (replied Ascii (reply_of 4 122), replied Ascii (reply_of 4 123))
    ∷ (asked TcpUdp (head_of 249), asked TcpUdp (head_of 250))
    ∷ (replied TcpUdp (head_of 249), replied TcpUdp (head_of 250))
    ∷ (asked Rtu (1 ∷ 43 ∷ []), asked Ascii (1 ∷ 43 ∷ []))
    ∷ (replied Rtu (1 ∷ 127 ∷ []), replied Rtu (1 ∷ 127 ∷ 0 ∷ []))
    ∷ (replied Rtu (1 ∷ 127 ∷ 0 ∷ []), replied Rtu (1 ∷ 128 ∷ []))
    ∷ (replied Ascii (1 ∷ 127 ∷ 0 ∷ []), replied Ascii (1 ∷ 128 ∷ []))
    ∷ (asked Rtu (1 ∷ []), asked Rtu (1 ∷ 3 ∷ []))
    ∷ (asked Rtu (take 6 (many_of 15 2)), asked Rtu (many_of 15 2))
    ∷ (replied Rtu (1 ∷ 3 ∷ []), replied Rtu (1 ∷ 3 ∷ 4 ∷ []))
    ∷ (replied Rtu (1 ∷ 4 ∷ 2 ∷ []), replied Rtu (1 ∷ 5 ∷ 2 ∷ []))
    ∷ (replied Rtu (1 ∷ 6 ∷ 2 ∷ []), replied Rtu (1 ∷ 7 ∷ 2 ∷ []))
    ∷ (replied Rtu (1 ∷ 14 ∷ 2 ∷ []), replied Rtu (1 ∷ 15 ∷ 2 ∷ []))
    ∷ (replied Rtu (1 ∷ 16 ∷ 2 ∷ []), replied Rtu (1 ∷ 17 ∷ 2 ∷ []))
    ∷ (asked Rtu (many_of 14 2), asked Rtu (many_of 17 2))
    ∷ (asked TcpUdp (take 5 (head_of 6)), asked TcpUdp (head_of 6))
    ∷ (replied TcpUdp (take 5 (head_of 3)), replied TcpUdp (head_of 3))
    ∷ (asked TcpUdp (head_of 0), asked TcpUdp (0 ∷ 7 ∷ 0 ∷ 1 ∷ 0 ∷ 6 ∷ []))
    ∷ (asked Rtu (1 ∷ 22 ∷ 0 ∷ 2 ∷ 0 ∷ 242 ∷ 0 ∷ 37 ∷ []), asked Rtu (1 ∷ 23 ∷ 0 ∷ 0 ∷ 0 ∷ 3 ∷ 0 ∷ 1 ∷ 0 ∷ 2 ∷ 4 ∷ []))
    ∷ (replied Rtu (1 ∷ 22 ∷ 0 ∷ 2 ∷ 0 ∷ 242 ∷ 0 ∷ 37 ∷ []), replied Rtu (reply_of 23 6))
    ∷ [])
    (replicate 10 ((0, 255), (23, 0))
    ++ ((0, 8), (0, 17)) ∷ ((21, 0), (23, 0)) ∷ ((23, 0), (0, 5)) ∷ ((23, 0), (0, 11))
    ∷ ((21, 0), (0, 8)) ∷ ((21, 0), (0, 11)) ∷ ((21, 0), (0, 9)) ∷ ((0, 7), (0, 8)) ∷ ((0, 8), (23, 0)) ∷ ((23, 0), (0, 8)) ∷ ((0, 8), (23, 0))
    ∷ ((0, 8), (0, 8)) ∷ ((21, 0), (0, 12)) ∷ ((21, 0), (0, 9)) ∷ ((0, 6), (23, 0)) ∷ ((0, 8), (0, 8))
    ∷ ((23, 0), (23, 0)) ∷ [])
unfolding Dec.and Dec.not dec_le ℕ_discrete ◌>>=◌ ◌>>◌ need choose ◌or?◌ digit undigit text onward or_refused second pair placed decode text_parsed request_body response_body in_byte serial guess
boundaries = refl

-- the text `:010f0000000801` and its capitals, and an RTU frame and a TCP header whose numbers would be letters in a text; under the switches 0,
-- 1 and 2
abbrev small : ℕ → List ℕ
small f = 58 ∷ 48 ∷ 49 ∷ 48 ∷ f ∷ 48 ∷ 48 ∷ 48 ∷ 48 ∷ 48 ∷ 48 ∷ 48 ∷ 56 ∷ 48 ∷ 49 ∷ []

abbrev under : (ℕ → Step ErrorKind ℕ) → (ℕ × ℕ) × (ℕ × ℕ) × (ℕ × ℕ)
under g = (told (g 0), told (g 1), told (g 2))

pub switches :
    ◌≡◌ {A = List ((ℕ × ℕ) × (ℕ × ℕ) × (ℕ × ℕ))}
    (under (λ h. guess_under h request_body Ascii (small 102))
    ∷ under (λ h. guess_under h request_body Ascii (small 70))
    ∷ under (λ h. guess_under h request_body Ascii (small 103))
    ∷ under (λ h. guess_under h response_body Ascii (58 ∷ 48 ∷ 49 ∷ 48 ∷ 51 ∷ 48 ∷ 97 ∷ []))
    ∷ under (λ h. guess_under h request_body Rtu (many_of 15 97))
    ∷ under (λ h. guess_under h response_body Rtu (reply_of 3 97))
    ∷ under (λ h. guess_under h request_body TcpUdp (head_of 97))
    ∷ under (λ h. guess_under h request_body Rtu [])
    ∷ [])
    (((23, 0), (0, 21), (21, 0))
    ∷ ((0, 21), (0, 21), (21, 0))
    ∷ ((23, 0), (23, 0), (21, 0))
    ∷ ((23, 0), (0, 31), (21, 0))
    ∷ ((0, 106), (0, 106), (21, 0))
    ∷ ((0, 102), (0, 102), (21, 0))
    ∷ ((0, 103), (0, 103), (21, 0))
    ∷ ((21, 0), (21, 0), (21, 0))
    ∷ [])
unfolding Dec.and Dec.not dec_le ℕ_discrete ◌>>=◌ ◌>>◌ need choose ◌or?◌ digit undigit raised spell spelt text onward or_refused second pair placed decode text_parsed request_body response_body in_byte serial guess
switches = refl
