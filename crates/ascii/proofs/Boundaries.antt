-- Document 01, module 2, its numbers and both sides of each: characters around the stop bytes, the position before and at 255, a line's
-- room; and document 02's switch, with the characters around the digits. By computation over the whole list.
-- Assumes nothing.
use Rattle.std.proofs.Common.{◌≡◌, ℕ, List, [], ◌∷◌, map, replicate, refl}
use mathlib.Core.Logic.Dec
use native.Mathlib.Decide.{dec_le, ℕ_discrete}
use Rattle.modbus.specs.Step.{◌>>=◌, ◌>>◌, need, choose, ◌or?◌}
use Rattle.modbus.specs.Hex.{digit, undigit, raised, spell, spelt, text}
use Rattle.ascii.specs.Reading.{onward, or_refused, second, pair, placed, decode, text_parsed, parsed_into, parsed_under, generated_into}

-- the text 01, a character, the text 02, into two bytes that are 255: the answer and the two bytes
abbrev stopping : ℕ → ℕ × ℕ × List ℕ
stopping c = let r = parsed_into (48 ∷ 49 ∷ c ∷ 48 ∷ 50 ∷ []) 5 (255 ∷ 255 ∷ []) 0 in (r.0.0, r.0.1, r.1)

-- LF, CR and NUL end the line, and no character beside them does, nor does a colon
pub stops :
    map stopping (0 ∷ 1 ∷ 9 ∷ 10 ∷ 11 ∷ 12 ∷ 13 ∷ 14 ∷ 58 ∷ [])
    ≡ (0, 1, 1 ∷ 255 ∷ [])
    ∷ (23, 0, 1 ∷ 255 ∷ [])
    ∷ (23, 0, 1 ∷ 255 ∷ [])
    ∷ (0, 1, 1 ∷ 255 ∷ [])
    ∷ (23, 0, 1 ∷ 255 ∷ [])
    ∷ (23, 0, 1 ∷ 255 ∷ [])
    ∷ (0, 1, 1 ∷ 255 ∷ [])
    ∷ (23, 0, 1 ∷ 255 ∷ [])
    ∷ (23, 0, 1 ∷ 255 ∷ [])
    ∷ []
unfolding Dec.and Dec.not dec_le ℕ_discrete ◌>>=◌ ◌>>◌ need choose ◌or?◌ undigit onward or_refused second pair placed decode text_parsed
stops = refl

-- a character, then the text 01: only a colon is passed over
abbrev beginning : ℕ → ℕ × ℕ
beginning c = (parsed_into (c ∷ 48 ∷ 49 ∷ []) 3 (255 ∷ 255 ∷ []) 0).0

pub begins : map beginning (57 ∷ 58 ∷ 59 ∷ []) ≡ (21, 0) ∷ (0, 1) ∷ (23, 0) ∷ []
unfolding Dec.and Dec.not dec_le ℕ_discrete ◌>>=◌ ◌>>◌ need choose ◌or?◌ undigit onward or_refused second pair placed decode text_parsed
begins = refl

-- one pair for the places 254 and 255 of a buffer of 256 bytes, and a stop byte at each; the room for a pair and one less
abbrev at : ℕ → ℕ → List ℕ → ℕ × ℕ
at place room l = (parsed_into l 2 (replicate room 0) place).0

pub places :
    ◌≡◌ {A = List ((ℕ × ℕ) × (ℕ × ℕ))}
    ((at 254 256 (48 ∷ 49 ∷ []), at 255 256 (48 ∷ 49 ∷ []))
    ∷ (at 254 256 (13 ∷ 10 ∷ []), at 255 256 (13 ∷ 10 ∷ []))
    ∷ (at 3 4 (48 ∷ 49 ∷ []), at 3 3 (48 ∷ 49 ∷ []))
    ∷ [])
    (((0, 1), (21, 0)) ∷ ((0, 0), (21, 0)) ∷ ((0, 1), (21, 0)) ∷ [])
unfolding Dec.and Dec.not dec_le ℕ_discrete ◌>>=◌ ◌>>◌ need choose ◌or?◌ undigit onward or_refused second pair placed decode text_parsed
places = refl

-- the text 0 and a character, under a switch, into two bytes that are 255: the answer and the two bytes
abbrev under : ℕ → ℕ → ℕ × ℕ × List ℕ
under hex c = let r = parsed_under hex (48 ∷ c ∷ []) 2 (255 ∷ 255 ∷ []) 0 in (r.0.0, r.0.1, r.1)

-- a character that is no digit
abbrev none : ℕ × ℕ × List ℕ
none = (23, 0, 255 ∷ 255 ∷ [])

pub strict :
    map (under 0) (47 ∷ 48 ∷ 57 ∷ 58 ∷ 64 ∷ 65 ∷ 70 ∷ 71 ∷ 96 ∷ 97 ∷ 102 ∷ 103 ∷ [])
    ≡ none
    ∷ (0, 1, 0 ∷ 255 ∷ [])
    ∷ (0, 1, 9 ∷ 255 ∷ [])
    ∷ none
    ∷ none
    ∷ (0, 1, 10 ∷ 255 ∷ [])
    ∷ (0, 1, 15 ∷ 255 ∷ [])
    ∷ none
    ∷ none
    ∷ none
    ∷ none
    ∷ none
    ∷ []
unfolding Dec.and Dec.not dec_le ℕ_discrete ◌>>=◌ ◌>>◌ need choose ◌or?◌ undigit raised spell spelt onward or_refused second pair placed decode text_parsed
strict = refl

pub lenient :
    map (under 1) (47 ∷ 48 ∷ 57 ∷ 58 ∷ 64 ∷ 65 ∷ 70 ∷ 71 ∷ 96 ∷ 97 ∷ 102 ∷ 103 ∷ [])
    ≡ none
    ∷ (0, 1, 0 ∷ 255 ∷ [])
    ∷ (0, 1, 9 ∷ 255 ∷ [])
    ∷ none
    ∷ none
    ∷ (0, 1, 10 ∷ 255 ∷ [])
    ∷ (0, 1, 15 ∷ 255 ∷ [])
    ∷ none
    ∷ none
    ∷ (0, 1, 10 ∷ 255 ∷ [])
    ∷ (0, 1, 15 ∷ 255 ∷ [])
    ∷ none
    ∷ []
unfolding Dec.and Dec.not dec_le ℕ_discrete ◌>>=◌ ◌>>◌ need choose ◌or?◌ undigit raised spell spelt onward or_refused second pair placed decode text_parsed
lenient = refl

-- another switch is OOB before all else, also where there is no data or another fault, and the buffer is as lent
pub switches :
    ◌≡◌ {A = List ((ℕ × ℕ) × List ℕ)}
    (parsed_under 2 (48 ∷ 97 ∷ []) 2 (255 ∷ []) 0
    ∷ parsed_under 255 (48 ∷ 49 ∷ []) 2 (255 ∷ []) 0
    ∷ parsed_under 2 [] 0 (255 ∷ []) 0
    ∷ parsed_under 2 (71 ∷ 71 ∷ []) 2 (255 ∷ []) 0
    ∷ parsed_under 0 (71 ∷ 71 ∷ []) 2 (255 ∷ []) 0
    ∷ [])
    (((21, 0), 255 ∷ []) ∷ ((21, 0), 255 ∷ []) ∷ ((21, 0), 255 ∷ []) ∷ ((21, 0), 255 ∷ []) ∷ ((23, 0), 255 ∷ []) ∷ [])
unfolding Dec.and Dec.not dec_le ℕ_discrete ◌>>=◌ ◌>>◌ need choose ◌or?◌ undigit raised spell spelt onward or_refused second pair placed decode text_parsed
switches = refl

-- a line of one byte takes five characters
pub lines :
    ◌≡◌ {A = List (ℕ × ℕ)} ((generated_into (0x1F ∷ []) (replicate 5 0)).0 ∷ (generated_into (0x1F ∷ []) (replicate 4 0)).0 ∷ [])
    ((0, 5) ∷ (21, 0) ∷ [])
unfolding dec_le ◌>>◌ need choose digit text
lines = refl
