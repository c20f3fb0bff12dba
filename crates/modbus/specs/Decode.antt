-- A frame taken apart (document 01, "Shapes and checks of the driver"), and its body read by places.
-- Assumes nothing.
use Rattle.std.specs.Prelude.{◌⊎◌, ◌≡◌, List, [], ◌∷◌, ℕ, ◌+◌, ◌-◌, ◌/◌, ◌%◌, ◌≤◌, length, take, drop, get_or}
use Rattle.modbus.specs.Step.{Step, stop, go, ◌>>=◌, ◌>>◌, need, ◌≤?◌, ◌≟◌, ◌and?◌, ◌or?◌, same?}
use Rattle.modbus.specs.Bytes.{word_at}
use Rattle.modbus.specs.Check.{crc, lrc}
use Rattle.modbus.specs.Hex.{spelt, untext}
use Rattle.modbus.specs.Table.{bit, word, kind_of}
use Rattle.modbus.specs.Request.{Fn, reads, one, many, mask, both, Ask, read, write, writes, masks, swaps, most_read, most_written, most_swapped, octets}
use Rattle.modbus.specs.Storage.{values}
use Rattle.modbus.specs.declared.ErrorKind.{ErrorKind}
use Rattle.modbus.specs.declared.ModbusProto.{ModbusProto}
use Rattle.modbus.specs.declared.ModbusProto.TheVariants.{Rtu, Ascii, TcpUdp}

-- what a frame holds: the tag, and the bytes from the unit to before the check
pub record Message : Type 0 where
  pub tag : List ℕ
  pub body : List ℕ

abbrev pub unit_of : Message → ℕ
unit_of m = get_or m.body 0 0

abbrev pub number_of : Message → ℕ
number_of m = get_or m.body 1 0

-- ---- the outcomes without a code, and their numbers

pub data Silent : Type 0 where
  read_ignored_quiet foreign frame_broken_quiet frame_check_quiet wrong_length_quiet bad_function_quiet no_room_quiet bad_setup_quiet : Silent

abbrev pub outcome_of : Silent → ℕ
outcome_of read_ignored_quiet = 3
outcome_of foreign = 4
outcome_of frame_broken_quiet = 5
outcome_of frame_check_quiet = 6
outcome_of wrong_length_quiet = 7
outcome_of bad_function_quiet = 8
outcome_of no_room_quiet = 9
outcome_of bad_setup_quiet = 10

-- ---- shape, then check

-- text that is none makes the frame broken
unfoldable pub or_broken : {A : Type 0} → Step ErrorKind A → Step Silent A
or_broken (stop k) = stop frame_broken_quiet
or_broken (go a) = go a

abbrev pub crc_bytes : List ℕ → List ℕ
crc_bytes l = crc l % 256 ∷ crc l / 256 ∷ []

unfoldable pub unwrap : ModbusProto → List ℕ → Step Silent Message
unwrap Rtu f = do
  need ((4 ≤? length f) and? (length f ≤? 256)) frame_broken_quiet
  need (same? (drop (length f - 2) f) (crc_bytes (take (length f - 2) f))) frame_check_quiet
  go (record { tag = []; body = take (length f - 2) f })
unwrap Ascii f = do
  need ((9 ≤? length f) and? (length f ≤? 511) and? (get_or f 0 0 ≟ 58) and? same? (drop (length f - 2) f) (13 ∷ 10 ∷ [])) frame_broken_quiet
  l ← or_broken (untext (drop 1 (take (length f - 2) f)))
  need (same? (drop (length l - 1) l) (lrc (take (length l - 1) l) ∷ [])) frame_check_quiet
  go (record { tag = []; body = take (length l - 1) l })
unwrap TcpUdp f = do
  need ((8 ≤? length f) and? (length f ≤? 260) and? (get_or f 2 0 ≟ 0) and? (get_or f 3 0 ≟ 0) and? (word_at f 4 + 6 ≟ length f)) frame_broken_quiet
  go (record { tag = take 2 f; body = drop 6 f })

-- a frame as the switch has it read: only ASCII frames are text
abbrev pub spelled_in : ModbusProto → ℕ → List ℕ → List ℕ
spelled_in Rtu hex f = f
spelled_in Ascii hex f = spelt hex f
spelled_in TcpUdp hex f = f

-- ---- a function that is ignored on a broadcast number

abbrev pub IsRead : Fn → Type 0
IsRead (reads t) = Unit {0}
IsRead (one k) = ⊥
IsRead (many k) = ⊥
IsRead mask = ⊥
IsRead both = Unit {0}

unfoldable pub is_read? : (fn : Fn) → Dec (IsRead fn)
is_read? (reads t) = yes tt
is_read? (one k) = no (λ h. h)
is_read? (many k) = no (λ h. h)
is_read? mask = no (λ h. h)
is_read? both = yes tt

-- ---- length: functions 1 to 6 take exactly 6 bytes, 15 and 16 exactly 7 plus the byte count, 22 exactly 8, 23 exactly 11 plus the byte count

abbrev pub Lengthy : Fn → List ℕ → Type 0
Lengthy (reads t) b = length b ≡ 6
Lengthy (one k) b = length b ≡ 6
Lengthy (many k) b = (7 ≤ length b) × (length b ≡ 7 + get_or b 6 0)
Lengthy mask b = length b ≡ 8
Lengthy both b = (11 ≤ length b) × (length b ≡ 11 + get_or b 10 0)

unfoldable pub lengthy? : (fn : Fn) (b : List ℕ) → Dec (Lengthy fn b)
lengthy? (reads t) b = length b ≟ 6
lengthy? (one k) b = length b ≟ 6
lengthy? (many k) b = (7 ≤? length b) and? (length b ≟ 7 + get_or b 6 0)
lengthy? mask b = length b ≟ 8
lengthy? both b = (11 ≤? length b) and? (length b ≟ 11 + get_or b 10 0)

-- ---- value rules

abbrev pub Valued : Fn → List ℕ → Type 0
Valued (reads t) b = (1 ≤ word_at b 4) × (word_at b 4 ≤ most_read (kind_of t))
Valued (one bit) b = (word_at b 4 ≡ 0) ⊎ (word_at b 4 ≡ 0xFF00)
Valued (one word) b = Unit {0}
Valued (many k) b = (1 ≤ word_at b 4) × ((word_at b 4 ≤ most_written k) × (get_or b 6 0 ≡ octets k (word_at b 4)))
Valued mask b = Unit {0}
Valued both b =
    ((1 ≤ word_at b 4) × (word_at b 4 ≤ most_read word))
    × ((1 ≤ word_at b 8) × ((word_at b 8 ≤ most_swapped) × (get_or b 10 0 ≡ octets word (word_at b 8))))

unfoldable pub valued? : (fn : Fn) (b : List ℕ) → Dec (Valued fn b)
valued? (reads t) b = (1 ≤? word_at b 4) and? (word_at b 4 ≤? most_read (kind_of t))
valued? (one bit) b = (word_at b 4 ≟ 0) or? (word_at b 4 ≟ 0xFF00)
valued? (one word) b = yes tt
valued? (many k) b = (1 ≤? word_at b 4) and? (word_at b 4 ≤? most_written k) and? (get_or b 6 0 ≟ octets k (word_at b 4))
valued? mask b = yes tt
valued? both b =
    ((1 ≤? word_at b 4) and? (word_at b 4 ≤? most_read word))
    and? (1 ≤? word_at b 8) and? (word_at b 8 ≤? most_swapped) and? (get_or b 10 0 ≟ octets word (word_at b 8))

-- ---- what a body of the right length and values asks

abbrev pub asked : Fn → List ℕ → Ask
asked (reads t) b = read t (word_at b 2) (word_at b 4)
asked (one bit) b = write bit (word_at b 2) (word_at b 4 / 0xFF00)
asked (one word) b = write word (word_at b 2) (word_at b 4)
asked (many k) b = writes k (word_at b 2) (values k (word_at b 4) (drop 7 b))
asked mask b = masks (word_at b 2) (word_at b 4) (word_at b 6)
asked both b = swaps (word_at b 2) (word_at b 4) (word_at b 6) (values word (word_at b 8) (drop 11 b))
