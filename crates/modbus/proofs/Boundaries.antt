-- The numbers that every answer is told by: document 01's kinds, the transports with what lies above them, the functions that are
-- ported, and the digits by their kinds. Each is written out here once more, by computation over the whole list.
-- Assumes nothing.
use mathlib.Core.Path.{◌≡◌, refl}
use mathlib.Core.Bool.{true, false}
use mathlib.Core.List.{List, [], ◌∷◌, map}
use Prim.Native.Nat.{ℕ}
use mathlib.Core.Logic.Dec
use native.Mathlib.Decide.{dec_le}
use Rattle.std.specs.Prelude.{Ok, Err}
use Rattle.modbus.specs.Step.{◌>>=◌, ◌>>◌, need, choose}
use Rattle.modbus.specs.Ported.{code_of, all_ported}
use Rattle.modbus.specs.Paper.{number, transport, told, told_kind, paper, bit_paper, done_paper, hex_paper, proto_paper, proto_asked}
use Rattle.modbus.specs.Hex.{kinded, digit, character}
use Rattle.modbus.specs.declared.Digit.TheVariants.{Number, Capital, Small}
use Rattle.modbus.specs.declared.ErrorKind.TheVariants.{OOB, OOBContext, FrameBroken, FrameCRCError, IllegalDataValue, ReadCallOnWriteFrame, WriteCallOnReadFrame}
use Rattle.modbus.specs.declared.ModbusProto.TheVariants.{Rtu, Ascii, TcpUdp}

pub kinds :
    map number (OOB ∷ OOBContext ∷ FrameBroken ∷ FrameCRCError ∷ IllegalDataValue ∷ ReadCallOnWriteFrame ∷ WriteCallOnReadFrame ∷ [])
    ≡ 21 ∷ 22 ∷ 23 ∷ 24 ∷ 25 ∷ 26 ∷ 27 ∷ []
kinds = refl

-- a value is told by 0 and itself, a refusal by its number and 0
pub answers :
    ◌≡◌ {A = List ((ℕ × ℕ) × (ℕ × ℕ))}
    ((paper (Ok 7), paper (Err OOB))
    ∷ (paper (Ok 300), paper (Err FrameBroken))
    ∷ (paper (Ok 65535), paper (Err OOBContext))
    ∷ (bit_paper (Ok true), bit_paper (Ok false))
    ∷ (done_paper (Ok tt), done_paper (Err WriteCallOnReadFrame))
    ∷ [])
    (((0, 7), (21, 0)) ∷ ((0, 300), (23, 0)) ∷ ((0, 65535), (22, 0)) ∷ ((0, 1), (0, 0)) ∷ ((0, 0), (27, 0)) ∷ [])
answers = refl

pub transports : map transport (Rtu ∷ Ascii ∷ TcpUdp ∷ []) ≡ 0 ∷ 1 ∷ 2 ∷ []
transports = refl

-- a transport's number, and above 2 BadSetup, which is none of the kinds
pub asked :
    ◌≡◌ {A = List (ℕ × ℕ)} (proto_asked 0 ∷ proto_asked 1 ∷ proto_asked 2 ∷ proto_asked 3 ∷ proto_paper (Err (record {})) ∷ [])
    ((0, 0) ∷ (0, 1) ∷ (0, 2) ∷ (10, 0) ∷ (10, 0) ∷ [])
unfolding dec_le choose
asked = refl

-- what a character stands for and its kind, on both sides of each range
pub digits :
    ◌≡◌ {A = List (ℕ × ℕ × ℕ)}
    (map (λ c. told_kind (kinded c)) (0 ∷ 47 ∷ 48 ∷ 57 ∷ 58 ∷ 64 ∷ 65 ∷ 70 ∷ 71 ∷ 96 ∷ 97 ∷ 102 ∷ 103 ∷ 255 ∷ []))
    ((23, 0, 0) ∷ (23, 0, 0) ∷ (0, 0, 0) ∷ (0, 9, 0) ∷ (23, 0, 0) ∷ (23, 0, 0) ∷ (0, 10, 1) ∷ (0, 15, 1) ∷ (23, 0, 0)
    ∷ (23, 0, 0) ∷ (0, 10, 2) ∷ (0, 15, 2) ∷ (23, 0, 0) ∷ (23, 0, 0) ∷ [])
unfolding Dec.and dec_le choose kinded
digits = refl

-- a digit is told with its kind: 0 a number, 1 a capital, 2 a small letter
pub hexes :
    ◌≡◌ {A = List (ℕ × ℕ × ℕ)}
    (hex_paper (Ok (Number 9)) ∷ hex_paper (Ok (Capital 10)) ∷ hex_paper (Ok (Small 11)) ∷ hex_paper (Err FrameBroken) ∷ [])
    ((0, 9, 0) ∷ (0, 10, 1) ∷ (0, 11, 2) ∷ (23, 0, 0) ∷ [])
hexes = refl

-- the character of a digit, and of other bytes as far as a byte holds the sum
pub characters :
    ◌≡◌ {A = List (ℕ × ℕ)} (map (λ n. told (character n)) (0 ∷ 9 ∷ 10 ∷ 15 ∷ 200 ∷ 201 ∷ 255 ∷ []))
    ((0, 48) ∷ (0, 57) ∷ (0, 65) ∷ (0, 70) ∷ (0, 255) ∷ (21, 0) ∷ (21, 0) ∷ [])
unfolding dec_le ◌>>=◌ ◌>>◌ need choose digit character
characters = refl

pub functions : map code_of all_ported ≡ 1 ∷ 2 ∷ 3 ∷ 4 ∷ 5 ∷ 6 ∷ 15 ∷ 16 ∷ []
functions = refl
