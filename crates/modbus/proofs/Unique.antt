-- What it means that a contract leaves one possible result and one possible content of every lent buffer, and the way back from
-- document 01's numbers to the answers, by which it is proved of a contract in those numbers.
-- Assumes nothing.
use mathlib.Core.Path.{◌≡◌, refl, sym, ap, ◌∙◌}
use mathlib.Core.Bool.{Bool, true, false, cond}
use mathlib.Core.List.{List}
use Prim.Native.Nat.{ℕ}
use lib.Dec.{eqb}
use contract.Lifetimes.{Lfts}
use denote.RattleType.{RattleType}
use denote.Param.Laws.{Laws}
use mir.Syntax.{Dict}
use borrow.Fn.Kinds.{ParamKind, ResultKind, Out, Dens, res_t, ended_of}
use denote.Triple.Clauses.{Lasts, at_exit}
use Rattle.std.proofs.Common.{true≢false}
use Rattle.std.specs.Prelude.{◌↔◌, IsTrue, Result, Ok, Err, ⊤}
use Rattle.modbus.specs.Paper.{number, digit_of, paper_by, paper, bit_paper, done_paper, hex_paper, proto_paper}
use Rattle.modbus.specs.declared.ErrorKind.{ErrorKind}
use Rattle.modbus.specs.declared.ErrorKind.TheVariants.{OOB, OOBContext, FrameBroken, FrameCRCError, IllegalDataValue, ReadCallOnWriteFrame, WriteCallOnReadFrame}
use Rattle.modbus.specs.declared.ModbusProto.{ModbusProto}
use Rattle.modbus.specs.declared.ModbusProto.TheVariants.{Rtu, Ascii, TcpUdp}
use Rattle.modbus.specs.declared.Answer.{Answer}
use Rattle.modbus.specs.declared.Told as told
use Rattle.modbus.specs.declared.BadSetup.{BadSetup}
use Rattle.modbus.specs.declared.Digit.{Digit}
use Rattle.modbus.specs.declared.Digit.TheVariants.{Number, Capital, Small}
use Rattle.modbus.proofs.U8FromErrorKind.from.Kinds as kind-number-kinds
use Rattle.modbus.proofs.U8FromErrorKind.from.Reads as kind-number-reads
use Rattle.modbus.proofs.AnswerFromErrorKind.from.Kinds as refused-answer-kinds
use Rattle.modbus.proofs.AnswerFromErrorKind.from.Reads as refused-answer-reads
use Rattle.modbus.proofs.AnswerFromBadSetup.from.Kinds as setup-answer-kinds
use Rattle.modbus.proofs.AnswerFromBadSetup.from.Reads as setup-answer-reads
use Rattle.modbus.proofs.AnswerFromResultErrorKind.from.Kinds as result-answer-kinds
use Rattle.modbus.proofs.AnswerFromResultErrorKind.from.Reads as result-answer-reads
use Rattle.modbus.proofs.U8Told.told.Kinds as byte-told-kinds
use Rattle.modbus.proofs.U8Told.told.Reads as byte-told-reads
use Rattle.modbus.proofs.U16Told.told.Kinds as word-told-kinds
use Rattle.modbus.proofs.U16Told.told.Reads as word-told-reads
use Rattle.modbus.proofs.UsizeTold.told.Kinds as size-told-kinds
use Rattle.modbus.proofs.UsizeTold.told.Reads as size-told-reads
use Rattle.modbus.proofs.BoolTold.told.Kinds as bit-told-kinds
use Rattle.modbus.proofs.BoolTold.told.Reads as bit-told-reads
use Rattle.modbus.proofs.UnitTold.told.Kinds as done-told-kinds
use Rattle.modbus.proofs.UnitTold.told.Reads as done-told-reads
use Rattle.modbus.proofs.ModbusProtoTryFromU8.try_from.Kinds as proto-of-kinds
use Rattle.modbus.proofs.ModbusProtoTryFromU8.try_from.Reads as proto-of-reads

-- two results and two contents at exit that the `ensures`, as the checker reads it, allows of one choice of arguments are equal
abbrev pub Unique : (n : ℕ) (ps : List (ParamKind n)) (r : ResultKind n) → Out n ps r → Type 0
Unique n ps r Post =
    (κs : Lfts n) (a : Dens κs ps) (x y : (res_t r κs).Denot) (u v : Lasts (ended_of n ps r) κs a)
    → Post κs a x (at_exit (ended_of n ps r) κs a u) → Post κs a y (at_exit (ended_of n ps r) κs a v) → (x ≡ y) × (u ≡ v)

-- ---- the way back

abbrev kind_back : ℕ → ErrorKind
kind_back n =
    cond (eqb n 21) OOB (cond (eqb n 22) OOBContext (cond (eqb n 23) FrameBroken (cond (eqb n 24) FrameCRCError
    (cond (eqb n 25) IllegalDataValue (cond (eqb n 26) ReadCallOnWriteFrame WriteCallOnReadFrame)))))

abbrev proto_back : ℕ → ModbusProto
proto_back n = cond (eqb n 0) Rtu (cond (eqb n 1) Ascii TcpUdp)

kind_back_law : (k : ErrorKind) → kind_back (number k) ≡ k
kind_back_law OOB = refl
kind_back_law OOBContext = refl
kind_back_law FrameBroken = refl
kind_back_law FrameCRCError = refl
kind_back_law IllegalDataValue = refl
kind_back_law ReadCallOnWriteFrame = refl
kind_back_law WriteCallOnReadFrame = refl

-- no kind has the number 0, which marks a value
kind_some : (k : ErrorKind) {A : Type 0} (a b : A) → cond (eqb (number k) 0) a b ≡ b
kind_some OOB a b = refl
kind_some OOBContext a b = refl
kind_some FrameBroken a b = refl
kind_some FrameCRCError a b = refl
kind_some IllegalDataValue a b = refl
kind_some ReadCallOnWriteFrame a b = refl
kind_some WriteCallOnReadFrame a b = refl

-- an answer of any type: a value or a refusal, by its number and values
abbrev pub back : {A B : Type 0} → (B → A) → (ErrorKind → A) → ℕ × B → A
back value refused p = cond (eqb p.0 0) (value p.1) (refused (kind_back p.0))

pub refused_back : {A B : Type 0} (value : B → A) (refused : ErrorKind → A) (v : B) (k : ErrorKind)
    → back value refused (number k, v) ≡ refused k
refused_back value refused v k = kind_some k _ _ ∙ ap refused (kind_back_law k)

-- of a value that has a way back from its number
by_value : {A : Type 0} (f : A → ℕ) (g : ℕ → A) → ((v : A) → g (f v) ≡ v)
    → (x : Result A ErrorKind) → back (λ n. Ok (g n)) Err (paper_by f x) ≡ x
by_value f g e (Ok v) = ap Ok (e v)
by_value f g e (Err k) = refused_back (λ n. Ok (g n)) Err 0 k

bit_back : (b : Bool) → eqb (digit_of b) 1 ≡ b
bit_back true = refl
bit_back false = refl

-- its one refusal is told by the number
abbrev proto_answer_back : ℕ × ℕ → Result ModbusProto BadSetup
proto_answer_back p = cond (eqb p.0 0) (Ok (proto_back p.1)) (Err (record {}))

proto_back_law : (x : Result ModbusProto BadSetup) → proto_answer_back (proto_paper x) ≡ x
proto_back_law (Ok Rtu) = refl
proto_back_law (Ok Ascii) = refl
proto_back_law (Ok TcpUdp) = refl
proto_back_law (Err e) = refl

-- a digit by its kind and value
abbrev digit_back : ℕ × ℕ → Result Digit ErrorKind
digit_back p = cond (eqb p.1 0) (Ok (Number p.0)) (cond (eqb p.1 1) (Ok (Capital p.0)) (Ok (Small p.0)))

abbrev hex_back : ℕ × ℕ × ℕ → Result Digit ErrorKind
hex_back p = back digit_back Err (p.0, (p.1, p.2))

hex_back_law : (x : Result Digit ErrorKind) → hex_back (hex_paper x) ≡ x
hex_back_law (Ok (Number v)) = refl
hex_back_law (Ok (Capital v)) = refl
hex_back_law (Ok (Small v)) = refl
hex_back_law (Err k) = refused_back digit_back Err (0, 0) k

-- what has a way back is told apart by its numbers
pub by_back : {A N : Type 0} (paper : A → N) (way : N → A) → ((x : A) → way (paper x) ≡ x)
    → (x y : A) → paper x ≡ paper y → x ≡ y
by_back paper way e x y p = sym (e x) ∙ ap way p ∙ e y

-- a test of a fact has one answer
pub same_truth : {P : Type 0} {x y : Bool} → IsTrue x ↔ P → IsTrue y ↔ P → x ≡ y
same_truth {x = true} {y = true} p q = refl
same_truth {x = false} {y = false} p q = refl
same_truth {x = true} {y = false} p q = absurd (true≢false (sym (q.1 (p.0 refl))))
same_truth {x = false} {y = true} p q = absurd (true≢false (sym (p.1 (q.0 refl))))

pub paper_law : (x y : Result ℕ ErrorKind) → paper x ≡ paper y → x ≡ y
paper_law = by_back paper (back Ok Err) (by_value (λ n. n) (λ n. n) (λ n. refl))

pub bit_paper_law : (x y : Result Bool ErrorKind) → bit_paper x ≡ bit_paper y → x ≡ y
bit_paper_law = by_back bit_paper (back (λ n. Ok (eqb n 1)) Err) (by_value digit_of (λ n. eqb n 1) bit_back)

pub done_paper_law : (x y : Result ⊤ ErrorKind) → done_paper x ≡ done_paper y → x ≡ y
done_paper_law = by_back done_paper (back (λ n. Ok tt) Err) (by_value (λ done. 0) (λ n. tt) (λ done. refl))

pub hex_paper_law : (x y : Result Digit ErrorKind) → hex_paper x ≡ hex_paper y → x ≡ y
hex_paper_law = by_back hex_paper hex_back hex_back_law

-- an answer without a value is told by its first number
done_whole : (x : Result ⊤ ErrorKind) → done_paper x ≡ ((done_paper x).0, 0)
done_whole (Ok done) = refl
done_whole (Err k) = refl

pub done_number : (x y : Result ⊤ ErrorKind) → (done_paper x).0 ≡ (done_paper y).0 → x ≡ y
done_number x y e = done_paper_law x y (done_whole x ∙ ap (λ (n : ℕ). (n, 0)) e ∙ sym (done_whole y))

proto_paper_law : (x y : Result ModbusProto BadSetup) → proto_paper x ≡ proto_paper y → x ≡ y
proto_paper_law = by_back proto_paper proto_answer_back proto_back_law

-- ---- the public functions

pub proto_of : Unique 0 proto-of-kinds.ps proto-of-kinds.r proto-of-reads.Post
proto_of κs a x y u v p q = (proto_paper_law x y (p ∙ sym q), refl)

pub kind_number : Unique 0 kind-number-kinds.ps kind-number-kinds.r kind-number-reads.Post
kind_number κs a x y u v p q = (p ∙ sym q, refl)

pub answer_paper : (x y : Answer) → ◌≡◌ {A = ℕ × ℕ} (x.kind, x.value) (y.kind, y.value) → x ≡ y
answer_paper x y e = ap (λ (n : ℕ × ℕ). record { value = n.1; kind = n.0 }) e

pub refused_answer : Unique 0 refused-answer-kinds.ps refused-answer-kinds.r refused-answer-reads.Post
refused_answer κs a x y u v p q = (answer_paper x y (p ∙ sym q), refl)

pub setup_answer : Unique 0 setup-answer-kinds.ps setup-answer-kinds.r setup-answer-reads.Post
setup_answer κs a x y u v p q = (answer_paper x y (p ∙ sym q), refl)

-- of an answer's value, whatever its type
pub called_answer : {A : Type 0} (f : A → ℕ) (r : Result A ErrorKind) (x y : Answer)
    → ◌≡◌ {A = ℕ × ℕ} (x.kind, x.value) (paper_by f r) → ◌≡◌ {A = ℕ × ℕ} (y.kind, y.value) (paper_by f r) → x ≡ y
called_answer f r x y p q = answer_paper x y (p ∙ sym q)

-- of what a call answers, whatever the type of its value
module _ (T : RattleType) (L : Laws T) (tells : told.Ghosts T.Denot) (dict : Dict) where
  pub result_answer : Unique 1 (result-answer-kinds.ps T L) (result-answer-kinds.r T L) (result-answer-reads.Post T L tells dict)
  result_answer κs (Ok r, _) x y u v p q = (answer_paper x y (p ∙ sym q), refl)
  result_answer κs (Err k, _) x y u v p q = (answer_paper x y (p ∙ sym q), refl)

pub byte_told : Unique 0 byte-told-kinds.ps byte-told-kinds.r byte-told-reads.Post
byte_told κs a x y u v p q = (p ∙ sym q, refl)

pub word_told : Unique 0 word-told-kinds.ps word-told-kinds.r word-told-reads.Post
word_told κs a x y u v p q = (p ∙ sym q, refl)

pub size_told : Unique 0 size-told-kinds.ps size-told-kinds.r size-told-reads.Post
size_told κs a x y u v p q = (p ∙ sym q, refl)

pub bit_told : Unique 0 bit-told-kinds.ps bit-told-kinds.r bit-told-reads.Post
bit_told κs a x y u v p q = (p ∙ sym q, refl)

pub done_told : Unique 0 done-told-kinds.ps done-told-kinds.r done-told-reads.Post
done_told κs a x y u v p q = (p ∙ sym q, refl)
