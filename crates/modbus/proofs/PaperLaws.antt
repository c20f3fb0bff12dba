-- What an answer in numbers tells: what is told in the same numbers is the same.
-- Assumes nothing.
use mathlib.Core.Path.{◌≡◌, refl, sym, ap, ◌∙◌}
use mathlib.Core.List.{List}
use Prim.Native.Nat.{ℕ, ◌≤◌}
use native.Mathlib.Omega.{arith}
use Rattle.modbus.specs.declared.Digit.{Digit}
use Rattle.std.specs.Prelude.{IsErrAnd, Result, Ok, Err}
use Rattle.modbus.specs.Step.{Step, stop, go, ◌≤?◌}
use Rattle.modbus.specs.Table.{bit, word}
use Rattle.modbus.specs.Request.{Ask, read, write, writes, masks, swaps, writing}
use Rattle.modbus.specs.Paper.{number, transport, proto_of, told, told_kind, told_with, paper, hex_paper, bad_transport, proto_asked, range_paper, range_told}
use Rattle.modbus.specs.declared.ErrorKind.{ErrorKind}
use Rattle.modbus.specs.declared.ErrorKind.TheVariants.{OOB, OOBContext, FrameBroken, FrameCRCError, IllegalDataValue, ReadCallOnWriteFrame, WriteCallOnReadFrame}
use Rattle.modbus.specs.declared.ModbusProto.{ModbusProto}
use Rattle.modbus.specs.declared.ModbusProto.TheVariants.{Rtu, Ascii, TcpUdp}
use Rattle.modbus.proofs.StepLaws.{pick_yes, pick_no}
use Rattle.modbus.proofs.Unique.{paper_law}

abbrev answer_of : Step ErrorKind ℕ → Result ℕ ErrorKind
answer_of (go v) = Ok v
answer_of (stop k) = Err k

abbrev step_of : Result ℕ ErrorKind → Step ErrorKind ℕ
step_of (Ok v) = go v
step_of (Err k) = stop k

told_answer : (m : Step ErrorKind ℕ) → paper (answer_of m) ≡ told m
told_answer (go v) = refl
told_answer (stop k) = refl

step_answer : (m : Step ErrorKind ℕ) → step_of (answer_of m) ≡ m
step_answer (go v) = refl
step_answer (stop k) = refl

pub told_same : (m n : Step ErrorKind ℕ) → told m ≡ told n → m ≡ n
told_same m n e =
    sym (step_answer m)
    ∙ ap step_of (paper_law (answer_of m) (answer_of n) (told_answer m ∙ e ∙ sym (told_answer n)))
    ∙ step_answer n

-- a refusal that `?` hands on is the callee's
pub handed_on : {A E : Type 0} {k : E} (r : Result A E) → IsErrAnd r (λ e. e ≡ k) → r ≡ Err k
handed_on (Ok v) p = absurd p
handed_on (Err e) p = ap Err p

-- no refusal has the number of a call that was done
pub number_some : (k : ErrorKind) → number k ≡ 0 → ⊥
number_some OOB e = omega arith
number_some OOBContext e = omega arith
number_some FrameBroken e = omega arith
number_some FrameCRCError e = omega arith
number_some IllegalDataValue e = omega arith
number_some ReadCallOnWriteFrame e = omega arith
number_some WriteCallOnReadFrame e = omega arith

-- what a definition came to, from what the code answered
pub byte_value : (r : Result ℕ ErrorKind) (m : Step ErrorKind ℕ) (v : ℕ) → paper r ≡ told m → r ≡ Ok v → m ≡ go v
byte_value r m v e q = told_same m (go v) (sym e ∙ ap paper q)

pub byte_refusal : (r : Result ℕ ErrorKind) (m : Step ErrorKind ℕ) (k : ErrorKind) → paper r ≡ told m → r ≡ Err k → m ≡ stop k
byte_refusal r m k e q = told_same m (stop k) (sym e ∙ ap paper q)

-- the same of a digit, by the number of its kind
pub hex_value : (r : Result Digit ErrorKind) (m : Step ErrorKind (ℕ × ℕ)) (v kind : ℕ) → hex_paper r ≡ told_kind m → hex_paper r ≡ (0, v, kind)
    → m ≡ go (v, kind)
hex_value r (go (w, j)) v kind e q = ap (λ (t : ℕ × ℕ × ℕ). go (t.1, t.2)) (sym e ∙ q)
hex_value r (stop k) v kind e q = absurd (number_some k (ap (λ (t : ℕ × ℕ × ℕ). t.0) (sym e ∙ q)))

pub hex_refusal : (r : Result Digit ErrorKind) (m : Step ErrorKind (ℕ × ℕ)) (k : ErrorKind) → hex_paper r ≡ told_kind m → r ≡ Err k → m ≡ stop k
hex_refusal r (go (w, j)) k e q = absurd (number_some k (ap (λ (t : ℕ × ℕ × ℕ). t.0) (sym (ap hex_paper q) ∙ e)))
hex_refusal r (stop j) k e q =
    let p = told_same (stop j) (stop k) (ap (λ (t : ℕ × ℕ × ℕ). (t.0, 0)) (sym e ∙ ap hex_paper q)) in
    let z : j ≡ k = cc in
    ap stop z

-- the same with what a lent buffer then holds
pub value_with : (l m : List ℕ) (s : Step ErrorKind (ℕ × List ℕ)) (v : ℕ) → (paper (Ok v), m) ≡ told_with l s
    → s ≡ go (v, m)
value_with l m (go (w, n)) v e = ap (λ (t : (ℕ × ℕ) × List ℕ). go (t.0.1, t.1)) (sym e)
value_with l m (stop k) v e =
    let q = told_same (go v) (stop k) (ap (λ (t : (ℕ × ℕ) × List ℕ). t.0) e) in
    let z : ◌≡◌ {A = ℕ} 0 1 = cc in
    absurd (omega arith)

pub refusal_with : (l m : List ℕ) (s : Step ErrorKind (ℕ × List ℕ)) (k : ErrorKind)
    → (paper (Err k), m) ≡ told_with l s → (s ≡ stop k) × (m ≡ l)
refusal_with l m (go (w, n)) k e =
    let q = told_same (stop k) (go w) (ap (λ (t : (ℕ × ℕ) × List ℕ). t.0) e) in
    let z : ◌≡◌ {A = ℕ} 0 1 = cc in
    absurd (omega arith)
refusal_with l m (stop j) k e =
    let q = told_same (stop k) (stop j) (ap (λ (t : (ℕ × ℕ) × List ℕ). t.0) e) in
    let z : j ≡ k = cc in
    (ap stop z, ap (λ (t : (ℕ × ℕ) × List ℕ). t.1) e)

proto_back_law : (p : ModbusProto) → proto_of (transport p) ≡ p
proto_back_law Rtu = refl
proto_back_law Ascii = refl
proto_back_law TcpUdp = refl

-- a transport that was found is the number's, and one that was refused is above 2
pub proto_found : (n : ℕ) (p : ModbusProto) → ◌≡◌ {A = ℕ × ℕ} (0, transport p) (proto_asked n) → (n ≤ 2) × (p ≡ proto_of n)
proto_found n p e = by (n ≤? 2)
  where
    by : Dec (n ≤ 2) → (n ≤ 2) × (p ≡ proto_of n)
    by (yes h) =
        let q : transport p ≡ n = ap (λ (a : ℕ × ℕ). a.1) (e ∙ pick_yes _ _ _ h) in
        (h, sym (proto_back_law p) ∙ ap proto_of q)
    by (no h) = absurd (omega (arith, ap (λ (a : ℕ × ℕ). a.0) (e ∙ pick_no _ _ _ h)))

pub proto_refused : (n : ℕ) → bad_transport ≡ proto_asked n → ¬ (n ≤ 2)
proto_refused n e h = omega (arith, ap (λ (a : ℕ × ℕ). a.0) (e ∙ pick_yes _ _ _ h))

-- the numbers of what a request writes tell it
pub range_told_law : (a : Ask) → range_told (range_paper (writing a)).0 (range_paper (writing a)).1 (range_paper (writing a)).2 ≡ writing a
range_told_law (read t s n) = refl
range_told_law (write bit a v) = refl
range_told_law (write word a v) = refl
range_told_law (writes bit s vs) = refl
range_told_law (writes word s vs) = refl
range_told_law (masks a x y) = refl
range_told_law (swaps r n s vs) = refl
