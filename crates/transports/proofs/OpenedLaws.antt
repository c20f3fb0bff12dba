-- What an RTU frame and a TCP frame hold, by their shape and their check.
-- Assumes nothing.
use mathlib.Core.Logic.{by_cases}
use Rattle.std.proofs.Common.{◌≡◌, ℕ, suc, ◌+◌, ◌-◌, ◌/◌, ◌%◌, ◌<◌, ◌≤◌, List, [], ◌∷◌, length, get_or, take, drop, sym, ap, ◌∙◌, add-one, arith, length-drop, drop_of_length-le, length-take-le, drop-cons}
use Rattle.std.specs.Prelude.{Ok}
use Rattle.std.specs.Int.{w16, to_le_bytes}
use Rattle.std.specs.Bool.{Decides}
use Rattle.std.specs.Cmp.Lexicographic.{pointwise}
use Rattle.std.proofs.Common.{Bool, true, false, not, eqb, refl}
use Rattle.std.proofs.lemmas.Bool.{false≢true}
use Rattle.std.proofs.lemmas.Slice.Eq.{bytes_eq-Decides}
use lib.Seq.{take-length}
use Rattle.modbus.specs.Step.{stop, go, ◌≤?◌, ◌≟◌, ◌and?◌}
use Rattle.modbus.specs.Bytes.{word_at}
use Rattle.modbus.specs.Check.{crc}
use Rattle.modbus.specs.Decode.{frame_broken_quiet, frame_check_quiet, crc_bytes, unwrap}
use Rattle.modbus.specs.declared.ModbusProto.TheVariants.{Rtu, TcpUdp}
use Rattle.modbus.proofs.StepLaws.{pass, fail}
use Rattle.transports.specs.Opened.{opened, Fronted}
use Rattle.transports.specs.Checked.{checked}
use Rattle.transports.proofs.CheckedLaws.{checked_wrong, checked_right, checked_front}

-- the last two bytes
pub last_two : (f : List ℕ) (n : ℕ) → n + 2 ≡ length f → drop n f ≡ get_or f n 0 ∷ get_or f (n + 1) 0 ∷ []
last_two f n e =
    let k : length f ≤ suc (suc n) = omega arith in
    rw (drop-cons f n 0 (omega arith), drop-cons f (suc n) 0 (omega arith), drop_of_length-le f k, add-one)

-- they are these, or one of them is not
pub same_two : (f : List ℕ) (n a b : ℕ) → n + 2 ≡ length f → drop n f ≡ a ∷ b ∷ [] → (get_or f n 0 ≡ a) × (get_or f (n + 1) 0 ≡ b)
same_two f n a b e q = let p = sym (last_two f n e) ∙ q in (cc, cc)

-- what `to_le_bytes` makes of a 16-bit number
pub two_bytes : (x : ℕ) (l : List ℕ) → x < 65536 → l ≡ to_le_bytes w16 x → (get_or l 0 0 ≡ x % 256) × (get_or l 1 0 ≡ x / 256)
two_bytes x l h e = (ap (λ (m : List ℕ). get_or m 0 0) e, ap (λ (m : List ℕ). get_or m 1 0) e ∙ omega arith)

pub both_bytes : (x : ℕ) (l : List ℕ) → x < 65536 → l ≡ to_le_bytes w16 x → l ≡ x % 256 ∷ x / 256 ∷ []
both_bytes x l h e = let z : x / 256 % 256 ≡ x / 256 = omega arith in e ∙ ap (λ (b : ℕ). x % 256 ∷ b ∷ []) z

-- what `!=` says of two slices
pub differ : (xs ys : List ℕ) (r : Bool) → r ≡ not (pointwise eqb xs ys) → (r ≡ true → ¬ (xs ≡ ys)) × (r ≡ false → xs ≡ ys)
differ xs ys r e = by (pointwise eqb xs ys) (bytes_eq-Decides xs ys) e
  where
    by : (b : Bool) → Decides b (xs ≡ ys) → r ≡ not b → (r ≡ true → ¬ (xs ≡ ys)) × (r ≡ false → xs ≡ ys)
    by true d e = ((λ t q. false≢true (sym e ∙ t)), (λ f. d.0 refl))
    by false d e = ((λ t q. false≢true (d.1 q)), (λ f. absurd (false≢true (sym f ∙ e))))

-- all that stands behind a place
pub rest_whole : (l : List ℕ) (n : ℕ) → take (length l - n) (drop n l) ≡ drop n l
rest_whole l n = ap (λ (k : ℕ). take k (drop n l)) (sym (length-drop n l)) ∙ take-length (drop n l)

-- ---- RTU

-- the shape of an RTU frame
abbrev Long : List ℕ → Type 0
Long f = (4 ≤ length f) × (length f ≤ 256)

pub rtu_broken : (f : List ℕ) → ¬ Long f → unwrap Rtu f ≡ stop frame_broken_quiet
unfolding unwrap
rtu_broken f h = fail _ _ _ h

pub rtu_checked : (f : List ℕ) → Long f → unwrap Rtu f ≡ checked crc_bytes 2 (take (length f) f)
unfolding unwrap
rtu_checked f h = pass _ _ _ h ∙ ap (checked crc_bytes 2) (sym (take-length f))

-- x is the CRC of all but the last two bytes
module _ (f : List ℕ) (x : ℕ) (h : Long f) (e : x ≡ crc (take (length f - 2) f)) where
  pub rtu_check : ¬ (drop (length f - 2) f ≡ x % 256 ∷ x / 256 ∷ []) → unwrap Rtu f ≡ stop frame_check_quiet
  rtu_check n =
      rtu_checked f h
      ∙ checked_wrong crc_bytes 2 f (length f) (omega arith) (omega arith) (λ q. n (rw e (rw take-length at q)))

  pub rtu_body : drop (length f - 2) f ≡ x % 256 ∷ x / 256 ∷ [] → unwrap Rtu f ≡ go (record { tag = []; body = take (length f - 2) f })
  rtu_body p =
      rtu_checked f h
      ∙ checked_right crc_bytes 2 f (length f) (omega arith) (omega arith) (rw take-length (p ∙ rw e))

pub rtu_length : (f : List ℕ) → Ok (length f - 2) ≡ opened (go (record { tag = []; body = take (length f - 2) f }))
rtu_length f = ap Ok (sym (length-take-le (length f - 2) f (omega arith)))

pub rtu_front : (f : List ℕ) → Fronted (unwrap Rtu f) f
rtu_front f =
    by_cases ((4 ≤? length f) and? (length f ≤? 256))
    (λ h. rw (rtu_checked f h) (checked_front crc_bytes 2 f (length f) (omega arith) (omega arith)))
    (λ n. rw (rtu_broken f n) tt)

-- ---- TCP

-- the shape of a TCP frame
abbrev Headed : List ℕ → Type 0
Headed f = (8 ≤ length f) × ((length f ≤ 260) × ((get_or f 2 0 ≡ 0) × ((get_or f 3 0 ≡ 0) × (word_at f 4 + 6 ≡ length f))))

abbrev pub headed? : (f : List ℕ) → Dec (Headed f)
headed? f = (8 ≤? length f) and? (length f ≤? 260) and? (get_or f 2 0 ≟ 0) and? (get_or f 3 0 ≟ 0) and? (word_at f 4 + 6 ≟ length f)

pub tcp_broken : (f : List ℕ) → ¬ Headed f → unwrap TcpUdp f ≡ stop frame_broken_quiet
unfolding unwrap
tcp_broken f h = fail _ _ _ h

pub tcp_body : (f : List ℕ) → Headed f → unwrap TcpUdp f ≡ go (record { tag = take 2 f; body = drop 6 f })
unfolding unwrap
tcp_body f h = pass _ _ _ h

pub tcp_length : (f : List ℕ) (n : ℕ) → n + 6 ≡ length f → Ok n ≡ opened (go (record { tag = take 2 f; body = drop 6 f }))
tcp_length f n e = ap Ok (simp length-drop (omega arith))

pub tcp_front : (f : List ℕ) → Fronted (unwrap TcpUdp f) (drop 6 f)
tcp_front f = by_cases (headed? f) (λ h. rw (tcp_body f h) (take-length (drop 6 f))) (λ n. rw (tcp_broken f n) tt)
