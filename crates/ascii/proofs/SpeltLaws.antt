-- What a reading under a switch comes to: a colon and the stop bytes are no letters, digits stand for themselves, and strict is the crate's reading.
-- Assumes nothing.
use Rattle.std.proofs.Common.{◌≡◌, ℕ, ◌<◌, ◌≤◌, List, [], ◌∷◌, length, get_or, take, drop, sym, ap, ◌∙◌, ⊎_elim, arith}
use Rattle.modbus.specs.Step.{choose, ◌≤?◌, ◌≟◌}
use Rattle.modbus.specs.Bytes.{All}
use Rattle.modbus.specs.Hex.{undigit, spell, spelt}
use Rattle.modbus.proofs.StepLaws.{pick_yes, pick_no}
use Rattle.modbus.proofs.HexLaws.{Small, spell_before, spell_behind, length_spelt, get_d_spelt, take_spelt, drop_spelt, spelt_strict, spelt_same}
use Rattle.ascii.specs.Reading.{StopByte, second, parsed_into, parsed_under}
use Rattle.ascii.specs.Plain.{Digit, begin, Plain}
use Rattle.ascii.proofs.ReadingLaws.{stop_to, second_some}

-- ---- characters

colon_spell : (h c : ℕ) → choose {A = ℕ} (spell h c ≟ 58) 1 0 ≡ choose (c ≟ 58) 1 0
colon_spell h c = by (c ≤? 64)
  where
    by : Dec (c ≤ 64) → choose {A = ℕ} (spell h c ≟ 58) 1 0 ≡ choose (c ≟ 58) 1 0
    by (yes k) = rw (spell_before h c k)
    by (no k) =
        pick_no _ _ _ (λ (e : spell h c ≡ 58). omega (arith, spell_behind h c (omega (arith, k))))
        ∙ sym (pick_no _ _ _ (λ (e : c ≡ 58). omega (arith, k)))

pub stop_spell : (h c : ℕ) → StopByte c → StopByte (spell h c)
stop_spell h c s = rw (spell_before h c (omega (arith, stop_to c s))) s

pub no_stop_spell : (h c : ℕ) → ¬ StopByte c → ¬ StopByte (spell h c)
no_stop_spell h c n s = by (c ≤? 64)
  where
    by : Dec (c ≤ 64) → ⊥
    by (yes k) = n (rw (spell_before h c k) at s)
    by (no k) = omega (arith, stop_to (spell h c) s, spell_behind h c (omega (arith, k)))

digits_same : (h : ℕ) (l : List ℕ) → All Digit l → spelt h l ≡ l
digits_same h l d = spelt_same h l (none l d)
  where
    none : (m : List ℕ) → All Digit m → All (λ c. ¬ Small c) m
    none [] e = tt
    none (c ∷ m) e = (λ q. ⊎_elim (λ p. omega (arith, p, q)) (λ p. omega (arith, p, q)) e.0, none m e.1)

-- ---- texts

pub begin_spelt : (h : ℕ) (s : List ℕ) → begin (spelt h s) ≡ begin s
begin_spelt h s = rw (get_d_spelt h s 0) (colon_spell h (get_or s 0 0))

pub digits_spelt : (h : ℕ) (s : List ℕ) (f n : ℕ) → All Digit (drop f (take n s)) → drop f (take n (spelt h s)) ≡ drop f (take n s)
digits_spelt h s f n d = rw (take_spelt h s n, drop_spelt h (take n s) f) (digits_same h _ d)

pub second_spelt : (h : ℕ) (s : List ℕ) (end at : ℕ) → at < end → end ≤ length s
    → second (drop at (take end (spelt h s))) ≡ undigit (spell h (get_or s at 0))
second_spelt h s end at j k =
    second_some (spelt h s) end at j (omega (arith, length_spelt h s)) ∙ ap undigit (get_d_spelt h s at)

pub plain_spelt : (h : ℕ) (s : List ℕ) (n room at : ℕ) → Plain s n room at → Plain (spelt h s) n room at
plain_spelt h s n room at (p₁, p₂, p₃, p₄, p₅, p₆) =
    rw (begin_spelt h s, length_spelt h s) (p₁, p₂, p₃, p₄, p₅, rw (digits_spelt h s (begin s) n p₆) p₆)

-- ---- strict is the crate's reading, which knows no switch

pub strict : (l : List ℕ) (n : ℕ) (buf : List ℕ) (at : ℕ) → parsed_under 0 l n buf at ≡ parsed_into l n buf at
strict l n buf at = pick_yes _ _ _ (omega arith) ∙ ap (λ (t : List ℕ). parsed_into t n buf at) (spelt_strict l)
