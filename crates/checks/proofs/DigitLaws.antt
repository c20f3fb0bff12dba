-- What a digit's kind comes to under the switch, by what code answered for the character.
-- Assumes nothing.
use Rattle.modbus.specs.declared.Digit.{Digit}
use Rattle.modbus.specs.declared.Digit.TheVariants.{Number, Capital, Small}
use Rattle.std.specs.Prelude.{Result, Ok, Err}
use Rattle.std.proofs.Common.{◌≡◌, ℕ, zero, suc, sym, refl, ap, ◌∙◌, arith}
use Rattle.modbus.specs.Step.{Step, stop, go}
use Rattle.modbus.specs.Paper.{told, told_kind, hex_paper, number}
use Rattle.modbus.specs.Hex.{undigit, kinded, spell}
use Rattle.modbus.specs.declared.ErrorKind.{ErrorKind}
use Rattle.modbus.specs.declared.ErrorKind.TheVariants.{FrameBroken}
use Rattle.modbus.proofs.HexLaws.{undigit_taken, taken}
use Rattle.modbus.proofs.PaperLaws.{hex_value, hex_refusal}

-- a small letter is none under 0, and a digit under any other switch
strict : (h v : ℕ) {m : Step ErrorKind ℕ} → h ≡ 0 → m ≡ taken h (go (v, 2)) → m ≡ stop FrameBroken
strict zero v q e = e
strict (suc h) v q e = absurd (omega arith)

lenient : (h v : ℕ) {m : Step ErrorKind ℕ} → ¬ (h ≡ 0) → m ≡ taken h (go (v, 2)) → m ≡ go v
lenient zero v q e = absurd (q refl)
lenient (suc h) v q e = e

module _ (h c : ℕ) (r : Result Digit ErrorKind) (e : hex_paper r ≡ told_kind (kinded c)) where
  pub refused_under : (k : ErrorKind) → r ≡ Err k → (number k, 0) ≡ told (undigit (spell h c))
  refused_under k q = sym (ap told (undigit_taken h c ∙ ap (taken h) (hex_refusal r (kinded c) k e q)))

  module _ (d : Digit) (q : r ≡ Ok d) (v : ℕ) where
    by_kind : (x : Digit) (kind : ℕ) → hex_paper (Ok x) ≡ (0, v, kind) → d ≡ x → undigit (spell h c) ≡ taken h (go (v, kind))
    by_kind x kind p z =
        undigit_taken h c ∙ ap (taken h) (hex_value r (kinded c) v kind e (ap hex_paper q ∙ ap (λ (y : Digit). hex_paper (Ok y)) z ∙ p))

    pub number_under : d ≡ Number v → ◌≡◌ {A = ℕ × ℕ} (0, v) (told (undigit (spell h c)))
    number_under z = sym (ap told (by_kind (Number v) 0 refl z))

    pub capital_under : d ≡ Capital v → ◌≡◌ {A = ℕ × ℕ} (0, v) (told (undigit (spell h c)))
    capital_under z = sym (ap told (by_kind (Capital v) 1 refl z))

    pub small_strict : d ≡ Small v → h ≡ 0 → ◌≡◌ {A = ℕ × ℕ} (23, 0) (told (undigit (spell h c)))
    small_strict z s = sym (ap told (strict h v s (by_kind (Small v) 2 refl z)))

    pub small_lenient : d ≡ Small v → ¬ (h ≡ 0) → ◌≡◌ {A = ℕ × ℕ} (0, v) (told (undigit (spell h c)))
    small_lenient z s = sym (ap told (lenient h v s (by_kind (Small v) 2 refl z)))
