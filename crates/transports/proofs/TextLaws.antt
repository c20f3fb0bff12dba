-- A reading that decodes all of a text gives the bytes that the text stands for, and a text that stands for bytes is read so.
-- Assumes nothing.
use Rattle.std.proofs.Common.{◌≡◌, ℕ, suc, ◌+◌, ◌*◌, List, [], ◌∷◌, length, refl, ap, ◌∙◌, arith}
use Rattle.modbus.specs.Step.{Step, stop, go}
use Rattle.modbus.specs.Hex.{untext}
use Rattle.modbus.specs.declared.ErrorKind.{ErrorKind}
use Rattle.modbus.proofs.StepLaws.{follow, bound, needed}
use Rattle.ascii.specs.Reading.{Ending, finished, refused, Decoded, ends, onward, or_refused, second, pair, placed, decode, counted}

or_refused_law : (m : Step ErrorKind ℕ) (v : ℕ) → or_refused m ≡ go v → m ≡ go v
unfolding or_refused
or_refused_law (go x) v e = let z : x ≡ v = cc in ap go z
or_refused_law (stop k) v e = let z : ◌≡◌ {A = ℕ} 0 1 = cc in absurd (omega arith)

-- the two digits of a byte that was placed, and what they make of a text behind them
untext_placed : (room at x y b : ℕ) (t l : List ℕ) → placed room at x (y ∷ []) ≡ go b → untext t ≡ go l
    → untext (x ∷ y ∷ t) ≡ go (b ∷ l)
unfolding placed pair second untext
untext_placed room at x y b t l e f =
    needed _ _ _ e λ _ e₁.
    bound _ _ e₁ λ v e₂ e₃.
    needed _ _ _ e₃ λ _ e₄.
    needed _ _ _ e₂ λ _ e₅.
    bound _ _ e₅ λ a p e₆.
    bound _ _ e₆ λ c q e₇.
    let z : a * 16 + c ≡ b = cc in
    follow _ _ (or_refused_law _ a p) ∙ follow _ _ (or_refused_law _ c q) ∙ follow _ _ f ∙ ap (λ (n : ℕ). go (n ∷ l)) z

-- a character alone gives no reading with a byte for every two
alone : (s : Step Ending ℕ) → 2 * length (onward s (ends finished)).bytes ≡ 1 → ⊥
unfolding onward
alone (stop r) h = omega arith
alone (go b) h = omega arith

-- the first two of a text, where the reading behind them is as said
first : (room at x y : ℕ) (t : List ℕ) (d : Decoded) (s : Step Ending ℕ) → placed room at x (y ∷ []) ≡ s
    → (d.ending ≡ finished → 2 * length d.bytes ≡ length t → untext t ≡ go d.bytes)
    → (onward s d).ending ≡ finished → 2 * length (onward s d).bytes ≡ suc (suc (length t))
    → untext (x ∷ y ∷ t) ≡ go (onward s d).bytes
unfolding onward
first room at x y t d (stop r) p i e h = absurd (omega arith)
first room at x y t d (go b) p i e h = untext_placed room at x y b t d.bytes p (i e (omega arith))

-- a reading that gave a byte for every two characters gave what they stand for
pub untext_decode : (t : List ℕ) (room at : ℕ) → (decode room finished at t).ending ≡ finished
    → 2 * length (decode room finished at t).bytes ≡ length t → untext t ≡ go (decode room finished at t).bytes
unfolding decode untext
untext_decode [] room at e h = refl
untext_decode (x ∷ []) room at e h = absurd (alone (placed room at x []) h)
untext_decode (x ∷ y ∷ t) room at e h =
    first room at x y t (decode room finished (suc at) t) (placed room at x (y ∷ [])) refl (untext_decode t room (suc at)) e h

-- the answer of a reading: how it ended, and how many bytes it gave
pub counted_go : (d : Decoded) (e : Ending) (n : ℕ) → counted d e ≡ go n → (e ≡ finished) × (length d.bytes ≡ n)
counted_go d finished n q = (refl, cc)
counted_go d (refused k) n q = let z : ◌≡◌ {A = ℕ} 0 1 = cc in absurd (omega arith)

pub counted_stop : (d : Decoded) (e : Ending) (k : ErrorKind) → counted d e ≡ stop k → e ≡ finished → ⊥
counted_stop d finished k q f = let z : ◌≡◌ {A = ℕ} 0 1 = cc in omega arith
counted_stop d (refused k') k q f = let z : ◌≡◌ {A = ℕ} 0 1 = cc in omega arith
