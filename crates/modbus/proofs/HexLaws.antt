-- Hexadecimal digits both ways, and text.
-- Assumes nothing.
use mathlib.Core.Path.{◌≡◌, refl, sym, ap, ◌∙◌, subst}
use mathlib.Core.List.{List, [], ◌∷◌, ◌++◌, map}
use Prim.Native.Nat.{ℕ, zero, suc, ◌+◌, ◌-◌, ◌*◌, ◌/◌, ◌%◌, ◌≤◌, ◌<◌}
use native.Mathlib.Omega.{arith}
use native.Mathlib.Nat.{div-add-mod'}
use lib.Arith.{digits_div, digits_mod}
use lib.ListN.{length, take, drop, get_or, length-map, get_or-map}
use Rattle.modbus.specs.Step.{Step, stop, go, ◌≤?◌, ◌and?◌}
use Rattle.modbus.specs.Bytes.{Bytes, All}
use Rattle.modbus.specs.Hex.{digit, undigit, kinded, raised, spell, spelt, character, text, untext}
use Rattle.modbus.specs.declared.ErrorKind.{ErrorKind}
use Rattle.modbus.specs.declared.ErrorKind.TheVariants.{OOB, FrameBroken}
use Rattle.modbus.proofs.StepLaws.{pass, fail, follow, bound, pick_yes, pick_no, picked}

pub digit_low : (n : ℕ) → n ≤ 9 → digit n ≡ 48 + n
unfolding digit
digit_low n h = pick_yes _ _ _ h

pub digit_high : (n : ℕ) → 10 ≤ n → digit n ≡ 55 + n
unfolding digit
digit_high n h = pick_no _ _ _ (λ (k : n ≤ 9). omega arith)

-- ---- what a character stands for, by its range

pub undigit_figure : (c : ℕ) → 48 ≤ c → c ≤ 57 → undigit c ≡ go (c - 48)
unfolding undigit
undigit_figure c h k = pick_yes _ _ _ (h, k)

pub undigit_letter : (c : ℕ) → 65 ≤ c → c ≤ 70 → undigit c ≡ go (c - 55)
unfolding undigit
undigit_letter c h k =
    pick_no _ _ _ (λ (p : (48 ≤ c) × (c ≤ 57)). omega arith) ∙ pick_yes _ _ _ (h, k)

pub undigit_none : (c : ℕ) → ¬ ((48 ≤ c) × (c ≤ 57)) → ¬ ((65 ≤ c) × (c ≤ 70)) → undigit c ≡ stop FrameBroken
unfolding undigit
undigit_none c h k = pick_no _ _ _ h ∙ pick_no _ _ _ k

-- a digit's character stands for the digit, and what a character stands for is a digit with that character
pub undigit_digit : (n : ℕ) → n < 16 → undigit (digit n) ≡ go n
undigit_digit n h = by (n ≤? 9)
  where
    by : Dec (n ≤ 9) → undigit (digit n) ≡ go n
    by (yes p) = rw (digit_low n p) (undigit_figure (48 + n) (omega arith) (omega arith) ∙ ap go (omega arith))
    by (no p) =
        let k : 10 ≤ n = omega (arith, p) in
        rw (digit_high n k) (undigit_letter (55 + n) (omega arith) (omega arith) ∙ ap go (omega arith))

pub digit_undigit : (c n : ℕ) → undigit c ≡ go n → (n < 16) × (digit n ≡ c)
unfolding undigit
digit_undigit c n e =
    picked _ _ _ e
    (λ p q. let z : c - 48 ≡ n = cc in (omega (arith, p), digit_low n (omega (arith, p)) ∙ omega (arith, p)))
    (λ _ f.
    picked _ _ _ f
    (λ p q. let z : c - 55 ≡ n = cc in (omega (arith, p), digit_high n (omega (arith, p)) ∙ omega (arith, p)))
    (λ _ q. let z : ◌≡◌ {A = ℕ} 0 1 = cc in absurd (omega arith)))

-- ---- either case

abbrev pub Figure : ℕ → Type 0
Figure c = (48 ≤ c) × (c ≤ 57)

abbrev pub Capital : ℕ → Type 0
Capital c = (65 ≤ c) × (c ≤ 70)

abbrev pub Small : ℕ → Type 0
Small c = (97 ≤ c) × (c ≤ 102)

pub kinded_figure : (c : ℕ) → 48 ≤ c → c ≤ 57 → kinded c ≡ go (c - 48, 0)
unfolding kinded
kinded_figure c h k = pick_yes _ _ _ (h, k)

pub kinded_capital : (c : ℕ) → 65 ≤ c → c ≤ 70 → kinded c ≡ go (c - 55, 1)
unfolding kinded
kinded_capital c h k = pick_no _ _ _ (λ (p : Figure c). omega arith) ∙ pick_yes _ _ _ (h, k)

pub kinded_small : (c : ℕ) → 97 ≤ c → c ≤ 102 → kinded c ≡ go (c - 87, 2)
unfolding kinded
kinded_small c h k =
    pick_no _ _ _ (λ (p : Figure c). omega arith) ∙ pick_no _ _ _ (λ (p : Capital c). omega arith) ∙ pick_yes _ _ _ (h, k)

pub kinded_none : (c : ℕ) → ¬ Figure c → ¬ Capital c → ¬ Small c → kinded c ≡ stop FrameBroken
unfolding kinded
kinded_none c h k j = pick_no _ _ _ h ∙ pick_no _ _ _ k ∙ pick_no _ _ _ j

pub raised_small : (c : ℕ) → 97 ≤ c → c ≤ 102 → raised c ≡ c - 32
unfolding raised
raised_small c h k = pick_yes _ _ _ (h, k)

pub raised_other : (c : ℕ) → ¬ Small c → raised c ≡ c
unfolding raised
raised_other c h = pick_no _ _ _ h

pub spell_other : (h c : ℕ) → ¬ Small c → spell h c ≡ c
unfolding spell
spell_other zero c n = refl
spell_other (suc h) c n = raised_other c n

-- what comes before the letters stands for itself, and nothing else for it
pub spell_before : (h c : ℕ) → c ≤ 64 → spell h c ≡ c
spell_before h c k = spell_other h c (λ q. omega (arith, q))

pub spell_behind : (h c : ℕ) → 65 ≤ c → 65 ≤ spell h c
unfolding spell
spell_behind zero c k = k
spell_behind (suc h) c k = by ((97 ≤? c) and? (c ≤? 102))
  where
    by : Dec (Small c) → 65 ≤ raised c
    by (yes q) = omega (arith, raised_small c q.0 q.1)
    by (no n) = omega (arith, raised_other c n)

pub spell_back : (h c d : ℕ) → d ≤ 64 → spell h c ≡ d → c ≡ d
spell_back h c d k e = by (c ≤? 64)
  where
    by : Dec (c ≤ 64) → c ≡ d
    by (yes p) = sym (spell_before h c p) ∙ e
    by (no n) = absurd (omega (arith, spell_behind h c (omega (arith, n))))

-- what the switch makes of a digit and its kind: strict, a small letter is none
abbrev pub taken : ℕ → Step ErrorKind (ℕ × ℕ) → Step ErrorKind ℕ
taken h (stop k) = stop k
taken h (go (v, zero)) = go v
taken h (go (v, suc zero)) = go v
taken zero (go (v, suc (suc k))) = stop FrameBroken
taken (suc h) (go (v, suc (suc k))) = go v

pub undigit_taken : (h c : ℕ) → undigit (spell h c) ≡ taken h (kinded c)
unfolding spell
undigit_taken h c = by ((48 ≤? c) and? (c ≤? 57)) ((65 ≤? c) and? (c ≤? 70)) ((97 ≤? c) and? (c ≤? 102))
  where
    small : (j : ℕ) → Small c → undigit (spell j c) ≡ taken j (go (c - 87, 2))
    small zero q = undigit_none c (λ p. omega (arith, p, q)) (λ p. omega (arith, p, q))
    small (suc j) q =
        rw (raised_small c q.0 q.1) (undigit_letter (c - 32) (omega (arith, q)) (omega (arith, q)) ∙ ap go (omega (arith, q)))

    by : Dec (Figure c) → Dec (Capital c) → Dec (Small c) → undigit (spell h c) ≡ taken h (kinded c)
    by (yes p) d e =
        ap undigit (spell_other h c (λ q. omega (arith, p, q))) ∙ undigit_figure c p.0 p.1 ∙ rw (kinded_figure c p.0 p.1)
    by (no n) (yes p) e =
        ap undigit (spell_other h c (λ q. omega (arith, p, q))) ∙ undigit_letter c p.0 p.1 ∙ rw (kinded_capital c p.0 p.1)
    by (no n) (no m) (yes p) = small h p ∙ rw (kinded_small c p.0 p.1)
    by (no n) (no m) (no l) = ap undigit (spell_other h c l) ∙ undigit_none c n m ∙ rw (kinded_none c n m l)

-- ---- a text as the switch has it read

pub length_spelt : (h : ℕ) (l : List ℕ) → length (spelt h l) ≡ length l
unfolding spelt
length_spelt h l = length-map l (spell h)

pub get_d_spelt : (h : ℕ) (l : List ℕ) (i : ℕ) → get_or (spelt h l) i 0 ≡ spell h (get_or l i 0)
unfolding spelt
get_d_spelt h l i =
    ap (λ (d : ℕ). get_or (map (spell h) l) i d) (sym (spell_other h 0 (λ q. omega (arith, q)))) ∙ get_or-map (spell h) l i 0

pub take_spelt : (h : ℕ) (l : List ℕ) (n : ℕ) → take n (spelt h l) ≡ spelt h (take n l)
unfolding spelt
take_spelt h l zero = refl
take_spelt h [] (suc n) = refl
take_spelt h (c ∷ l) (suc n) = rw (take_spelt h l n)

pub drop_spelt : (h : ℕ) (l : List ℕ) (n : ℕ) → drop n (spelt h l) ≡ spelt h (drop n l)
unfolding spelt
drop_spelt h l zero = refl
drop_spelt h [] (suc n) = refl
drop_spelt h (c ∷ l) (suc n) = drop_spelt h l n

-- strict, every text stands for itself; lenient, one without small letters does
pub spelt_strict : (l : List ℕ) → spelt 0 l ≡ l
unfolding spell spelt
spelt_strict [] = refl
spelt_strict (c ∷ l) = rw (spelt_strict l)

pub spelt_same : (h : ℕ) (l : List ℕ) → All (λ c. ¬ Small c) l → spelt h l ≡ l
unfolding spelt
spelt_same h [] n = refl
spelt_same h (c ∷ l) n = rw (spell_other h c n.0, spelt_same h l n.1)

pub spelt_before : (h : ℕ) (l : List ℕ) → All (λ c. c ≤ 64) l → spelt h l ≡ l
unfolding spelt
spelt_before h [] k = refl
spelt_before h (c ∷ l) k = rw (spell_before h c k.0, spelt_before h l k.1)

pub spelt_back : (h : ℕ) (l m : List ℕ) → All (λ c. c ≤ 64) m → spelt h l ≡ m → l ≡ m
unfolding spelt
spelt_back h [] m k e = e
spelt_back h (c ∷ l) [] k e = let z : ◌≡◌ {A = ℕ} 0 1 = cc in absurd (omega arith)
spelt_back h (c ∷ l) (d ∷ m) k e =
    let p : spell h c ≡ d = cc in
    let q : map (spell h) l ≡ m = cc in
    rw (spell_back h c d k.0 p, spelt_back h l m k.1 q)

pub bytes_spelt : (h : ℕ) (l : List ℕ) → Bytes l → Bytes (spelt h l)
unfolding spell spelt
bytes_spelt h [] y = tt
bytes_spelt h (c ∷ l) y = (below h ((97 ≤? c) and? (c ≤? 102)), bytes_spelt h l y.1)
  where
    below : (j : ℕ) → Dec (Small c) → spell j c < 256
    below zero d = y.0
    below (suc j) (yes p) = omega (arith, y.0, raised_small c p.0 p.1)
    below (suc j) (no n) = omega (arith, y.0, raised_other c n)

-- ---- the character of any byte

pub character_fits : (n : ℕ) → n ≤ 200 → character n ≡ go (digit n)
unfolding character
character_fits n h = pass _ _ _ (by (n ≤? 9))
  where
    by : Dec (n ≤ 9) → digit n ≤ 255
    by (yes p) = omega (arith, digit_low n p)
    by (no p) = omega (arith, p, digit_high n (omega (arith, p)))

pub character_none : (n : ℕ) → 201 ≤ n → character n ≡ stop OOB
unfolding character
character_none n h = fail _ _ _ (λ (k : digit n ≤ 255). omega (arith, digit_high n (omega arith)))

-- ---- text

pub length_text : (l : List ℕ) → length (text l) ≡ 2 * length l
unfolding text
length_text [] = refl
length_text (b ∷ l) = let i = length_text l in omega arith

pub text_append : (l m : List ℕ) → text (l ++ m) ≡ text l ++ text m
unfolding text
text_append [] m = refl
text_append (b ∷ l) m = rw (text_append l m)

digit_lt : (n : ℕ) → n < 16 → digit n < 256
digit_lt n h = by (n ≤? 9)
  where
    by : Dec (n ≤ 9) → digit n < 256
    by (yes p) = omega (arith, digit_low n p)
    by (no p) = omega (arith, p, digit_high n (omega (arith, p)))

digit_capital : (n : ℕ) → n < 16 → ¬ Small (digit n)
digit_capital n h q = by (n ≤? 9)
  where
    by : Dec (n ≤ 9) → ⊥
    by (yes p) = omega (arith, q, digit_low n p)
    by (no p) = omega (arith, p, q, digit_high n (omega (arith, p)))

-- no text of bytes has a small letter
pub text_capital : (l : List ℕ) → Bytes l → All (λ c. ¬ Small c) (text l)
unfolding text
text_capital [] y = tt
text_capital (b ∷ l) y =
    (digit_capital (b / 16) (omega (arith, y.0)), (digit_capital (b % 16) (omega arith), text_capital l y.1))

pub bytes_text : (l : List ℕ) → Bytes l → Bytes (text l)
unfolding text
bytes_text [] y = tt
bytes_text (b ∷ l) y =
    (digit_lt (b / 16) (omega (arith, y.0)), (digit_lt (b % 16) (omega arith), bytes_text l y.1))

-- text of bytes stands for the bytes, and what text stands for are bytes with that text
pub untext_text : (l : List ℕ) → Bytes l → untext (text l) ≡ go l
unfolding untext text
untext_text [] y = refl
untext_text (b ∷ l) y =
    follow _ _ (undigit_digit (b / 16) (omega (arith, y.0)))
    ∙ follow _ _ (undigit_digit (b % 16) (omega arith))
    ∙ follow _ _ (untext_text l y.1)
    ∙ ap (λ c. go (c ∷ l)) (div-add-mod' b 16)

pub text_untext : (t l : List ℕ) → untext t ≡ go l → (t ≡ text l) × Bytes l
unfolding untext text
text_untext [] l e = let z : [] ≡ l = cc in subst (λ b. ([] ≡ text b) × Bytes b) z (refl, tt)
text_untext (h ∷ []) l e = let z : ◌≡◌ {A = ℕ} 0 1 = cc in absurd (omega arith)
text_untext (h ∷ g ∷ t) l e =
    bound _ _ e λ a p e₁.
    bound _ _ e₁ λ b q e₂.
    bound _ _ e₂ λ m r e₃.
    let z : (a * 16 + b) ∷ m ≡ l = cc in
    let (ha, x) = digit_undigit h a p in
    let (hb, w) = digit_undigit g b q in
    let (i, y) = text_untext t m r in
    subst (λ d. (h ∷ g ∷ t ≡ text d) × Bytes d) z (simp (digits_div, digits_mod, x, w, i), (omega arith, y))
