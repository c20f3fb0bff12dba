-- The order of faults from the function on, by each way out of it; what a body that goes through tells; and two readings of the order go together.
-- Assumes nothing.
use mathlib.Core.Logic.{◌≢◌}
use mathlib.Core.Path.{◌≡◌, refl, sym, ap, subst, ◌∙◌}
use mathlib.Core.List.{List, [], ◌∷◌}
use Prim.Native.Nat.{ℕ, ◌≤◌}
use lib.ListN.{get_or}
use Rattle.modbus.specs.Step.{Step, stop, go, ◌>>=◌, ◌>>◌, need, choose, ◌≟◌}
use Rattle.modbus.specs.Request.{Fn, code, offered, Ask}
use Rattle.modbus.specs.Setup.{Setup, proto}
use Rattle.modbus.specs.Decode.{Silent, read_ignored_quiet, wrong_length_quiet, bad_function_quiet, IsRead, Lengthy, Valued, asked}
use Rattle.modbus.specs.Drive.{find, Inside, weigh}
use Rattle.modbus.proofs.StepLaws.{pass, fail, follow, halt, bound, needed}
use Rattle.modbus.proofs.FindLaws.{code_low, find_fn, found_fn, find_none}

-- ---- each way out

module _ {F P : Type 0} (silent : Silent → F) (refused : ℕ → F) (s : Setup) (broadcast : Dec P) (b : List ℕ) where
  abbrev Weighs : Step F Ask → Type 0
  Weighs w = weigh silent refused s broadcast b ≡ w

  pub weigh_high : ¬ (get_or b 1 0 ≤ 127) → Weighs (stop (silent bad_function_quiet))
  unfolding weigh
  weigh_high n = fail _ _ _ n

  pub weigh_none : get_or b 1 0 ≤ 127 → ((fn : Fn) → get_or b 1 0 ≢ code fn) → Weighs (stop (refused 1))
  unfolding weigh
  weigh_none l n = pass _ _ _ l ∙ halt _ _ (find_none code _ _ n _)

  module _ (fn : Fn) (e : get_or b 1 0 ≡ code fn) where
    low : get_or b 1 0 ≤ 127
    low = rw e (code_low fn)

    pub weigh_read : P → IsRead fn → Weighs (stop (silent read_ignored_quiet))
    unfolding weigh
    weigh_read p i = pass _ _ _ low ∙ follow _ _ (find_fn _ _ (proto s) fn e) ∙ fail _ _ _ (λ (n : ¬ (P × IsRead fn)). n (p, i))

    module _ (heeded : ¬ (P × IsRead fn)) where
      pub weigh_length : ¬ Lengthy fn b → Weighs (stop (silent wrong_length_quiet))
      unfolding weigh
      weigh_length n = pass _ _ _ low ∙ follow _ _ (find_fn _ _ (proto s) fn e) ∙ pass _ _ _ heeded ∙ fail _ _ _ n

      module _ (l : Lengthy fn b) where
        pub weigh_value : ¬ Valued fn b → Weighs (stop (refused 3))
        unfolding weigh
        weigh_value n = pass _ _ _ low ∙ follow _ _ (find_fn _ _ (proto s) fn e) ∙ pass _ _ _ heeded ∙ pass _ _ _ l ∙ fail _ _ _ n

        module _ (v : Valued fn b) where
          pub weigh_address : ¬ Inside s (asked fn b) → Weighs (stop (refused 2))
          unfolding weigh
          weigh_address n =
              pass _ _ _ low ∙ follow _ _ (find_fn _ _ (proto s) fn e) ∙ pass _ _ _ heeded ∙ pass _ _ _ l ∙ pass _ _ _ v ∙ fail _ _ _ n

          pub weigh_goes : Inside s (asked fn b) → Weighs (go (asked fn b))
          unfolding weigh
          weigh_goes i =
              pass _ _ _ low ∙ follow _ _ (find_fn _ _ (proto s) fn e) ∙ pass _ _ _ heeded ∙ pass _ _ _ l ∙ pass _ _ _ v ∙ pass _ _ _ i

  -- what a body that goes through tells
  pub went : {C : Type 0} {a : Ask} → Weighs (go a)
      → ((fn : Fn) → get_or b 1 0 ≡ code fn → ¬ (P × IsRead fn) → Lengthy fn b → Valued fn b → Inside s a → asked fn b ≡ a → C) → C
  unfolding weigh
  went {a = a} e k =
      needed _ _ _ e λ p₁ e₁. bound _ _ e₁ λ fn p₂ e₂. needed _ _ _ e₂ λ p₃ e₃. needed _ _ _ e₃ λ p₄ e₄. needed _ _ _ e₄ λ p₅ e₅.
      needed _ _ _ e₅ λ p₆ e₆.
      let z : asked fn b ≡ a = cc in
      k fn (found_fn code _ _ _ fn p₂) p₃ p₄ p₅ (subst (Inside s) z p₆) z

-- ---- two readings of one order

-- both go through to the same, or both stop, at faults that belong together
abbrev pub Alike : {F G A : Type 0} → (F → G → Type 0) → Step F A → Step G A → Type 0
Alike R (stop x) (stop y) = R x y
Alike R (stop x) (go b) = ⊥
Alike R (go a) (stop y) = ⊥
Alike R (go a) (go b) = a ≡ b

module _ {F G : Type 0} (R : F → G → Type 0) where
  need_alike : {A P Q : Type 0} (d : Dec P) (e : Dec Q) (x : F) (y : G) (k : Step F A) (l : Step G A) → (P → Q) → (Q → P) → R x y → Alike R k l
      → Alike R (need d x >> k) (need e y >> l)
  unfolding ◌>>◌ need
  need_alike (yes p) (yes q) x y k l f g r h = h
  need_alike (yes p) (no q) x y k l f g r h = absurd (q (f p))
  need_alike (no p) (yes q) x y k l f g r h = absurd (p (g q))
  need_alike (no p) (no q) x y k l f g r h = r

  bind_alike : {A B : Type 0} (m : Step F A) (n : Step G A) (k : A → Step F B) (l : A → Step G B) → Alike R m n → ((a : A) → Alike R (k a) (l a))
      → Alike R (m >>= k) (n >>= l)
  unfolding ◌>>=◌
  bind_alike (stop x) (stop y) k l h f = h
  bind_alike (stop x) (go b) k l h f = absurd h
  bind_alike (go a) (stop y) k l h f = absurd h
  bind_alike (go a) (go b) k l h f = subst (λ (c : _). Alike R (k a) (l c)) h (f a)

  find_alike : {A : Type 0} (num : A → ℕ) (x : F) (y : G) (n : ℕ) (l : List A) → R x y → Alike R (find num x n l) (find num y n l)
  unfolding find choose
  find_alike num x y n [] r = r
  find_alike num x y n (a ∷ l) r = by (n ≟ num a) (find_alike num x y n l r)
    where
      by : {P : Type 0} (d : Dec P) → Alike R (find num x n l) (find num y n l)
          → Alike R (choose d (go a) (find num x n l)) (choose d (go a) (find num y n l))
      by (yes p) h = refl
      by (no p) h = h

  -- what went together
  pub by_alike : {A C : Type 0} (m : Step F A) (n : Step G A) → Alike R m n → ((x : F) (y : G) → m ≡ stop x → n ≡ stop y → R x y → C)
      → ((a : A) → m ≡ go a → n ≡ go a → C) → C
  by_alike (stop x) (stop y) h f g = f x y refl refl h
  by_alike (stop x) (go b) h f g = absurd h
  by_alike (go a) (stop y) h f g = absurd h
  by_alike (go a) (go b) h f g = g a refl (ap go (sym h))

  module _ {P Q : Type 0} (silent : Silent → F) (refused : ℕ → F) (silent' : Silent → G) (refused' : ℕ → G) (s : Setup) (d : Dec P) (e : Dec Q) (b : List ℕ) where
    -- of the codes there are three
    pub weigh_coded_alike : (P → Q) → (Q → P) → ((o : Silent) → R (silent o) (silent' o)) → R (refused 1) (refused' 1) → R (refused 2) (refused' 2)
        → R (refused 3) (refused' 3) → Alike R (weigh silent refused s d b) (weigh silent' refused' s e b)
    unfolding weigh
    weigh_coded_alike f g q c₁ c₂ c₃ =
        need_alike _ _ _ _ _ _ (λ h. h) (λ h. h) (q bad_function_quiet)
        (bind_alike _ _ _ _ (find_alike code _ _ _ (offered (proto s)) c₁) λ fn.
        need_alike _ _ _ _ _ _ (λ n h. n (g h.0, h.1)) (λ n h. n (f h.0, h.1)) (q read_ignored_quiet)
        (need_alike _ _ _ _ _ _ (λ h. h) (λ h. h) (q wrong_length_quiet)
        (need_alike _ _ _ _ _ _ (λ h. h) (λ h. h) c₃
        (need_alike _ _ _ _ _ _ (λ h. h) (λ h. h) c₂ refl))))

    pub weigh_alike : (P → Q) → (Q → P) → ((o : Silent) → R (silent o) (silent' o)) → ((c : ℕ) → R (refused c) (refused' c))
        → Alike R (weigh silent refused s d b) (weigh silent' refused' s e b)
    weigh_alike f g q c = weigh_coded_alike f g q (c 1) (c 2) (c 3)
