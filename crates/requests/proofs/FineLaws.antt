-- What a verdict promises of its body.
-- Assumes nothing.
use mathlib.Core.Bool.{Bool, true, false}
use mathlib.Core.Logic.{◌⊎◌, inl, inr, ⊎_elim}
use mathlib.Core.Path.{◌≡◌, refl, sym, ap, subst, ◌∙◌}
use mathlib.Core.List.{List, [], ◌∷◌}
use Rattle.std.specs.Prelude.{Option, None, Some, Ok, Err}
use Prim.Native.Nat.{ℕ, ◌+◌, ◌*◌, ◌/◌, ◌%◌, ◌≤◌, ◌<◌}
use native.Mathlib.Omega.{arith}
use lib.ListN.{length, get_or, take, drop, length-drop}
use lib.Seq.{take-length}
use Rattle.modbus.specs.Step.{Step, stop, go}
use Rattle.modbus.specs.Bytes.{All, word_at}
use Rattle.modbus.specs.Table.{Kind, bit, word, Tab, holdings, kind_of, target, Fits, part}
use Rattle.modbus.specs.Request.{Fn, reads, one, many, mask, both, code, Ask, read, write, writes, masks, swaps, most_read, most_written, octets}
use Rattle.modbus.specs.Storage.{coil_at, register_at, values}
use Rattle.modbus.specs.Setup.{Setup}
use Rattle.modbus.specs.Decode.{IsRead, Lengthy, Valued, asked}
use Rattle.modbus.specs.Drive.{Inside, weigh}
use Rattle.modbus.proofs.StepLaws.{bound_stop, needed_stop}
use Rattle.modbus.proofs.StorageLaws.{length_part}
use Rattle.modbus.proofs.BytesLaws.{bytes_by}
use Rattle.modbus.proofs.RequestLaws.{asked_says}
use Rattle.modbus.proofs.Views.{Hexad, hexad, hexad?}
use Rattle.modbus.proofs.FindLaws.{found_fault}
use Rattle.modbus.proofs.WeighLaws.{went}
use Rattle.requests.specs.Judged.{On, Verdict, refused_by, spoken, weighed, kept, kept_by, judged}
use Rattle.requests.specs.declared.Cells.{Cells}
use Rattle.requests.specs.declared.ReadCells.{ReadCells}
use Rattle.requests.specs.declared.Mask.{Mask}
use Rattle.requests.specs.declared.Exchange.{Exchange}
use Rattle.requests.specs.declared.Request.TheVariants as request
use Rattle.requests.specs.declared.Code.{Code}
use Rattle.requests.specs.declared.Code.TheVariants.{IllegalFunction, IllegalDataAddress, IllegalDataValue}
use Rattle.requests.specs.declared.Refusal.{Refusal}
use Rattle.requests.proofs.JudgedLaws.{many_kept}

-- ---- what a verdict promises of its body

-- a read names a table by its number, has that table's bound and lies inside it
pub record FineRead (s : Setup) (broadcast : Bool) (b : List ℕ) (q : ReadCells) : Type 0 where
  pub tab : Tab
  pub goes : weighed s broadcast b ≡ go (read tab q.address q.count)
  pub function : q.function ≡ code (reads tab)
  pub numbered : get_or b 1 0 ≡ code (reads tab)
  pub some : 1 ≤ q.count
  pub most : q.count ≤ most_read (kind_of tab)
  pub inside : q.address + q.count ≤ s.cells tab
  pub whole : length b ≡ 6
  pub own : ¬ On broadcast

-- it writes these values from this cell on: one, or any number
abbrev pub Stores : Kind → ℕ → List ℕ → Ask → Type 0
Stores k a vs ask = ((v : ℕ) × (ask ≡ write k a v) × (vs ≡ v ∷ [])) ⊎ (ask ≡ writes k a vs)

-- a write's data stand in the body, and are the values that it asks to store
pub record FineWrite (k : Kind) (s : Setup) (broadcast : Bool) (b : List ℕ) (c : Cells) : Type 0 where
  pub fn : Fn
  pub numbered : get_or b 1 0 ≡ code fn
  pub lengthy : Lengthy fn b
  pub valued : Valued fn b
  pub goes : weighed s broadcast b ≡ go (asked fn b)
  pub stores : Stores k c.address (values k c.count (take (octets k c.count) (drop c.at b))) (asked fn b)
  pub some : 1 ≤ c.count
  pub most : c.count ≤ most_written k
  pub inside : c.address + c.count ≤ s.cells (target k)
  pub whole : 6 ≤ length b
  pub held : c.at + octets k c.count ≤ length b
  pub single : c.at ≡ 4 → c.count ≡ 1

-- a mask write has its own eight bytes, and its register lies inside
pub record FineMask (s : Setup) (broadcast : Bool) (b : List ℕ) (m : Mask) : Type 0 where
  pub goes : weighed s broadcast b ≡ go (asked mask b)
  pub numbered : get_or b 1 0 ≡ code mask
  pub whole : length b ≡ 8
  pub asks : asked mask b ≡ masks m.address m.and_mask m.or_mask
  pub inside : m.address + 1 ≤ s.cells holdings

-- a write and read has its data in the body, and both ranges lie inside
pub record FineBoth (s : Setup) (broadcast : Bool) (b : List ℕ) (x : Exchange) : Type 0 where
  pub goes : weighed s broadcast b
      ≡ go (swaps x.read_address x.read_count x.write_address (values word x.write_count (drop 11 b)))
  pub numbered : get_or b 1 0 ≡ code both
  pub some : 1 ≤ x.read_count
  pub most : x.read_count ≤ most_read word
  pub inside : x.read_address + x.read_count ≤ s.cells holdings
  pub within : x.write_address + x.write_count ≤ s.cells holdings
  pub held : length b ≡ 11 + 2 * x.write_count
  pub fits : All (Fits word) (values word x.write_count (drop 11 b))
  pub own : ¬ On broadcast

-- an exception is told only of a function below 128
abbrev pub Told : List ℕ → Option Code → Type 0
Told b None = Unit {0}
Told b (Some c) = get_or b 1 0 ≤ 127

abbrev pub Fine : Setup → Bool → List ℕ → Verdict → Type 0
Fine s broadcast b (Ok (request.Read q)) = FineRead s broadcast b q
Fine s broadcast b (Ok (request.WriteBits c)) = FineWrite bit s broadcast b c
Fine s broadcast b (Ok (request.WriteWords c)) = FineWrite word s broadcast b c
Fine s broadcast b (Ok (request.Mask m)) = FineMask s broadcast b m
Fine s broadcast b (Ok (request.Exchange x)) = FineBoth s broadcast b x
Fine s broadcast b (Err r) = (weighed s broadcast b ≡ stop r) × Told b (spoken r)

-- the high byte of 0000 or FF00 tells the coil
one_bit : (b : List ℕ) → Hexad b → ((i : ℕ) → get_or b i 0 < 256) → Valued (one bit) b
    → values bit 1 (take (octets bit 1) (drop 4 b)) ≡ word_at b 4 / 0xFF00 ∷ []
unfolding part coil_at
one_bit _ (hexad u n p q x z) y v =
    let h = y 5 in
    ap (λ (c : ℕ). c ∷ []) (⊎_elim {C = x / 1 % 2 ≡ (x * 256 + z) / 0xFF00} (λ e. omega arith) (λ e. omega arith) v)

one_word : (b : List ℕ) → Hexad b → values word 1 (take (octets word 1) (drop 4 b)) ≡ word_at b 4 ∷ []
unfolding part register_at
one_word _ (hexad u n p q x z) = refl

one_bounds : (k : Kind) → (1 ≤ most_written k) × (4 + octets k 1 ≤ 6)
one_bounds bit = omega arith
one_bounds word = omega arith

-- ---- what stops a body is fine to tell

refused_told : (broadcast : Bool) (c : Code) (b : List ℕ) → get_or b 1 0 ≤ 127 → Told b (spoken (refused_by broadcast c))
refused_told true c b h = tt
refused_told false c b h = h

stop_told : (s : Setup) (broadcast : Bool) (b : List ℕ) (r : Refusal) → weighed s broadcast b ≡ stop r → Told b (spoken r)
unfolding weigh
stop_told s broadcast b r e =
    needed_stop _ _ _ e (λ n q. subst (λ x. Told b (spoken x)) q tt)
    λ p e₁. bound_stop _ _ e₁ (λ q. subst (λ x. Told b (spoken x)) (found_fault code _ _ _ q) (refused_told broadcast IllegalFunction b p))
    λ fn q e₂. needed_stop _ _ _ e₂ (λ n q. subst (λ x. Told b (spoken x)) q tt)
    λ o e₃. needed_stop _ _ _ e₃ (λ n q. subst (λ x. Told b (spoken x)) q tt)
    λ l e₄. needed_stop _ _ _ e₄ (λ n q. subst (λ x. Told b (spoken x)) q (refused_told broadcast IllegalDataValue b p))
    λ y e₅. needed_stop _ _ _ e₅ (λ n q. subst (λ x. Told b (spoken x)) q (refused_told broadcast IllegalDataAddress b p))
    λ i e₆. let z : ◌≡◌ {A = ℕ} 0 1 = cc in absurd (omega arith)

module _ (s : Setup) (broadcast : Bool) (b : List ℕ) where
  one_fine : (k : Kind) (v : ℕ) → get_or b 1 0 ≡ code (one k) → weighed s broadcast b ≡ go (asked (one k) b) → length b ≡ 6 → Valued (one k) b
      → asked (one k) b ≡ write k (word_at b 2) v → values k 1 (take (octets k 1) (drop 4 b)) ≡ v ∷ []
      → word_at b 2 + 1 ≤ s.cells (target k) → FineWrite k s broadcast b (record { address = word_at b 2; count = 1; at = 4 })
  one_fine k v n e l y q r i =
      record {
        fn = one k;
        numbered = n;
        lengthy = l;
        valued = y;
        goes = e;
        stores = inl (v, q, r);
        some = omega arith;
        most = (one_bounds k).0;
        inside = i;
        whole = omega arith;
        held = omega (arith, one_bounds k);
        single = λ e. refl;
      }

  many_fine : (k : Kind) → get_or b 1 0 ≡ code (many k) → weighed s broadcast b ≡ go (asked (many k) b) → Lengthy (many k) b → Valued (many k) b
      → word_at b 2 + word_at b 4 ≤ s.cells (target k) → FineWrite k s broadcast b (record { address = word_at b 2; count = word_at b 4; at = 7 })
  many_fine k m e l v i =
      let d = drop 7 b in
      let n : octets k (word_at b 4) ≡ length d = simp length-drop (omega (arith, v.1.1)) in
      let t : take (octets k (word_at b 4)) d ≡ d = ap (λ (i : ℕ). take i d) n ∙ take-length d in
      record {
        fn = many k;
        numbered = m;
        lengthy = l;
        valued = v;
        goes = e;
        stores = inr (ap (λ (x : List ℕ). writes k (word_at b 2) (values k (word_at b 4) x)) (sym t));
        some = v.0;
        most = v.1.0;
        inside = i;
        whole = omega arith;
        held = omega (arith, v.1.1);
        single = λ e. absurd (omega arith);
      }

  module _ (bytes : (i : ℕ) → get_or b i 0 < 256) where
    kept_fine : (fn : Fn) → get_or b 1 0 ≡ code fn → ¬ (On broadcast × IsRead fn) → weighed s broadcast b ≡ go (asked fn b) → Lengthy fn b → Valued fn b
        → Inside s (asked fn b) → Fine s broadcast b (Ok (kept (asked fn b)))
    kept_fine (reads t) n o e l v i =
        record {
          tab = t;
          goes = e;
          function = refl;
          numbered = n;
          some = v.0;
          most = v.1;
          inside = i.0;
          whole = l;
          own = λ h. o (h, tt);
        }
    kept_fine (one bit) n o e l v i = one_fine bit _ n e l v refl (one_bit b (hexad? b l) bytes v) i.0
    kept_fine (one word) n o e l v i = one_fine word _ n e l v refl (one_word b (hexad? b l)) i.0
    kept_fine (many bit) n o e l v i =
        subst (λ x. Fine s broadcast b (Ok x)) (sym (many_kept bit b).1) (many_fine bit n e l v (rw length_part at i.0))
    kept_fine (many word) n o e l v i =
        subst (λ x. Fine s broadcast b (Ok x)) (sym (many_kept word b).1) (many_fine word n e l v (rw length_part at i.0))
    kept_fine mask n o e l v i = record { goes = e; numbered = n; whole = l; asks = refl; inside = i.0 }
    kept_fine both n o e l v i =
        let c = length_part (register_at (drop 11 b)) 0 (word_at b 8) in
        record {
          goes = rw c e;
          numbered = n;
          some = v.0.0;
          most = v.0.1;
          inside = i.0;
          within = i.1.0;
          held = rw c (omega (arith, v.1.1.1));
          fits = rw c (asked_says both b (bytes_by b bytes) n l v).permitted.4;
          own = λ h. o (h, tt);
        }

    judged_fine : Fine s broadcast b (judged s broadcast b)
    unfolding judged
    judged_fine = by (weighed s broadcast b) refl
      where
        by : (w : Step Refusal Ask) → weighed s broadcast b ≡ w → Fine s broadcast b (kept_by w)
        by (stop r) e = (e, stop_told s broadcast b r e)
        by (go a) e = went _ _ s _ b e λ fn n o l v i z. subst (λ x. Fine s broadcast b (Ok (kept x))) z (kept_fine fn n o (rw z e) l v (rw z i))

    -- for a match on the answer
    pub fine : {r : Verdict} → r ≡ judged s broadcast b → {q : Verdict} → r ≡ q → Fine s broadcast b q
    fine e f = subst (Fine s broadcast b) (sym e ∙ f) judged_fine
