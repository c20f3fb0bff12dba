-- The request that a body says, or that it says none: what the verdict on it tells.
-- Assumes nothing.
use mathlib.Core.Bool.{false}
use Rattle.std.proofs.lemmas.Bool.{false≢true}
use mathlib.Core.Logic.{inl, inr}
use mathlib.Core.Path.{◌≡◌, refl, sym, ap, ◌∙◌, subst}
use mathlib.Core.List.{List}
use Prim.Native.Nat.{ℕ, ◌<◌}
use native.Mathlib.Omega.{arith}
use Rattle.std.specs.Prelude.{Ok, Err, MatchResult}
use lib.ListN.{get_or, drop}
use Rattle.modbus.specs.Step.{stop, go}
use Rattle.modbus.specs.Table.{Kind, bit, word}
use Rattle.modbus.specs.Request.{mask, code, Ask, read, swaps, fn_of}
use Rattle.modbus.specs.Storage.{values}
use Rattle.modbus.specs.Decode.{Message, IsRead, asked}
use Rattle.modbus.proofs.StepLaws.{follow, halt}
use Rattle.modbus.proofs.WeighLaws.{weigh_alike, by_alike}
use Rattle.modbus.proofs.RequestLaws.{fn_asked}
use Rattle.requests.specs.Judged.{Verdict, weighed, judged, verdict_paper}
use Rattle.requests.specs.declared.Cells.{Cells}
use Rattle.requests.specs.declared.ReadCells.{ReadCells}
use Rattle.requests.specs.declared.Mask.{Mask}
use Rattle.requests.specs.declared.Exchange.{Exchange}
use Rattle.requests.specs.declared.Request.TheVariants as request
use Rattle.requests.specs.declared.Refusal.{Refusal}
use Rattle.requests.proofs.FineLaws.{Stores, Fine, FineRead, FineWrite, FineMask, FineBoth, fine}
use Rattle.requests.proofs.Unique.{verdict_paper_law}
use Rattle.client.specs.Asking.{Declined, bad_request, every_cell, no_broadcast, said_by, shown_count, replied}
use Rattle.client.specs.Hearing.{echoed, failed, Said, Unsaid, values_of, replied_to}
use Rattle.client.proofs.FunctionLaws.{by_step}

-- ---- the request that a body says

module _ (n : ℕ) (m : Message) where
  -- what is weighed of the body, with every fault as no request
  says : {C : Type 0} → ((w : Refusal) → weighed (every_cell n) false m.body ≡ stop w → said_by n m ≡ stop bad_request → C)
      → ((a : Ask) → weighed (every_cell n) false m.body ≡ go a → said_by n m ≡ go (m, a) → C) → C
  says f g =
      by_alike (λ (x : Declined) (w : Refusal). x ≡ bad_request) _ _
      (weigh_alike _ _ _ _ _ (every_cell n) no_broadcast _ m.body (λ h. h) (λ h. h) (λ o. refl) (λ c. refl))
      (λ x w p q r. f w q (halt _ _ (p ∙ ap stop r)))
      (λ a p q. g a q (follow _ _ p))

  pub said_goes : (a : Ask) → weighed (every_cell n) false m.body ≡ go a → said_by n m ≡ go (m, a)
  said_goes a e =
      says (λ w q r. let z : ◌≡◌ {A = ℕ} 0 1 = cc in absurd (omega arith))
      (λ c q r. let z : c ≡ a = cc in r ∙ ap (λ (x : Ask). go (m, x)) z)

  pub said_stops : (w : Refusal) → weighed (every_cell n) false m.body ≡ stop w → said_by n m ≡ stop bad_request
  said_stops w e = says (λ v q r. r) (λ a q r. let z : ◌≡◌ {A = ℕ} 0 1 = cc in absurd (omega arith))

  module _ (r : List ℕ) (room : ℕ) where
    pub replied_said : (a : Ask) → weighed (every_cell n) false m.body ≡ go a → replied_to n m r room ≡ replied n m a r room
    replied_said a e = follow _ _ (said_goes a e)

    pub replied_unsaid : (w : Refusal) → weighed (every_cell n) false m.body ≡ stop w → replied_to n m r room ≡ stop bad_request
    replied_unsaid w e = halt _ _ (said_stops w e)

module _ (n : ℕ) (m : Message) (r : List ℕ) (room : ℕ) where
  pub replied_failed : Unsaid n m.body → replied_to n m r room ≡ stop bad_request
  replied_failed u =
      by_step (weighed (every_cell n) false m.body)
      (λ a e. absurd (false≢true (sym (ap failed e) ∙ u)))
      (λ x e. replied_unsaid n m r room x e)

-- ---- what a verdict tells

-- a write of values shows none, and repeats six bytes
Mute : Ask → Type 0
Mute a = (0 ≡ shown_count a) × (IsRead (fn_of a) → ⊥) × (echoed a ≡ 6)

stores_mute : (k : Kind) (s : ℕ) (vs : List ℕ) (a : Ask) → Stores k s vs a → Mute a
unfolding Mute
stores_mute k s vs a (inl (v, e, w)) = subst Mute (sym e) (refl, (λ i. i), refl)
stores_mute k s vs a (inr e) = subst Mute (sym e) (refl, (λ i. i), refl)

module _ (n : ℕ) (b : List ℕ) where
  read_said : (q : ReadCells) → FineRead (every_cell n) false b q → Said n b q.count
  read_said q h =
      record {
        ask = read h.tab q.address q.count;
        asks = record { counted = refl; numbered = h.numbered; some = λ _. h.some; most = h.most; whole = omega (arith, h.whole); repeats = omega (arith, h.whole) };
        goes = h.goes;
      }

  stores_said : (k : Kind) (c : Cells) → FineWrite k (every_cell n) false b c → Said n b 0
  unfolding Mute
  stores_said k c h =
      let m = stores_mute k _ _ (asked h.fn b) h.stores in
      record {
        ask = asked h.fn b;
        asks =
            record {
              counted = m.0;
              numbered = h.numbered ∙ ap code (sym (fn_asked h.fn b));
              some = λ i. absurd (m.1 i);
              most = omega arith;
              whole = h.whole;
              repeats = omega (arith, m.2, h.whole);
            };
        goes = h.goes;
      }

  masked_said : (m : Mask) → FineMask (every_cell n) false b m → Said n b 0
  masked_said m h =
      record {
        ask = asked mask b;
        asks = record { counted = refl; numbered = h.numbered; some = λ i. absurd i; most = omega arith; whole = omega (arith, h.whole); repeats = omega (arith, h.whole) };
        goes = h.goes;
      }

  both_said : (x : Exchange) → FineBoth (every_cell n) false b x → Said n b x.read_count
  both_said x h =
      record {
        ask = swaps x.read_address x.read_count x.write_address (values word x.write_count (drop 11 b));
        asks = record { counted = refl; numbered = h.numbered; some = λ _. h.some; most = h.most; whole = omega (arith, h.held); repeats = omega (arith, h.held) };
        goes = h.goes;
      }

  module _ (bytes : (i : ℕ) → get_or b i 0 < 256) (v : Verdict) (e : verdict_paper v ≡ verdict_paper (judged (every_cell n) false b)) where
    tells : (v : Verdict) → Fine (every_cell n) false b v → MatchResult v (λ q. Said n b (values_of q)) (λ r. Unsaid n b)
    tells (Ok (request.Read q)) h = read_said q h
    tells (Ok (request.WriteBits c)) h = stores_said bit c h
    tells (Ok (request.WriteWords c)) h = stores_said word c h
    tells (Ok (request.Mask m)) h = masked_said m h
    tells (Ok (request.Exchange x)) h = both_said x h
    tells (Err r) h = ap failed h.0

    pub verdict_said : (q : Verdict) → v ≡ q → MatchResult q (λ a. Said n b (values_of a)) (λ r. Unsaid n b)
    verdict_said q f = tells q (fine (every_cell n) false b bytes (verdict_paper_law _ _ e) f)
