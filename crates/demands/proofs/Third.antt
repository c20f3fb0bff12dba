-- The customer's third demand holds of the driver.
-- Assumes nothing.
use mathlib.Core.Path.{◌≡◌, refl, ap, ◌∙◌}
use mathlib.Core.List.{List}
use Prim.Native.Nat.{ℕ, ◌≤◌}
use native.Mathlib.Omega.{arith}
use Rattle.modbus.specs.Step.{stop}
use Rattle.modbus.specs.Bytes.{Bytes}
use Rattle.modbus.specs.Table.{Tables}
use Rattle.modbus.specs.Request.{Ask, writing, apply, seen, found, answer}
use Rattle.modbus.specs.Setup.{Setup, Valid, Roomy}
use Rattle.modbus.specs.Unit.{Broadcast}
use Rattle.modbus.specs.Decode.{Message}
use Rattle.modbus.specs.Drive.{Fault, judge, silently, replying, settle, drive}
use Rattle.modbus.proofs.StepLaws.{pick_yes, pick_no}
use Rattle.modbus.proofs.DriveLaws.{stop_high, stop_after, stop_changed, go_low, go_after, go_changed, by_judge}
use Rattle.demands.specs.Demand.{Request, Serves, Demand3}
use Rattle.demands.proofs.CellLaws.{apply_stored}
use Rattle.demands.proofs.Judge.{requested, message, judge_serves, serves_judge, judge_refused}

module _ (s : Setup) (t : Tables) (f : List ℕ) (y : Bytes f) (v : Valid s) (room : Roomy s) where
  -- what the driver does with a request that is to be served
  own : (q : Request) (h : Serves s f q) → ¬ Broadcast s q.unit
      → drive s t f ≡ replying s (message s f q h) 0 0 (answer q.ask (found q.ask (seen (apply q.ask t)))) (apply q.ask t) (writing q.ask)
  unfolding drive settle
  own q h n = ap (settle s t) (serves_judge s f v room q h) ∙ pick_no _ _ _ n

  shared : (q : Request) → Serves s f q → Broadcast s q.unit → drive s t f ≡ silently 1 0 (apply q.ask t) (writing q.ask)
  unfolding drive settle
  shared q h b = ap (settle s t) (serves_judge s f v room q h) ∙ pick_yes _ _ _ b

  -- both are what was judged
  same_request : (p q : Request) → Serves s f p → Serves s f q → p ≡ q
  same_request p q h k =
      let u = serves_judge s f v room p h in
      let w = serves_judge s f v room q k in
      let z : ◌≡◌ {A = Message × Ask} (message s f p h, p.ask) (message s f q k, q.ask) = cc in
      ap (λ (x : Message × Ask). requested x.0 x.1) z

  -- a request was judged to be served, or the outcome is a refusal's
  served_or : {C : Type 0} → ((q : Request) → Serves s f q → C) → ((x : Fault) → judge s f ≡ stop x → C) → C
  served_or yea nay = by_judge s f nay (λ m a e. yea (requested m a) (judge_serves s f y m a e))

  pub demand_3 : Demand3 s t f (drive s t f)
  unfolding drive
  demand_3 =
      record {
        served = (
          λ low. served_or (λ q h. (q, h)) (λ x e. absurd (let h : 2 ≤ (drive s t f).outcome = rw e (stop_high s t x) in omega arith)),
          λ (q, h). rw (serves_judge s f v room q h) (go_low s t (message s f q h) q.ask),
        );
        same = same_request;
        written = λ q h. rw (serves_judge s f v room q h, go_after s t (message s f q h) q.ask) (apply_stored q.ask t h.permitted);
        answered = λ q h n. rw (own q h n) (refl, refl, refl);
        silent = λ q h b. rw (shared q h b) (refl, refl, refl);
        named = λ q h. rw (serves_judge s f v room q h, go_changed s t (message s f q h) q.ask);
        nameless = λ n. served_or (λ q h. absurd (n (q, h))) (λ x e. rw (e, stop_changed s t x));
        kept = λ n tab i. served_or (λ q h. absurd (n (q, h))) (λ x e. rw (e, stop_after s t x));
        refused = λ n. served_or (λ q h. absurd (n (q, h))) (λ x e. rw e (judge_refused s t f y x e));
      }
