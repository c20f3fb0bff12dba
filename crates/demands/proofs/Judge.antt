-- The driver goes through exactly with what is to be served, and stops exactly with the refusals of document 01's order.
-- Assumes nothing.
use mathlib.Core.Logic.{◌⊎◌, inl, inr, by_cases}
use mathlib.Core.Path.{◌≡◌, refl, ap, sym, ◌∙◌, subst}
use mathlib.Core.List.{List, [], ◌∷◌}
use Prim.Native.Nat.{ℕ, ◌≤◌}
use native.Mathlib.Omega.{arith}
use lib.ListN.{drop}
use Rattle.modbus.specs.Step.{stop, go, ◌and?◌}
use Rattle.modbus.specs.Bytes.{Bytes}
use Rattle.modbus.specs.Table.{Tables}
use Rattle.modbus.specs.Request.{Fn, code, offered, Ask, fn_of, exception}
use Rattle.modbus.specs.Frame.{Framed}
use Rattle.modbus.specs.Setup.{Setup, proto, Valid, Roomy}
use Rattle.modbus.specs.Unit.{Broadcast, broadcast?, Ours}
use Rattle.modbus.specs.Decode.{Message, unit_of, number_of, Silent, read_ignored_quiet, foreign, frame_broken_quiet, frame_check_quiet, wrong_length_quiet, bad_function_quiet, no_room_quiet, bad_setup_quiet, outcome_of, unwrap, IsRead, is_read?, Lengthy, Valued, asked}
use Rattle.modbus.specs.Drive.{Inside, Fault, quiet, coded, find, weigh, from_unit, spelled, judge, Result, silently, replying, settle, drive}
use Rattle.modbus.proofs.StepLaws.{pass, fail, follow, halt, bound, needed, bound_stop, needed_stop, pick_yes, pick_no, either}
use Rattle.modbus.proofs.RequestLaws.{asked_says, says_heard, fn_asked}
use Rattle.modbus.proofs.FrameLaws.{sound, complete, bytes_spelled}
use Rattle.modbus.proofs.FindLaws.{find_fn, found_fn, found_none, found_fault}
use Rattle.modbus.proofs.WeighLaws.{weigh_high, weigh_none, weigh_read, weigh_length, weigh_value, weigh_address, weigh_goes, went}
use Rattle.modbus.proofs.DriveLaws.{quietly_go, quietly_stop, went_quietly, stopped_quietly}
use Rattle.demands.specs.Demand.{Request, Addressed, Serves}
use Rattle.demands.specs.Order.{Sent, Known, Coded, exception_sent, ignored, Refusal, bad_setup, no_room, frame_broken, frame_check, foreign as foreign-unit, bad_function, no_function, read_ignored, wrong_length, bad_value, bad_address}
use Rattle.demands.proofs.ShapeLaws.{broken, unchecked, faults}
use Rattle.demands.proofs.PlaceLaws.{asks_heard, places_ask, value_by_places}

module _ (s : Setup) (f : List ℕ) where
  pub judge_sent : (m : Message) → Sent s f m → judge s f ≡ from_unit s m
  unfolding judge
  judge_sent m h =
      pass _ _ _ h.valid ∙ pass _ _ _ h.roomy ∙ follow _ _ (quietly_go _ (complete _ _ _ (spelled s f) h.framed))

  -- once the unit is ours, the body is weighed
  judge_stops : (m : Message) {x : Fault} → Sent s f m → Broadcast s (unit_of m) ⊎ Ours s (unit_of m)
      → weigh quiet (coded m) s (broadcast? s (unit_of m)) m.body ≡ stop x → judge s f ≡ stop x
  judge_stops m h r e = judge_sent m h ∙ pass _ _ _ r ∙ halt _ _ e

-- ---- what is served

abbrev pub requested : Message → Ask → Request
requested m a = record { tag = m.tag; unit = unit_of m; ask = a }

addressed : (s : Setup) (m : Message) (fn : Fn) (a : Ask) → fn_of a ≡ fn → Dec (Broadcast s (unit_of m))
    → Broadcast s (unit_of m) ⊎ Ours s (unit_of m) → ¬ (Broadcast s (unit_of m) × IsRead fn) → Addressed s (requested m a)
addressed s m fn a e (yes b) r h = inl (b, λ i. h (b, subst IsRead e i))
addressed s m fn a e (no n) (inl b) h = absurd (n b)
addressed s m fn a e (no n) (inr o) h = inr (o, n)

reached : (s : Setup) (r : Request) → Addressed s r → Broadcast s r.unit ⊎ Ours s r.unit
reached s r (inl h) = inl h.0
reached s r (inr h) = inr h.0

heeded : (s : Setup) (r : Request) → Addressed s r → ¬ (Broadcast s r.unit × IsRead (fn_of r.ask))
heeded s r (inl h) x = h.1 x.1
heeded s r (inr h) x = h.1 x.0

-- a frame that goes through: to us, of a function, of its length and values, with its cells inside
pub record Judged (s : Setup) (f : List ℕ) (m : Message) (a : Ask) (fn : Fn) : Type 0 where
  pub known : Known s f m fn
  pub lengthy : Lengthy fn m.body
  pub valued : Valued fn m.body
  pub inside : Inside s (asked fn m.body)
  pub asks : asked fn m.body ≡ a

module _ (s : Setup) (f : List ℕ) (y : Bytes f) where
  pub judged : (m : Message) (a : Ask) → judge s f ≡ go (m, a) → (fn : Fn) × Judged s f m a fn
  unfolding judge
  judged m a e =
      needed _ _ _ e λ valid e₁.
      needed _ _ _ e₁ λ roomy e₂.
      bound _ _ e₂ λ n unwrapped e₃.
      needed _ _ _ e₃ λ reached e₄.
      bound _ _ e₄ λ a' weighs e₅.
      went _ _ s _ n.body weighs λ fn called heeded lengthy valued inside asks.
      let sent : Sent s f n =
      record { valid = valid; roomy = roomy; framed = sound _ (spelled s f) n (bytes_spelled (proto s) s.hex f y) (went_quietly _ unwrapped) } in
      let z : ◌≡◌ {A = Message × Ask} (n, a') (m, a) = cc in
      subst (λ w. (fn : Fn) × Judged s f w.0 w.1 fn) z (
        fn,
        record {
          known = record { sent = sent; reached = reached; called = called; heeded = heeded };
          lengthy = lengthy;
          valued = valued;
          inside = subst (Inside s) (sym asks) inside;
          asks = asks;
        },
      )

  pub judge_serves : (m : Message) (a : Ask) → judge s f ≡ go (m, a) → Serves s f (requested m a)
  judge_serves m a e =
      let (fn, j) = judged m a e in
      let k = j.known in
      let framed = k.sent.framed in
      let says = asked_says fn m.body framed.bytes k.called j.lengthy j.valued in
      subst (λ x. Serves s f (requested m x)) j.asks
      (record {
        permitted = says.permitted;
        encoded = (drop 1 m.body, says.encodes, subst (λ b. Framed (proto s) m.tag b (spelled s f)) says.headed framed);
        inside = j.inside;
        addressed = addressed s m fn (asked fn m.body) (fn_asked fn m.body) (broadcast? s (unit_of m)) k.reached k.heeded;
      })

module _ (s : Setup) (f : List ℕ) where
  abbrev pub message : (r : Request) → Serves s f r → Message
  message r h = record { tag = r.tag; body = r.unit ∷ h.encoded.0 }

  pub serves_judge : Valid s → Roomy s → (r : Request) (h : Serves s f r) → judge s f ≡ go (message r h, r.ask)
  serves_judge valid roomy r h =
      let heard = says_heard r.ask r.unit h.encoded.0 h.permitted h.encoded.1 in
      judge_sent s f (message r h) (record { valid = valid; roomy = roomy; framed = h.encoded.2 })
      ∙ pass _ _ _ (reached s r h.addressed)
      ∙ follow _ _ (weigh_goes _ _ s _ _ (fn_of r.ask) heard.number (heeded s r h.addressed) heard.lengthy heard.valued
      (rw heard.asks h.inside))
      ∙ rw heard.asks

-- ---- what is refused

-- the driver's outcome, code and reply
abbrev pub Returns : Setup → Tables → List ℕ → ℕ → ℕ → List ℕ → Type 0
Returns s t f o c r = ((drive s t f).outcome ≡ o) × ((drive s t f).exception_code ≡ c) × ((drive s t f).reply ≡ r)

module _ (s : Setup) (t : Tables) (f : List ℕ) where
  quiet_returns : (o : Silent) → judge s f ≡ stop (quiet o) → Returns s t f (outcome_of o) 0 []
  unfolding drive settle
  quiet_returns o e = rw e (refl, refl, refl)

  coded_returns : {m : Message} {o c : ℕ} {r : List ℕ} → Coded s m o c r → judge s f ≡ stop (coded m c) → Returns s t f o c r
  unfolding drive settle
  coded_returns {m} (exception_sent c n) e =
      let w : drive s t f ≡ replying s m 2 c (exception (number_of m) c) t [] = ap (settle s t) e ∙ pick_no _ _ _ n in
      rw w (refl, refl, refl)
  coded_returns {m} (ignored c b) e =
      let w : drive s t f ≡ silently 3 c t [] = ap (settle s t) e ∙ pick_yes _ _ _ b in
      rw w (refl, refl, refl)

  pub refusal_returns : Bytes f → {o c : ℕ} {r : List ℕ} → Refusal s f o c r → Returns s t f o c r
  unfolding judge
  refusal_returns y (bad_setup n) = quiet_returns bad_setup_quiet (fail _ _ _ n)
  refusal_returns y (no_room v n) = quiet_returns no_room_quiet (pass _ _ _ v ∙ fail _ _ _ n)
  refusal_returns y (frame_broken v r n) =
      quiet_returns frame_broken_quiet (pass _ _ _ v ∙ pass _ _ _ r ∙ halt _ _ (quietly_stop _ ((broken (proto s) (spelled s f)).1 n)))
  refusal_returns y (frame_check v r h n) =
      quiet_returns frame_check_quiet (pass _ _ _ v ∙ pass _ _ _ r ∙ halt _ _ (quietly_stop _ ((unchecked (proto s) (spelled s f) (bytes_spelled (proto s) s.hex f y)).1 (h, n))))
  refusal_returns y (foreign-unit m h n k) =
      quiet_returns foreign (judge_sent s f m h ∙ fail _ _ _ (λ r. elim r [ inl b ↦ n b | inr o ↦ k o ]))
  refusal_returns y (bad_function m h r k) =
      quiet_returns bad_function_quiet (judge_stops s f m h r (weigh_high _ _ s _ _ (λ (l : number_of m ≤ 127). omega arith)))
  refusal_returns y (no_function m h r l n c) =
      coded_returns c (judge_stops s f m h r (weigh_none _ _ s _ _ l n))
  refusal_returns y (read_ignored m fn h b e i) =
      quiet_returns read_ignored_quiet (judge_stops s f m h (inl b) (weigh_read _ _ s _ _ fn e b i))
  refusal_returns y (wrong_length m fn h n) =
      quiet_returns wrong_length_quiet (judge_stops s f m h.sent h.reached (weigh_length _ _ s _ _ fn h.called h.heeded n))
  refusal_returns y (bad_value m fn h l n c) =
      coded_returns c
      (judge_stops s f m h.sent h.reached (weigh_value _ _ s _ _ fn h.called h.heeded l ((value_by_places s f m fn h l).0 n)))
  refusal_returns y (bad_address m a h q n c) =
      let k = asks_heard s f m a h.sent q in
      coded_returns c
      (judge_stops s f m h.sent h.reached
      (weigh_address _ _ s _ _ (fn_of a) h.called h.heeded k.lengthy k.valued (λ i. n (subst (Inside s) k.asks i))))

  -- the refusal that a fault is settled as
  abbrev Refused : Fault → Type 0
  Refused x = Refusal s f (settle s t (stop x)).outcome (settle s t (stop x)).exception_code (settle s t (stop x)).reply

  coded_refused : (m : Message) (c : ℕ) → ((o : ℕ) (r : List ℕ) → Coded s m o c r → Refusal s f o c r) → Refused (coded m c)
  unfolding settle
  coded_refused m c k =
      either (λ (r : Result). Refusal s f r.outcome r.exception_code r.reply) _ _ _
      (λ b. k _ _ (ignored c b))
      (λ n. k _ _ (exception_sent c n))

  frame_refused : Bytes f → Valid s → Roomy s → (o : Silent) → unwrap (proto s) (spelled s f) ≡ stop o → Refused (quiet o)
  unfolding settle
  frame_refused y v r o e = by (faults (proto s) (spelled s f) o e)
    where
      by : (o ≡ frame_broken_quiet) ⊎ (o ≡ frame_check_quiet) → Refused (quiet o)
      by (inl q) = rw q (frame_broken v r ((broken (proto s) (spelled s f)).0 (rw q at e)))
      by (inr q) = let (h, n) = (unchecked (proto s) (spelled s f) (bytes_spelled (proto s) s.hex f y)).0 (rw q at e) in rw q (frame_check v r h n)

  function_refused : (m : Message) → Sent s f m → Broadcast s (unit_of m) ⊎ Ours s (unit_of m) → number_of m ≤ 127 → {x : Fault}
      → find code (coded m 1) (number_of m) (offered (proto s)) ≡ stop x → Refused x
  function_refused m h r l e =
      let none = found_none code _ _ (offered (proto s)) (find_fn _ _ (proto s)) e in
      subst Refused (found_fault code _ _ (offered (proto s)) e) (coded_refused m 1 λ _ _ c. no_function m h r l none c)

  read_refused : (m : Message) (fn : Fn) → Sent s f m → number_of m ≡ code fn → ¬ (¬ (Broadcast s (unit_of m) × IsRead fn))
      → Refused (quiet read_ignored_quiet)
  unfolding settle
  read_refused m fn h e n =
      by_cases (broadcast? s (unit_of m) and? is_read? fn) (λ (b, i). read_ignored m fn h b e i) (λ k. absurd (n k))

  -- a fault from the function on
  weighed_refused : (m : Message) → Sent s f m → Broadcast s (unit_of m) ⊎ Ours s (unit_of m) → {x : Fault}
      → weigh quiet (coded m) s (broadcast? s (unit_of m)) m.body ≡ stop x → Refused x
  unfolding weigh settle
  weighed_refused m sent reached e₄ =
      needed_stop _ _ _ e₄ (λ n q. subst Refused q (bad_function m sent reached (omega (arith, n)))) λ low e₅.
      bound_stop _ _ e₅ (λ q. function_refused m sent reached low q) λ fn found e₆.
      let called = found_fn code _ _ _ fn found in
      needed_stop _ _ _ e₆ (λ n q. subst Refused q (read_refused m fn sent called n)) λ heeded e₇.
      let known : Known s f m fn = record { sent = sent; reached = reached; called = called; heeded = heeded } in
      needed_stop _ _ _ e₇ (λ n q. subst Refused q (wrong_length m fn known n)) λ lengthy e₈.
      needed_stop _ _ _ e₈
      (λ n q. subst Refused q (coded_refused m 3 λ _ _ c. bad_value m fn known lengthy ((value_by_places s f m fn known lengthy).1 n) c)) λ valued e₉.
      let a = asked fn m.body in
      let known-a : Known s f m (fn_of a) = subst (Known s f m) (sym (fn_asked fn m.body)) known in
      needed_stop _ _ _ e₉
      (λ n q. subst Refused q (coded_refused m 2 λ _ _ c. bad_address m a known-a (places_ask s f m fn known lengthy valued) n c)) λ inside e₁₀.
      let z : ◌≡◌ {A = ℕ} 0 1 = cc in absurd (omega arith)

  pub judge_refused : Bytes f → (x : Fault) → judge s f ≡ stop x → Refused x
  unfolding judge settle
  judge_refused y x e =
      needed_stop _ _ _ e (λ n q. subst Refused q (bad_setup n)) λ valid e₁.
      needed_stop _ _ _ e₁ (λ n q. subst Refused q (no_room valid n)) λ roomy e₂.
      bound_stop _ _ e₂ (λ q. stopped_quietly _ q λ o p z. subst Refused z (frame_refused y valid roomy o p)) λ m unwrapped e₃.
      let sent : Sent s f m =
      record { valid = valid; roomy = roomy; framed = sound _ (spelled s f) m (bytes_spelled (proto s) s.hex f y) (went_quietly _ unwrapped) } in
      needed_stop _ _ _ e₃ (λ n q. subst Refused q (foreign-unit m sent (λ b. n (inl b)) (λ o. n (inr o)))) λ reached e'.
      bound_stop _ _ e' (λ e₄. weighed_refused m sent reached e₄) λ a w q. let z : ◌≡◌ {A = ℕ} 0 1 = cc in absurd (omega arith)
