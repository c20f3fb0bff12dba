-- What a server answers, the client reads back as the cells' contents at that moment; and its exceptions are told as they were sent.
-- Assumes nothing.
use mathlib.Core.Path.{◌≡◌, refl, sym, ap, ap₂, ◌∙◌, subst}
use mathlib.Core.List.{List, [], ◌∷◌, ◌++◌}
use Prim.Native.Nat.{ℕ, ◌-◌, ◌*◌, ◌≤◌}
use native.Mathlib.Omega.{arith}
use lib.ListN.{length, drop, replicate, length-replicate}
use Rattle.modbus.specs.Step.{go}
use Rattle.modbus.specs.Bytes.{Bytes}
use Rattle.modbus.specs.Table.{Kind, bit, word, Tab, holdings, kind_of, Fits, Tables, Range, part}
use Rattle.modbus.specs.Request.{code, reads, both, Ask, read, write, writes, masks, swaps, fn_of, reading, writing, Permitted, cargo, octets, Fills, Encodes, shown, apply, seen, found, answer, exception}
use Rattle.modbus.specs.Frame.{wrap}
use Rattle.modbus.specs.Setup.{Setup, proto, Valid, Roomy}
use Rattle.modbus.specs.Unit.{Broadcast}
use Rattle.modbus.specs.Decode.{Message, unit_of, number_of}
use Rattle.modbus.specs.Drive.{AllWithin, spelled, drive}
use Rattle.modbus.proofs.StorageLaws.{length_part, part_all}
use Rattle.modbus.proofs.AnswerLaws.{Proper, assign_proper, answer_fits, answer_bytes}
use Rattle.modbus.proofs.DriveLaws.{go_after}
use Rattle.modbus.proofs.FindLaws.{code_low}
use Rattle.modbus.proofs.FrameLaws.{complete}
use Rattle.demands.specs.Demand.{Request, Serves}
use Rattle.demands.specs.Order.{Sent, Coded, exception_sent, ignored, Refusal, bad_setup, no_room, frame_broken, frame_check, foreign, bad_function, no_function, read_ignored, wrong_length, bad_value, bad_address}
use Rattle.demands.proofs.Judge.{message, serves_judge}
use Rattle.demands.proofs.Third.{demand_3}
use Rattle.demands.proofs.Exactly.{exactly}
use Rattle.demands.proofs.Replies.{reply_bytes}
use Rattle.client.specs.Asking.{every_cell, shows, excepted, shown_count, understood}
use Rattle.client.proofs.LayLaws.{zero_bits}
use Rattle.asking.specs.Belonging.{Says, Carries, Shows, Excepting}
use Rattle.asking.proofs.Sent.{message_of, says_number}
use Rattle.asking.proofs.OnlyMine.{only_mine, only_mine_excepted}
use Rattle.asking.proofs.Built.{least_three, most_253}

-- ---- what a server serves may be asked

every_range : (s : Setup) (n : ℕ) → Valid s → (l : List Range) → AllWithin s l → AllWithin (every_cell n) l
every_range s n v [] h = tt
every_range s n v (r ∷ l) h = (omega (arith, h.0, (v.held r.tab).0), every_range s n v l h.1)

-- a frame that stands for itself under the server's switch
pub serves_says : (s : Setup) (f : List ℕ) → spelled s f ≡ f → Valid s → (q : Request) → Serves s f q → Says s.transport f q
serves_says s f capital v q h =
    record {
      transport = v.transport;
      permitted = h.permitted;
      inside = every_range s s.transport v (reading q.ask ++ writing q.ask) h.inside;
      encoded = (h.encoded.0, h.encoded.1, rw capital at h.encoded.2);
    }

-- ---- an answer shows the cells

shown_cargo : (k : Kind) (vs : List ℕ) → (pad : List ℕ) × Fills k vs pad × (shown k vs ≡ cargo k vs pad)
shown_cargo bit vs = (
  replicate (8 * octets bit (length vs) - length vs) 0,
  (zero_bits (8 * octets bit (length vs) - length vs), simp length-replicate (omega arith)),
  refl,
)
shown_cargo word vs = ([], refl, refl)

part_carried : (tab : Tab) (function s n : ℕ) (t : Tables) → Proper t
    → Carries (kind_of tab) function n (part (t tab) s n) (function ∷ octets (kind_of tab) (length (part (t tab) s n)) ∷ shown (kind_of tab) (part (t tab) s n))
part_carried tab function s n t proper =
    let vs = part (t tab) s n in
    let k = length_part (t tab) s n in
    let (pad, fills, e) = shown_cargo (kind_of tab) vs in
    (k, part_all (t tab) (Fits (kind_of tab)) s n (proper tab), (pad, fills, ap₂ (λ (i : ℕ) (l : List ℕ). function ∷ octets (kind_of tab) i ∷ l) k e))

answer_shows : (a : Ask) (t : Tables) → Permitted a → Proper t → Shows a (found a (seen (apply a t))) (answer a (found a (seen (apply a t))))
answer_shows (read tab s n) t p proper = part_carried tab (code (reads tab)) s n t proper
answer_shows (write k a v) t p proper = (refl, refl)
answer_shows (writes k s ws) t p proper = (refl, refl)
answer_shows (masks a x y) t p proper = (refl, refl)
answer_shows (swaps r n s ws) t p proper = part_carried holdings (code both) r n (apply (swaps r n s ws) t) (assign_proper _ ws t p.4 proper)

module _ (s : Setup) (t : Tables) (f : List ℕ) (y : Bytes f) (capital : spelled s f ≡ f) (v : Valid s) (roomy : Roomy s) (proper : Proper t) where
  after_is : (q : Request) → Serves s f q → (drive s t f).after ≡ apply q.ask t
  unfolding drive
  after_is q h = rw (serves_judge s f v roomy q h) (go_after s t (message s f q h) q.ask)

  own_unit : (q : Request) → Serves s f q → (drive s t f).outcome ≡ 0 → ¬ Broadcast s q.unit
  own_unit q h e b = omega (arith, e, ((demand_3 s t f y v roomy).silent q h b).0)

  -- the values are those of the cells afterwards; after a write there are none
  pub read_back : (drive s t f).outcome ≡ 0 → (q : Request) → Serves s f q → (room : ℕ) → shown_count q.ask ≤ room
      → understood s.transport f (drive s t f).reply room ≡ go (shows (found q.ask (seen (drive s t f).after)))
  read_back e q h room fits =
      let a = q.ask in
      let vs = found a (seen (apply a t)) in
      let reply = (drive s t f).reply in
      let (l, encodes, framed) = h.encoded in
      let n = answer_fits a t h.permitted in
      let z = after_is q h in
      let whole : reply ≡ wrap (proto s) q.tag (q.unit ∷ answer a vs) =
      ((demand_3 s t f y v roomy).answered q h (own_unit q h e)).2
      ∙ ap (λ (w : Tables). wrap (proto s) q.tag (q.unit ∷ answer a (found a (seen w)))) z in
      (only_mine s.transport f reply room y (reply_bytes s t f y proper) vs).1 (
        q,
        serves_says s f capital v q h,
        fits,
        (
          answer a vs,
          answer_shows a t h.permitted proper,
          record {
            bytes = (framed.bytes.0, answer_bytes a t l proper h.permitted encodes framed.bytes.1);
            low = omega (arith, least_three (proto s), n.low);
            high = omega (arith, most_253 (proto s), n.high);
            tagged = framed.tagged;
            whole = whole;
          },
        ),
      )
      ∙ ap (λ (w : Tables). go (shows (found a (seen w)))) (sym z)

  -- and every frame with that outcome is some request's
  pub read_back_some : (drive s t f).outcome ≡ 0 → (q : Request) × Serves s f q
  read_back_some e = (demand_3 s t f y v roomy).served.0 (omega arith)

  -- ---- exceptions

  module _ (q : Request) (h : Says s.transport f q) where
    same_message : (m : Message) → Sent s f m → m ≡ message_of s.transport f q h
    same_message m k =
        let (l, encodes, framed) = h.encoded in
        let e = complete (proto s) m.tag m.body f (rw capital at k.framed) in
        let g = complete (proto s) q.tag (q.unit ∷ l) f framed in
        let z : go m ≡ go (message_of s.transport f q h) = sym e ∙ g in
        cc

    excepting : (m : Message) → Sent s f m → (c : ℕ) → 1 ≤ c → c ≤ 3
        → Excepting s.transport q c (wrap (proto s) m.tag (unit_of m ∷ exception (number_of m) c))
    excepting m k c some few =
        let z = same_message m k in
        let (l, encodes, framed) = h.encoded in
        let g = says_number s.transport f q h in
        let low = code_low (fn_of q.ask) in (
          some,
          record {
            bytes = (framed.bytes.0, (omega arith, (omega arith, tt)));
            low = omega (arith, least_three (proto s));
            high = omega (arith, most_253 (proto s));
            tagged = framed.tagged;
            whole =
                ap (λ (x : Message). wrap (proto s) x.tag (unit_of x ∷ exception (number_of x) c)) z
                ∙ ap (λ (i : ℕ). wrap (proto s) q.tag (q.unit ∷ exception i c)) g;
          },
        )

    coded_excepting : {m : Message} {o c : ℕ} {r : List ℕ} → Sent s f m → Coded s m o c r → o ≡ 2 → 1 ≤ c → c ≤ 3 → Excepting s.transport q c r
    coded_excepting {m} k (exception_sent c n) e some few = excepting m k c some few
    coded_excepting {m} k (ignored c b) e some few = absurd (omega arith)

    -- what may be asked is refused for its address alone
    refused_address : {o c : ℕ} {r : List ℕ} → Refusal s f o c r → o ≡ 2 → Excepting s.transport q c r × (c ≡ 2)
    refused_address (bad_setup n) e = absurd (omega arith)
    refused_address (no_room v n) e = absurd (omega arith)
    refused_address (frame_broken v r n) e = absurd (omega arith)
    refused_address (frame_check v r k n) e = absurd (omega arith)
    refused_address (foreign m k n o) e = absurd (omega arith)
    refused_address (bad_function m k r l) e = absurd (omega arith)
    refused_address (no_function m k r l n c) e =
        absurd (n (fn_of q.ask) (ap number_of (same_message m k) ∙ says_number s.transport f q h))
    refused_address (read_ignored m fn k b g i) e = absurd (omega arith)
    refused_address (wrong_length m fn k n) e = absurd (omega arith)
    refused_address (bad_value m fn k l n c) e =
        let (w, encodes, framed) = h.encoded in
        absurd (n q.ask (record {
          permitted = h.permitted;
          encoded = subst (λ (x : Message). Encodes q.ask (drop 1 x.body)) (sym (same_message m k.sent)) encodes;
        }))
    refused_address (bad_address m a k u n c) e = (coded_excepting k.sent c e (omega arith) (omega arith), refl)

    pub read_back_refused : (drive s t f).outcome ≡ 2 → (room : ℕ) → shown_count q.ask ≤ room
        → (understood s.transport f (drive s t f).reply room ≡ go (excepted (drive s t f).exception_code)) × ((drive s t f).exception_code ≡ 2)
    read_back_refused e room fits =
        let x = refused_address ((exactly s t f y _ _ _ (omega arith)).1 (refl, refl, refl)) e in (
          (only_mine_excepted s.transport f (drive s t f).reply room y (reply_bytes s t f y proper) _).1 (q, h, fits, x.0),
          x.1,
        )
