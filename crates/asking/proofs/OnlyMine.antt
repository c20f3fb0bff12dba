-- Values are shown exactly if the reply is a frame of the same transaction and unit around an answer to the request, and an exception is told
-- exactly if it is one to it. So a reply for another transaction, unit, function, byte count or echo is never shown as values.
-- Assumes nothing.
use mathlib.Core.Logic.{◌↔◌}
use mathlib.Core.Path.{◌≡◌, refl, sym, ap, ap₂, ◌∙◌, subst}
use mathlib.Core.List.{List, [], ◌∷◌}
use Prim.Native.Nat.{ℕ, ◌+◌, ◌≤◌, ◌<◌}
use native.Mathlib.Omega.{arith}
use lib.ListN.{length, get_or, take, drop, length-drop}
use Rattle.modbus.specs.Step.{Step, stop, go}
use Rattle.modbus.specs.Bytes.{Bytes}
use Rattle.modbus.specs.Table.{Kind, word, kind_of}
use Rattle.modbus.specs.Request.{reads, both, code, Ask, read, write, writes, masks, swaps, fn_of, Encodes, cargo, octets, answer, exception}
use Rattle.modbus.specs.Storage.{values}
use Rattle.modbus.specs.Paper.{proto_of}
use Rattle.modbus.specs.Frame.{Framed}
use Rattle.modbus.specs.Decode.{Message, Silent}
use Rattle.modbus.proofs.StepLaws.{pass, follow, bound, needed, picked, pick_yes, pick_no}
use Rattle.modbus.proofs.BytesLaws.{all_drop}
use Rattle.modbus.proofs.CargoLaws.{values_of, values_back, length_cargo}
use Rattle.modbus.proofs.FrameLaws.{sound, complete}
use Rattle.demands.specs.Demand.{Request}
use Rattle.client.specs.Asking.{or_silent, Reply, shows, excepted, shown_count, Excepts, Brings, Answers, held_in, heard, understood}
use Rattle.client.proofs.HearLaws.{silent_go}
use Rattle.asking.specs.Belonging.{Says, Carries, Shows, Answering, Excepting}
use Rattle.asking.proofs.Sent.{requested, message_of, sent_says, says_sent}

silent_went : {A : Type 0} (s : Step Silent A) {a : A} → or_silent s ≡ go a → s ≡ go a
unfolding or_silent
silent_went (stop x) e = let z : ◌≡◌ {A = ℕ} 0 1 = cc in absurd (omega arith)
silent_went (go b) {a} e = let z : b ≡ a = cc in ap go z

-- ---- three bytes

three_at : (b : List ℕ) → length b ≡ 3 → b ≡ get_or b 0 0 ∷ get_or b 1 0 ∷ get_or b 2 0 ∷ []
three_at [] e = absurd (omega arith)
three_at (x ∷ []) e = absurd (omega arith)
three_at (x ∷ y ∷ []) e = absurd (omega arith)
three_at (x ∷ y ∷ z ∷ []) e = refl
three_at (x ∷ y ∷ z ∷ w ∷ b) e = absurd (omega arith)

three_more : (b : List ℕ) (n : ℕ) → length b ≡ 3 + n → b ≡ get_or b 0 0 ∷ get_or b 1 0 ∷ get_or b 2 0 ∷ drop 3 b
three_more [] n e = absurd (omega arith)
three_more (x ∷ []) n e = absurd (omega arith)
three_more (x ∷ y ∷ []) n e = absurd (omega arith)
three_more (x ∷ y ∷ z ∷ b) n e = refl

-- ---- an answer's body

-- the first six bytes of a write's body are its unit and its answer, and so are the eight of a mask write
write_front : (k : Kind) (a v u : ℕ) (l : List ℕ) → Encodes (write k a v) l → take 6 (u ∷ l) ≡ u ∷ answer (write k a v) []
write_front k a v u l (pad, q, e) = rw e refl

writes_front : (k : Kind) (s u : ℕ) (ws l : List ℕ) → Encodes (writes k s ws) l → take 6 (u ∷ l) ≡ u ∷ answer (writes k s ws) []
writes_front k s u ws l (pad, q, e) = rw e refl

mask_front : (a x y u : ℕ) (l : List ℕ) → Encodes (masks a x y) l → take 8 (u ∷ l) ≡ u ∷ answer (masks a x y) []
mask_front a x y u l (pad, q, e) = rw e refl

cons_tail : {x y : ℕ} {l m : List ℕ} → x ∷ l ≡ y ∷ m → l ≡ m
cons_tail e = ap (λ (z : List ℕ). drop 1 z) e

-- a body that brings cells carries the values that it holds
brings_carries : (k : Kind) (function n u : ℕ) (b : List ℕ) → Bytes b → get_or b 0 0 ≡ u → Brings function (octets k n) b
    → (m : List ℕ) × Carries k function n (values k n (drop 3 b)) m × (b ≡ u ∷ m)
brings_carries k function n u b y first (long, (fn, count)) =
    let d = drop 3 b in
    let z : length d ≡ octets k n = length-drop 3 b ∙ omega arith in
    let h = values_of k n d (all_drop (λ x. x < 256) 3 b y) z in
    let m = function ∷ octets k n ∷ cargo k (values k n d) h.pad in (
      m,
      (h.counted, h.fits, (h.pad, h.fills, refl)),
      three_more b (octets k n) long
          ∙ ap₂ (λ (x : ℕ) (z : List ℕ). x ∷ z) first (ap₂ (λ (x : ℕ) (z : List ℕ). x ∷ z) fn (ap₂ (λ (x : ℕ) (z : List ℕ). x ∷ z) count (sym h.back))),
    )

carries_brings : (k : Kind) (function n u : ℕ) (m vs : List ℕ) → Carries k function n vs m
    → Brings function (octets k n) (u ∷ m) × (values k n (drop 3 (u ∷ m)) ≡ vs)
carries_brings k function n u m vs (count, fits, (pad, fills, q)) =
    let w = length_cargo k vs pad fills in
    let z : octets k (length vs) ≡ octets k n = ap (octets k) count in (
      rw q (omega arith, (refl, refl)),
      rw q (subst (λ (i : ℕ). values k i (cargo k vs pad) ≡ vs) count (values_back k vs pad fits fills)),
    )

-- a body that is an answer shows the values that it holds
answers_shows : (a : Ask) (u : ℕ) (l b : List ℕ) → Encodes a l → Bytes b → get_or b 0 0 ≡ u → Answers a (u ∷ l) b
    → (m : List ℕ) × Shows a (held_in a b) m × (b ≡ u ∷ m)
answers_shows (read t s n) u l b e y first same = brings_carries (kind_of t) (code (reads t)) n u b y first same
answers_shows (write k a v) u l b e y first same = (answer (write k a v) [], (refl, refl), same ∙ write_front k a v u l e)
answers_shows (writes k s ws) u l b e y first same = (answer (writes k s ws) [], (refl, refl), same ∙ writes_front k s u ws l e)
answers_shows (masks a v w) u l b e y first same = (answer (masks a v w) [], (refl, refl), same ∙ mask_front a v w u l e)
answers_shows (swaps r n s ws) u l b e y first same = brings_carries word (code both) n u b y first same

-- and a body that shows values is an answer that holds them
shows_answers : (a : Ask) (u : ℕ) (l m vs : List ℕ) → Encodes a l → Shows a vs m → Answers a (u ∷ l) (u ∷ m) × (held_in a (u ∷ m) ≡ vs)
shows_answers (read t s n) u l m vs e h = carries_brings (kind_of t) (code (reads t)) n u m vs h
shows_answers (write k a v) u l m vs e (none, q) = (rw q (sym (write_front k a v u l e)), sym none)
shows_answers (writes k s ws) u l m vs e (none, q) = (rw q (sym (writes_front k s u ws l e)), sym none)
shows_answers (masks a x y) u l m vs e (none, q) = (rw q (sym (mask_front a x y u l e)), sym none)
shows_answers (swaps r n s ws) u l m vs e h = carries_brings word (code both) n u m vs h

-- no answer is an exception
pub shows_function : (a : Ask) (vs m : List ℕ) → Shows a vs m → get_or m 0 0 ≡ code (fn_of a)
shows_function (read t s n) vs m (count, fits, (pad, fills, q)) = rw q refl
shows_function (write k a v) vs m (none, q) = rw q refl
shows_function (writes k s ws) vs m (none, q) = rw q refl
shows_function (masks a x y) vs m (none, q) = rw q refl
shows_function (swaps r n s ws) vs m (count, fits, (pad, fills, q)) = rw q refl

shows_unexcepted : (a : Ask) (u : ℕ) (vs m : List ℕ) → Shows a vs m → ¬ Excepts a (u ∷ m)
shows_unexcepted a u vs m h e = omega (arith, shows_function a vs m h, e.1.0)

-- ---- both ways

module _ (n : ℕ) (f r : List ℕ) (room : ℕ) (y : Bytes f) (z : Bytes r) where
  -- a reply that was understood is a frame of the same transaction and unit
  frame_of : {C : Type 0} (x : Reply) → understood n f r room ≡ go x
      → ((q : Request) (h : Says n f q) (m : Message) → shown_count q.ask ≤ room → Framed (proto_of n) m.tag m.body r
      → m.tag ≡ q.tag → get_or m.body 0 0 ≡ q.unit → heard q.ask (message_of n f q h).body m.body ≡ go x → C)
      → C
  unfolding understood
  frame_of x e k =
      needed _ _ _ e λ transport e₁.
      bound _ _ e₁ λ w sent e₂.
      needed _ _ _ e₂ λ fits e₃.
      bound _ _ e₃ λ m unwrapped e₄.
      needed _ _ _ e₄ λ mine e₅.
      let q = requested w.0 w.1 in
      let h = sent_says n f transport y w.0 w.1 sent in
      let s = sym sent ∙ says_sent n f q h in
      let v : w.0 ≡ message_of n f q h = cc in
      k q h m fits (sound (proto_of n) r m z (silent_went _ unwrapped)) mine.0 mine.1
      (subst (λ (b : Message). heard w.1 b.body m.body ≡ go x) v e₅)

  -- and back
  frame_to : (q : Request) (h : Says n f q) → shown_count q.ask ≤ room → (l : List ℕ) → Framed (proto_of n) q.tag (q.unit ∷ l) r
      → understood n f r room ≡ heard q.ask (message_of n f q h).body (q.unit ∷ l)
  unfolding understood
  frame_to q h fits l framed =
      pass _ _ _ h.transport
      ∙ follow _ _ (says_sent n f q h)
      ∙ pass _ _ _ fits
      ∙ follow _ _ (silent_go _ (complete (proto_of n) q.tag (q.unit ∷ l) r framed))
      ∙ pass _ _ _ (refl, refl)

  pub only_mine : (vs : List ℕ)
      → (understood n f r room ≡ go (shows vs)) ↔ ((q : Request) × Says n f q × (shown_count q.ask ≤ room) × Answering n q vs r)
  only_mine vs = (there, back)
    where
      there : understood n f r room ≡ go (shows vs) → (q : Request) × Says n f q × (shown_count q.ask ≤ room) × Answering n q vs r
      there e =
          frame_of (shows vs) e λ q h m fits framed tag unit e₁.
          picked _ _ _ e₁ (λ _ w. let v : ◌≡◌ {A = ℕ} 0 1 = cc in absurd (omega arith)) λ _ e₂.
          needed _ _ _ e₂ λ answers e₃.
          let (l, encodes, _) = h.encoded in
          let (c, s, whole) = answers_shows q.ask q.unit l m.body encodes framed.bytes unit answers in
          let v : held_in q.ask m.body ≡ vs = cc in (
            q,
            h,
            fits,
            (
              c,
              subst (λ (x : List ℕ). Shows q.ask x c) v s,
              subst (λ (x : List ℕ). Framed (proto_of n) x (q.unit ∷ c) r) tag (subst (λ (x : List ℕ). Framed (proto_of n) m.tag x r) whole framed),
            ),
          )

      back : (q : Request) × Says n f q × (shown_count q.ask ≤ room) × Answering n q vs r → understood n f r room ≡ go (shows vs)
      back (q, h, fits, (c, s, framed)) =
          let (l, encodes, _) = h.encoded in
          let (answers, held) = shows_answers q.ask q.unit l c vs encodes s in
          frame_to q h fits c framed ∙ pick_no _ _ _ (shows_unexcepted q.ask q.unit vs c s) ∙ pass _ _ _ answers ∙ ap (λ (x : List ℕ). go (shows x)) held

  pub only_mine_excepted : (c : ℕ)
      → (understood n f r room ≡ go (excepted c)) ↔ ((q : Request) × Says n f q × (shown_count q.ask ≤ room) × Excepting n q c r)
  only_mine_excepted c = (there, back)
    where
      there : understood n f r room ≡ go (excepted c) → (q : Request) × Says n f q × (shown_count q.ask ≤ room) × Excepting n q c r
      there e =
          frame_of (excepted c) e λ q h m fits framed tag unit e₁.
          picked _ _ _ e₁
          (λ (long, (fn, some)) w.
          let v : get_or m.body 2 0 ≡ c = cc in
          let b : m.body ≡ q.unit ∷ exception (code (fn_of q.ask)) c =
          three_at m.body long ∙ ap₂ (λ (x : ℕ) (l : List ℕ). x ∷ l) unit (ap₂ (λ (x i : ℕ). x ∷ i ∷ []) fn v) in (
            q,
            h,
            fits,
            (
              omega arith,
              subst (λ (x : List ℕ). Framed (proto_of n) x (q.unit ∷ exception (code (fn_of q.ask)) c) r) tag
                  (subst (λ (x : List ℕ). Framed (proto_of n) m.tag x r) b framed),
            ),
          ))
          (λ _ e₂. needed _ _ _ e₂ λ _ e₃. let v : ◌≡◌ {A = ℕ} 0 1 = cc in absurd (omega arith))

      back : (q : Request) × Says n f q × (shown_count q.ask ≤ room) × Excepting n q c r → understood n f r room ≡ go (excepted c)
      back (q, h, fits, (some, framed)) = frame_to q h fits (exception (code (fn_of q.ask)) c) framed ∙ pick_yes _ _ _ (refl, (refl, some))

  -- no reply shows two lists of values
  pub one_reading : (vs ws : List ℕ) (p q : Request) → Says n f p → Says n f q → shown_count p.ask ≤ room → shown_count q.ask ≤ room
      → Answering n p vs r → Answering n q ws r → vs ≡ ws
  one_reading vs ws p q h k i j a b =
      let e = (only_mine vs).1 (p, h, i, a) in
      let g = (only_mine ws).1 (q, k, j, b) in
      let w : go (shows vs) ≡ go (shows ws) = sym e ∙ g in
      cc
