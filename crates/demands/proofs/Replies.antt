-- A reply of the driver is a well-formed frame of its transport and never longer than the room that the setup must have; it is of bytes, where
-- the tables hold what cells can hold, and then has no small letter on ASCII.
-- Assumes nothing.
use mathlib.Core.Logic.{◌⊎◌, inl, inr}
use mathlib.Core.Path.{◌≡◌, refl, subst}
use mathlib.Core.List.{List, [], ◌∷◌}
use Prim.Native.Nat.{ℕ, ◌≤◌}
use native.Mathlib.Omega.{arith}
use lib.ListN.{length}
use Rattle.modbus.specs.Step.{go}
use Rattle.modbus.specs.Bytes.{All, Bytes}
use Rattle.modbus.specs.Table.{Tables}
use Rattle.modbus.specs.Request.{Ask, fn_of, answer, apply, seen, found, exception}
use Rattle.modbus.specs.Frame.{wrap, tag_length, around}
use Rattle.modbus.specs.Setup.{Setup, proto, room_for}
use Rattle.modbus.specs.Decode.{Message, unit_of, number_of}
use Rattle.modbus.specs.Drive.{spelled, judge, Result, settle, drive}
use Rattle.modbus.specs.declared.ModbusProto.{ModbusProto}
use Rattle.modbus.specs.declared.ModbusProto.TheVariants.{Rtu, Ascii, TcpUdp}
use Rattle.modbus.proofs.StepLaws.{either}
use Rattle.modbus.proofs.BytesLaws.{byte_at}
use Rattle.modbus.proofs.FrameLaws.{length_wrap, bytes_wrap, bytes_tag, bytes_spelled, wrap_capital}
use Rattle.modbus.proofs.HexLaws.{Small}
use Rattle.modbus.proofs.AnswerLaws.{Proper, answer_fits, answer_bytes}
use Rattle.modbus.proofs.DriveLaws.{by_judge}
use Rattle.modbus.proofs.FindLaws.{code_low}
use Rattle.demands.specs.Order.{Sent, Coded, exception_sent, ignored, Refusal, bad_setup, no_room, frame_broken, frame_check, foreign, bad_function, no_function, read_ignored, wrong_length, bad_value, bad_address}
use Rattle.demands.proofs.Judge.{judge_serves, judge_refused}

-- what is around the reply's body: 3 to 253 bytes from the unit on
pub record Framing (t : Tables) (p : ModbusProto) (reply : List ℕ) : Type 0 where
  pub tag : List ℕ
  pub body : List ℕ
  pub tagged : length tag ≡ tag_length p
  pub tag_bytes : Bytes tag
  pub bytes : Proper t → Bytes body
  pub low : 3 ≤ length body
  pub high : length body ≤ 253
  pub whole : reply ≡ wrap p tag body

abbrev pub Replied : Tables → ModbusProto → List ℕ → Type 0
Replied t p reply = (reply ≡ []) ⊎ Framing t p reply

-- ---- what is refused

module _ (s : Setup) (t : Tables) (f : List ℕ) (y : Bytes f) where
  coded_replied : {m : Message} {o c : ℕ} {r : List ℕ} → Sent s f m → number_of m ≤ 127 → c ≤ 3 → Coded s m o c r → Replied t (proto s) r
  coded_replied {m} h low small (ignored c b) = inl refl
  coded_replied {m} h low small (exception_sent c n) =
      inr (record {
        tag = m.tag;
        body = unit_of m ∷ exception (number_of m) c;
        tagged = h.framed.tagged;
        tag_bytes = bytes_tag (proto s) m.tag m.body (spelled s f) h.framed (bytes_spelled (proto s) s.hex f y);
        bytes = λ _. (byte_at m.body 0 h.framed.bytes, (omega arith, (omega arith, tt)));
        low = omega arith;
        high = omega arith;
        whole = refl;
      })

  refusal_replied : {o c : ℕ} {r : List ℕ} → Refusal s f o c r → Replied t (proto s) r
  refusal_replied (bad_setup n) = inl refl
  refusal_replied (no_room v n) = inl refl
  refusal_replied (frame_broken v r n) = inl refl
  refusal_replied (frame_check v r h n) = inl refl
  refusal_replied (foreign m h n k) = inl refl
  refusal_replied (bad_function m h r k) = inl refl
  refusal_replied (no_function m h r l n c) = coded_replied h l (omega arith) c
  refusal_replied (read_ignored m fn h b e i) = inl refl
  refusal_replied (wrong_length m fn h n) = inl refl
  refusal_replied (bad_value m fn h l n c) = coded_replied h.sent (rw h.called (code_low fn)) (omega arith) c
  refusal_replied (bad_address m a h q n c) = coded_replied h.sent (rw h.called (code_low (fn_of a))) (omega arith) c

  -- ---- and what is served

  served_framing : (m : Message) (a : Ask) → judge s f ≡ go (m, a)
      → Framing t (proto s) (wrap (proto s) m.tag (unit_of m ∷ answer a (found a (seen (apply a t)))))
  served_framing m a e =
      let h = judge_serves s f y m a e in
      let (l, encodes, framed) = h.encoded in
      let n = answer_fits a t h.permitted in
      record {
        tag = m.tag;
        body = unit_of m ∷ answer a (found a (seen (apply a t)));
        tagged = framed.tagged;
        tag_bytes = bytes_tag (proto s) m.tag (unit_of m ∷ l) (spelled s f) framed (bytes_spelled (proto s) s.hex f y);
        bytes = λ proper. (framed.bytes.0, answer_bytes a t l proper h.permitted encodes framed.bytes.1);
        low = omega (arith, n.low);
        high = omega (arith, n.high);
        whole = refl;
      }

  pub replied : Replied t (proto s) (drive s t f).reply
  unfolding drive settle
  replied =
      by_judge s f
      (λ x e. rw e (refusal_replied (judge_refused s t f y x e)))
      (λ m a e. rw e (either (λ (r : Result). Replied t (proto s) r.reply) _ _ _ (λ _. inl refl) (λ _. inr (served_framing m a e))))

-- ---- how long a reply is at most, that it is bytes, and on ASCII in capitals

abbrev pub longest : ModbusProto → ℕ
longest Rtu = 255
longest Ascii = 511
longest TcpUdp = 259

longest_room : (p : ModbusProto) → longest p ≤ room_for p
longest_room Rtu = omega arith
longest_room Ascii = omega arith
longest_room TcpUdp = omega arith

around_longest : (p : ModbusProto) (n : ℕ) → n ≤ 253 → around p n ≤ longest p
around_longest Rtu n h = omega arith
around_longest Ascii n h = omega arith
around_longest TcpUdp n h = omega arith

replied_length : (t : Tables) (p : ModbusProto) (r : List ℕ) → Replied t p r → length r ≤ longest p
replied_length t p r (inl e) = rw e (omega arith)
replied_length t p r (inr h) = rw (h.whole, length_wrap p h.tag h.body h.tagged) (around_longest p (length h.body) h.high)

replied_bytes : (t : Tables) (p : ModbusProto) (r : List ℕ) → Proper t → Replied t p r → Bytes r
replied_bytes t p r proper (inl e) = rw e tt
replied_bytes t p r proper (inr h) =
    rw h.whole (bytes_wrap p h.tag h.body h.tag_bytes (h.bytes proper) (omega (arith, h.high)))

replied_capital : (t : Tables) (r : List ℕ) → Proper t → Replied t Ascii r → All (λ c. ¬ Small c) r
replied_capital t r proper (inl e) = rw e tt
replied_capital t r proper (inr h) = rw h.whole (wrap_capital h.tag h.body (h.bytes proper))

module _ (s : Setup) (t : Tables) (f : List ℕ) (y : Bytes f) where
  pub reply_length : length (drive s t f).reply ≤ longest (proto s)
  reply_length = replied_length t (proto s) _ (replied s t f y)

  pub reply_room : length (drive s t f).reply ≤ room_for (proto s)
  reply_room = omega (arith, reply_length, longest_room (proto s))

  pub reply_bytes : Proper t → Bytes (drive s t f).reply
  reply_bytes proper = replied_bytes t (proto s) _ proper (replied s t f y)

  -- whatever the switch and the case of the request's digits
  pub capitals : Proper t → proto s ≡ Ascii → All (λ c. ¬ Small c) (drive s t f).reply
  capitals proper e = replied_capital t _ proper (subst (λ (p : ModbusProto). Replied t p (drive s t f).reply) e (replied s t f y))
