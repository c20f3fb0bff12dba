-- `unwrap` takes off exactly what `wrap` puts around; an ASCII frame is broken exactly if it is no line, and else the check decides; how long
-- a frame is, and that it is bytes.
-- Assumes nothing.
use mathlib.Core.Logic.{◌⊎◌, inl, inr, ◌↔◌, by_cases}
use mathlib.Core.Path.{◌≡◌, refl, ap, ap₂, sym, ◌∙◌, subst}
use mathlib.Core.List.{List, [], ◌∷◌, ◌++◌}
use Prim.Native.Nat.{ℕ, ◌+◌, ◌-◌, ◌*◌, ◌/◌, ◌%◌, ◌≤◌, ◌<◌}
use native.Mathlib.Omega.{arith}
use native.Mathlib.Nat.{div-add-mod'}
use lib.ListN.{length, take, drop, get_or, length-append, take-append-drop, length-take, length-drop}
use lib.Seq.{take_at, drop_at, get_or-take}
use Rattle.modbus.specs.Step.{Step, stop, go, ◌>>◌, need, ◌≤?◌, ◌≟◌, ◌and?◌, same?}
use Rattle.modbus.specs.Bytes.{All, Bytes, two, word_at}
use Rattle.modbus.specs.Check.{lrc}
use Rattle.modbus.specs.Hex.{text, untext}
use Rattle.modbus.specs.Frame.{line, wrap, tag_length, around, least, most, Framed}
use Rattle.modbus.specs.Decode.{Message, frame_broken_quiet, frame_check_quiet, or_broken, crc_bytes, unwrap, spelled_in}
use Rattle.modbus.specs.declared.ErrorKind.{ErrorKind}
use Rattle.modbus.specs.declared.ModbusProto.{ModbusProto}
use Rattle.modbus.specs.declared.ModbusProto.TheVariants.{Rtu, Ascii, TcpUdp}
use Rattle.modbus.proofs.StepLaws.{pass, fail, follow, halt, needed}
use Rattle.modbus.proofs.BytesLaws.{all_append, all_take, all_drop, bytes_append, bytes_front, bytes_two}
use Rattle.modbus.proofs.CheckLaws.{crc_lt, lrc_lt}
use Rattle.modbus.proofs.HexLaws.{Small, length_text, text_capital, bytes_text, untext_text, text_untext, spelt_strict, spelt_same, bytes_spelt}
use Rattle.modbus.proofs.Views.{headed, Six, six, six?}

-- a list that ends in m, cut before m
record Cut (f l m : List ℕ) (n : ℕ) : Type 0 where
  before : take (length f - n) f ≡ l
  after : drop (length f - n) f ≡ m
  long : length f ≡ length l + n

cut : (f l m : List ℕ) (n : ℕ) → f ≡ l ++ m → length m ≡ n → Cut f l m n
cut f l m n e h =
    let k : length f ≡ length l + n = ap length e ∙ length-append l m ∙ omega arith in
    record {
      before = ap (take (length f - n)) e ∙ take_at l m (length f - n) (omega arith);
      after = ap (drop (length f - n)) e ∙ drop_at l m (length f - n) (omega arith);
      long = k;
    }

joined : (n : ℕ) (f m : List ℕ) → drop n f ≡ m → f ≡ take n f ++ m
joined n f m e = sym (take-append-drop n f) ∙ ap (λ l. take n f ++ l) e

-- a frame without a tag: its body is the first k of the bytes l, and the rest is their check
untagged : (p : ModbusProto) (check : List ℕ → List ℕ) (l : List ℕ) (k : ℕ) (f : List ℕ) (m : Message)
    → Bytes l → least p ≤ length (take k l) → length (take k l) ≤ most p → 0 ≡ tag_length p
    → (l ≡ take k l ++ check (take k l) → f ≡ wrap p [] (take k l))
    → (need (same? (drop k l) (check (take k l))) frame_check_quiet >> go (record { tag = []; body = take k l })) ≡ go m
    → Framed p m.tag m.body f
untagged p check l k f m y low high none whole e =
    needed _ _ _ e λ q e₁.
    let r : record { tag = []; body = take k l } ≡ m = cc in
    subst (λ n. Framed p n.tag n.body f) r
    (record { bytes = all_take _ k l y; low = low; high = high; tagged = none; whole = whole (joined k l _ q) })

-- ---- RTU

rtu_sound : (f : List ℕ) (m : Message) → Bytes f → unwrap Rtu f ≡ go m → Framed Rtu m.tag m.body f
unfolding unwrap
rtu_sound f m y e =
    needed _ _ _ e λ p e₁.
    untagged Rtu crc_bytes f (length f - 2) f m y (simp length-take (omega arith)) (simp length-take (omega arith)) refl (λ q. q) e₁

rtu_complete : (tag body f : List ℕ) → Framed Rtu tag body f → unwrap Rtu f ≡ go (record { tag = tag; body = body })
unfolding unwrap
rtu_complete (a ∷ t) body f h = absurd (omega (arith, h.tagged))
rtu_complete [] body f h =
    let c = cut f body (crc_bytes body) 2 h.whole refl in
    pass _ _ _ (omega (arith, h.low, c.long), omega (arith, h.high, c.long))
    ∙ pass _ _ _ (c.after ∙ ap crc_bytes (sym c.before))
    ∙ ap (λ l. go (record { tag = []; body = l })) c.before

-- ---- ASCII

-- the frame is a line of so many bytes
abbrev pub Lined : List ℕ → Type 0
Lined f = (l : List ℕ) × Bytes l × (3 ≤ length l) × (length l ≤ 254) × (f ≡ line l)

-- the bounds of a line, its colon and its end
abbrev Edged : List ℕ → Type 0
Edged f = (9 ≤ length f) × ((length f ≤ 511) × ((get_or f 0 0 ≡ 58) × (drop (length f - 2) f ≡ 13 ∷ 10 ∷ [])))

edged_line : (f l : List ℕ) → Edged f → drop 1 (take (length f - 2) f) ≡ text l → f ≡ line l
edged_line f l (low, (high, (c, e))) x =
    joined (length f - 2) f _ e
    ∙ ap (λ t. t ++ (13 ∷ 10 ∷ []))
    (headed (take (length f - 2) f) (simp length-take (omega arith)) ∙ ap₂ ◌∷◌ (get_or-take (length f - 2) f 0 0 (omega arith) ∙ c) x)

lined : (f l : List ℕ) → Edged f → drop 1 (take (length f - 2) f) ≡ text l → Bytes l → Lined f
lined f l p x y =
    let n : 2 * length l ≡ length f - 3 = sym (length_text l) ∙ ap length (sym x) ∙ simp (length-drop, length-take) (omega arith) in
    (l, y, omega (arith, p), omega (arith, p), edged_line f l p x)

-- a frame that is no line is broken, and of one that is, the check decides
pub ascii_shape : (f : List ℕ) → Lined f ⊎ (unwrap Ascii f ≡ stop frame_broken_quiet)
unfolding unwrap or_broken
ascii_shape f =
    by_cases ((9 ≤? length f) and? (length f ≤? 511) and? (get_or f 0 0 ≟ 58) and? same? (drop (length f - 2) f) (13 ∷ 10 ∷ []))
    (λ p. read p (untext (drop 1 (take (length f - 2) f))) refl)
    (λ n. inr (fail _ _ _ n))
  where
    read : Edged f → (u : Step ErrorKind (List ℕ)) → untext (drop 1 (take (length f - 2) f)) ≡ u
        → Lined f ⊎ (unwrap Ascii f ≡ stop frame_broken_quiet)
    read p (go l) e = let (x, y) = text_untext _ l e in inl (lined f l p x y)
    read p (stop k) e = inr (pass _ _ _ p ∙ halt _ _ (ap or_broken e))

pub ascii_check : (f l : List ℕ) → Bytes l → 3 ≤ length l → length l ≤ 254 → f ≡ line l
    → unwrap Ascii f
    ≡ (need (same? (drop (length l - 1) l) (lrc (take (length l - 1) l) ∷ [])) frame_check_quiet
    >> go (record { tag = []; body = take (length l - 1) l }))
unfolding unwrap or_broken
ascii_check f l y low high e =
    let n = length_text l in
    let c = cut f (58 ∷ text l) (13 ∷ 10 ∷ []) 2 e refl in
    let u : or_broken (untext (drop 1 (take (length f - 2) f))) ≡ go l =
    ap (λ t. or_broken (untext (drop 1 t))) c.before ∙ ap or_broken (untext_text l y) in
    pass _ _ _ (omega (arith, c.long), (omega (arith, c.long), (ap (λ t. get_or t 0 0) e, c.after)))
    ∙ follow _ _ u

ascii_sound : (f : List ℕ) (m : Message) → unwrap Ascii f ≡ go m → Framed Ascii m.tag m.body f
ascii_sound f m e = by (ascii_shape f)
  where
    by : Lined f ⊎ (unwrap Ascii f ≡ stop frame_broken_quiet) → Framed Ascii m.tag m.body f
    by (inr b) = let z : ◌≡◌ {A = ℕ} 0 1 = cc in absurd (omega arith)
    by (inl (l, y, low, high, w)) =
        untagged Ascii (λ b. lrc b ∷ []) l (length l - 1) f m y (simp length-take (omega arith)) (simp length-take (omega arith)) refl
        (λ q. w ∙ ap line q) (sym (ascii_check f l y low high w) ∙ e)

ascii_complete : (tag body f : List ℕ) → Framed Ascii tag body f → unwrap Ascii f ≡ go (record { tag = tag; body = body })
ascii_complete (a ∷ t) body f h = absurd (omega (arith, h.tagged))
ascii_complete [] body f h = run (body ++ (lrc body ∷ [])) refl
  where
    run : (l : List ℕ) → l ≡ body ++ (lrc body ∷ []) → unwrap Ascii f ≡ go (record { tag = []; body = body })
    run l q =
        let c = cut l body (lrc body ∷ []) 1 q refl in
        let y : Bytes l = rw q (bytes_append body (lrc body ∷ []) h.bytes (lrc_lt body, tt)) in
        ascii_check f l y (omega (arith, h.low, c.long)) (omega (arith, h.high, c.long)) (rw q h.whole)
        ∙ pass _ _ _ (c.after ∙ ap (λ t. lrc t ∷ []) (sym c.before))
        ∙ ap (λ t. go (record { tag = []; body = t })) c.before

-- ---- TCP

tcp_whole : (f : List ℕ) → Six f → Bytes f → get_or f 2 0 ≡ 0 → get_or f 3 0 ≡ 0 → word_at f 4 + 6 ≡ length f
    → f ≡ wrap TcpUdp (take 2 f) (drop 6 f)
tcp_whole _ (six a b c d e g r) y p q w =
    let hi : e ≡ length r / 256 = omega (arith, y) in
    let lo : g ≡ length r % 256 = omega (arith, y) in
    cc

tcp_sound : (f : List ℕ) (m : Message) → Bytes f → unwrap TcpUdp f ≡ go m → Framed TcpUdp m.tag m.body f
unfolding unwrap
tcp_sound f m y e =
    needed _ _ _ e λ p q.
    let r : record { tag = take 2 f; body = drop 6 f } ≡ m = cc in
    subst (λ n. Framed TcpUdp n.tag n.body f) r
    (record {
      bytes = all_drop _ 6 f y;
      low = simp length-drop (omega arith);
      high = simp length-drop (omega arith);
      tagged = simp length-take (omega arith);
      whole = tcp_whole f (six? f (omega arith)) y p.1.1.0 p.1.1.1.0 p.1.1.1.1;
    })

tcp_complete : (tag body f : List ℕ) → Framed TcpUdp tag body f → unwrap TcpUdp f ≡ go (record { tag = tag; body = body })
unfolding unwrap
tcp_complete [] body f h = absurd (omega (arith, h.tagged))
tcp_complete (a ∷ []) body f h = absurd (omega (arith, h.tagged))
tcp_complete (a ∷ b ∷ c ∷ r) body f h = absurd (omega (arith, h.tagged))
tcp_complete (a ∷ b ∷ []) body f h =
    rw h.whole
    (pass _ _ _ (omega (arith, h.low, h.high), (omega (arith, h.high), (refl, (refl, omega (arith, div-add-mod' (length body) 256))))))

-- ---- all three

-- what is taken off a frame was put around it
pub sound : (p : ModbusProto) (f : List ℕ) (m : Message) → Bytes f → unwrap p f ≡ go m → Framed p m.tag m.body f
sound Rtu f m y e = rtu_sound f m y e
sound Ascii f m y e = ascii_sound f m e
sound TcpUdp f m y e = tcp_sound f m y e

-- what was put around is taken off
pub complete : (p : ModbusProto) (tag body f : List ℕ) → Framed p tag body f → unwrap p f ≡ go (record { tag = tag; body = body })
complete Rtu tag body f h = rtu_complete tag body f h
complete Ascii tag body f h = ascii_complete tag body f h
complete TcpUdp tag body f h = tcp_complete tag body f h

-- both ways at once
pub unwrapped : (p : ModbusProto) (f : List ℕ) (m : Message) → Bytes f → (unwrap p f ≡ go m) ↔ Framed p m.tag m.body f
unwrapped p f m y = (λ e. sound p f m y e, λ h. complete p m.tag m.body f h)

-- ---- the frame around a body

pub length_wrap : (p : ModbusProto) (tag body : List ℕ) → length tag ≡ tag_length p → length (wrap p tag body) ≡ around p (length body)
length_wrap Rtu tag body e = simp length-append
length_wrap Ascii tag body e = simp (length-append, length_text) (omega arith)
length_wrap TcpUdp tag body e = simp (length-append, e) (omega arith)

pub bytes_wrap : (p : ModbusProto) (tag body : List ℕ) → Bytes tag → Bytes body → length body < 65536 → Bytes (wrap p tag body)
bytes_wrap Rtu tag body u y h =
    let c = crc_lt body y in
    bytes_append body (crc_bytes body) y (omega arith, (omega arith, tt))
bytes_wrap Ascii tag body u y h =
    let d : Bytes (text (body ++ (lrc body ∷ []))) = bytes_text _ (bytes_append body (lrc body ∷ []) y (lrc_lt body, tt)) in
    (omega arith, bytes_append (text (body ++ (lrc body ∷ []))) (13 ∷ 10 ∷ []) d (omega arith, (omega arith, tt)))
bytes_wrap TcpUdp tag body u y h =
    let header = bytes_append tag (0 ∷ 0 ∷ two (length body)) u (omega arith, (omega arith, bytes_two _ h)) in
    bytes_append (tag ++ (0 ∷ 0 ∷ two (length body))) body header y

-- a frame of bytes has a tag of bytes
pub bytes_tag : (p : ModbusProto) (tag body f : List ℕ) → Framed p tag body f → Bytes f → Bytes tag
bytes_tag Rtu [] body f h y = tt
bytes_tag Rtu (a ∷ t) body f h y = absurd (omega (arith, h.tagged))
bytes_tag Ascii [] body f h y = tt
bytes_tag Ascii (a ∷ t) body f h y = absurd (omega (arith, h.tagged))
bytes_tag TcpUdp tag body f h y =
    bytes_front tag (0 ∷ 0 ∷ two (length body)) (bytes_front (tag ++ (0 ∷ 0 ∷ two (length body))) body (rw h.whole at y))

-- ---- a frame as the switch has it read

-- strict, every frame is itself
pub spelled_strict : (p : ModbusProto) (f : List ℕ) → spelled_in p 0 f ≡ f
spelled_strict Rtu f = refl
spelled_strict Ascii f = spelt_strict f
spelled_strict TcpUdp f = refl

pub bytes_spelled : (p : ModbusProto) (h : ℕ) (f : List ℕ) → Bytes f → Bytes (spelled_in p h f)
bytes_spelled Rtu h f y = y
bytes_spelled Ascii h f y = bytes_spelt h f y
bytes_spelled TcpUdp h f y = y

-- a line of bytes is in capitals, and so is an ASCII frame around bytes
pub line_capital : (l : List ℕ) → Bytes l → All (λ c. ¬ Small c) (line l)
line_capital l y = (
  λ q. omega (arith, q),
  all_append (λ c. ¬ Small c) (text l) (13 ∷ 10 ∷ []) (text_capital l y)
      (λ q. omega (arith, q), (λ q. omega (arith, q), tt)),
)

pub wrap_capital : (tag body : List ℕ) → Bytes body → All (λ c. ¬ Small c) (wrap Ascii tag body)
wrap_capital tag body y = line_capital (body ++ (lrc body ∷ [])) (bytes_append body (lrc body ∷ []) y (lrc_lt body, tt))

-- so under every switch the frame around bytes is itself
pub wrap_spelled : (p : ModbusProto) (h : ℕ) (tag body : List ℕ) → Bytes body → spelled_in p h (wrap p tag body) ≡ wrap p tag body
wrap_spelled Rtu h tag body y = refl
wrap_spelled Ascii h tag body y = spelt_same h (wrap Ascii tag body) (wrap_capital tag body y)
wrap_spelled TcpUdp h tag body y = refl

pub framed_spelled : (p : ModbusProto) (h : ℕ) (tag body f : List ℕ) → Framed p tag body f → spelled_in p h f ≡ f
framed_spelled p h tag body f k = ap (spelled_in p h) k.whole ∙ wrap_spelled p h tag body k.bytes ∙ sym k.whole
