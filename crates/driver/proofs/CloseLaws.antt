-- A reply's body and the frame around it, in one buffer.
-- Assumes nothing.
use mathlib.Core.Path.{◌≡◌, refl, sym, ap, ap₂, ◌∙◌}
use mathlib.Core.List.{List, [], ◌∷◌, ◌++◌, append_assoc}
use Prim.Native.Nat.{ℕ, zero, suc, ◌+◌, ◌≤◌}
use native.Mathlib.Omega.{arith}
use native.Mathlib.Nat.{zero-add}
use lib.ListN.{length, take, drop, set}
use lib.Seq.{sets, sets-eq, length-sets, length-take-le, drop_at, take-append_seam, drop-set-lt}
use Rattle.std.specs.Prelude.{Option, Some}
use Rattle.modbus.specs.Frame.{wrap, tag_length, tag_of, start_of, around}
use Rattle.modbus.specs.Setup.{room_for}
use Rattle.modbus.specs.declared.ModbusProto.{ModbusProto}
use Rattle.modbus.specs.declared.ModbusProto.TheVariants.{Rtu, Ascii, TcpUdp}
use Rattle.modbus.proofs.FrameLaws.{length_wrap}
use Rattle.driver.specs.declared.Driven.{Driven}
use Rattle.driver.specs.Driven.{Leaves, leaving}
use Rattle.driver.specs.Serving.{Telling, result_by, Turn, Laid, laying, laid, closing}

-- what stands in an answer
pub some_pair : {m n : ℕ} {o p : List ℕ} → ◌≡◌ {A = Option ℕ × List ℕ} (Some m, o) (Some n, p) → ◌≡◌ {A = ℕ × List ℕ} (m, o) (n, p)
some_pair {m} {n} e =
    let k = ap (λ (x : Option ℕ × List ℕ). x.0) e in
    let z : m ≡ n = cc in
    ap₂ (λ (i : ℕ) (l : List ℕ). (i, l)) z (ap (λ (x : Option ℕ × List ℕ). x.1) e)

pub tag_length_law : (p : ModbusProto) (high low : ℕ) → length (tag_of p high low) ≡ tag_length p
tag_length_law Rtu high low = refl
tag_length_law Ascii high low = refl
tag_length_law TcpUdp high low = refl

-- a frame covers its body's place, and fits the room
around_body : (p : ModbusProto) (n : ℕ) → start_of p + n ≤ around p n
around_body Rtu n = omega arith
around_body Ascii n = omega arith
around_body TcpUdp n = omega arith

around_room : (p : ModbusProto) (n : ℕ) → n ≤ 253 → around p n ≤ room_for p
around_room Rtu n h = omega arith
around_room Ascii n h = omega arith
around_room TcpUdp n h = omega arith

-- bytes put into a buffer are found there, and leave what stands behind them
pub sets_back : (l : List ℕ) (i : ℕ) (b : List ℕ) → i + length b ≤ length l → take (length b) (drop i (sets l i b)) ≡ b
sets_back l i b h =
    let e = sets-eq b l i h ∙ append_assoc (take i l) b (drop (i + length b) l) in
    ap (λ (x : List ℕ). take (length b) (drop i x)) e
    ∙ ap (take (length b)) (drop_at (take i l) (b ++ drop (i + length b) l) i (length-take-le i l (omega arith)))
    ∙ take-append_seam b (drop (i + length b) l)

drop_sets : (b l : List ℕ) (i m : ℕ) → i + length b ≤ m → drop m (sets l i b) ≡ drop m l
drop_sets [] l i m h = refl
drop_sets (x ∷ b) l i m h = drop_sets b (set l i x) (suc i) m (omega arith) ∙ drop-set-lt m l i x (omega arith)

-- what covers them leaves nothing of them
sets_over : (l : List ℕ) (i : ℕ) (b w : List ℕ) → i + length b ≤ length w → length w ≤ length l → sets (sets l i b) 0 w ≡ sets l 0 w
sets_over l i b w h k =
    sets-eq w (sets l i b) 0 (rw (length-sets, zero-add) k)
    ∙ ap (λ (x : List ℕ). w ++ x) (rw zero-add (drop_sets b l i (length w) h))
    ∙ sym (sets-eq w l 0 (rw zero-add k))

-- the frame around a body, where there is one
abbrev pub framed : ModbusProto → List ℕ → List ℕ → List ℕ
framed p tag [] = []
framed p tag (x ∷ b) = wrap p tag (x ∷ b)

module _ (p : ModbusProto) (tag reply : List ℕ) where
  -- what is left of a turn of which this is told
  abbrev pub closed : Telling → Turn → Leaves
  closed d t =
      leaving (result_by d (length (framed p tag t.body))) (sets reply 0 (framed p tag t.body)) t.coil_bytes t.holding_bytes

  module _ (tagged : length tag ≡ tag_length p) (room : room_for p ≤ length reply) where
    sealed : (b : List ℕ) → length b ≤ 253
        → closing p tag (sets reply (start_of p) b) (length b) ≡ (length (framed p tag b), sets reply 0 (framed p tag b))
    sealed [] h = refl
    sealed (x ∷ y) h =
        let b = x ∷ y in
        let n = length_wrap p tag b tagged in
        let f = around_body p (length b) in
        let g = around_room p (length b) h in
        let e : take (length b) (drop (start_of p) (sets reply (start_of p) b)) ≡ b = sets_back reply (start_of p) b (omega arith) in
        ap₂ (λ (k : ℕ) (l : List ℕ). (k, l)) (sym n)
        (ap (λ (l : List ℕ). sets (sets reply (start_of p) b) 0 (wrap p tag l)) e ∙ sets_over reply (start_of p) b (wrap p tag b) (omega arith) (omega arith))

    -- what was told, what was served and what was closed make up the call
    pub closes : (t : Turn) → length t.body ≤ 253 → (n : ℕ) (o c h : List ℕ) → laying n o c h ≡ laid (start_of p) reply t
        → (m : ℕ) (q : List ℕ) → ◌≡◌ {A = ℕ × List ℕ} (m, q) (closing p tag o n)
        → (d : Telling) (r : Driven) → r ≡ result_by d m → leaving r q c h ≡ closed d t
    closes t brief n o c h e m q f d r g =
        let k = f ∙ ap (λ (x : Laid). closing p tag x.reply_bytes x.body_length) e ∙ sealed t.body brief in
        ap (λ (r : Driven). leaving r q c h) g
        ∙ ap₂ (λ (x : ℕ × List ℕ) (y : Laid). leaving (result_by d x.0) x.1 y.coil_bytes y.holding_bytes) k e

-- ---- each way out of closing

module _ (p : ModbusProto) (tag reply : List ℕ) where
  pub nothing_closed : (n : ℕ) → n ≡ 0 → ◌≡◌ {A = ℕ × List ℕ} (0, reply) (closing p tag reply n)
  nothing_closed n e = rw e

  pub frame_closed : (n : ℕ) → ¬ (n ≡ 0)
      → ◌≡◌ {A = ℕ × List ℕ} (around p n, sets reply 0 (wrap p tag (take n (drop (start_of p) reply)))) (closing p tag reply n)
  frame_closed zero h = absurd (h refl)
  frame_closed (suc n) h = refl
