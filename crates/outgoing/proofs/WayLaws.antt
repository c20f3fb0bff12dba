-- One law for each way out of what adds to a response.
-- Assumes nothing.
use mathlib.Core.Path.{◌≡◌, sym, ap, ◌∙◌}
use mathlib.Core.List.{List, [], ◌∷◌, ◌++◌}
use Prim.Native.Nat.{ℕ, ◌+◌, ◌-◌, ◌/◌, ◌%◌, ◌≤◌, ◌<◌}
use native.Mathlib.Omega.{arith}
use lib.ListN.{length, take, drop}
use lib.Seq.{sets}
use Rattle.std.specs.Prelude.{Result, Ok, Err, ⊤}
use Rattle.modbus.specs.Step.{Step, stop, go, ◌>>◌, need, ◌≤?◌}
use Rattle.modbus.specs.Check.{crc, lrc}
use Rattle.modbus.specs.Request.{exception}
use Rattle.modbus.specs.Paper.{told, done_paper}
use Rattle.modbus.specs.declared.ErrorKind.{ErrorKind}
use Rattle.modbus.specs.declared.ErrorKind.TheVariants.{OOB, FrameBroken}
use Rattle.modbus.specs.declared.ModbusProto.{ModbusProto}
use Rattle.modbus.specs.declared.ModbusProto.TheVariants.{Rtu, Ascii, TcpUdp}
use Rattle.modbus.proofs.StepLaws.{pass, fail, follow, halt, needed, needed_stop}
use Rattle.modbus.proofs.PaperLaws.{number_some, told_same}
use Rattle.outgoing.specs.Grow.{largest, reached, Response, response, Short, short, growth, grown_paper, add, length_field, most_length, Settable, begun, byte_counted, except, seal}
use Rattle.outgoing.proofs.GrowLaws.{add_none, add_fits}

-- what has no room, or a number that does not fit, leaves the response as given
abbrev as_given : ℕ → List ℕ → Step Short Response
as_given len out = stop (short OOB (response len out))

-- ---- the frame's bytes

module _ (buf : List ℕ) (start n : ℕ) where
  pub reached_far : largest < start + n → reached buf start n ≡ stop OOB
  unfolding reached
  reached_far h = fail _ _ _ (λ k. omega arith)

  pub reached_beyond : start + n ≤ largest → length buf < start + n → reached buf start n ≡ stop FrameBroken
  unfolding reached
  reached_beyond h i = pass _ _ _ h ∙ fail _ _ _ (λ k. omega arith)

  pub reached_all : start + n ≤ largest → start + n ≤ length buf → reached buf start n ≡ go 0
  unfolding reached
  reached_all h i = pass _ _ _ h ∙ pass _ _ _ i

-- a call that goes on where the frame has n bytes from the start on, and else leaves g
abbrev reaching : List ℕ → ℕ → ℕ → Response → Step Short Response → Step Short Response
reaching buf start n g m = do
  need (start + n ≤? largest) (short OOB g)
  need (start + n ≤? length buf) (short FrameBroken g)
  m

reaching_goes : (buf : List ℕ) (start n : ℕ) (g : Response) (m : Step Short Response)
    → start + n ≤ largest → start + n ≤ length buf → reaching buf start n g m ≡ m
reaching_goes buf start n g m h i = pass _ _ _ h ∙ pass _ _ _ i

-- what was answered for these bytes
module _ (r : Result ⊤ ErrorKind) (buf : List ℕ) (start n : ℕ) (e : done_paper r ≡ told (reached buf start n)) where
  pub reach_done : r ≡ (Ok tt) → (start + n ≤ largest) × (start + n ≤ length buf)
  unfolding reached
  reach_done q =
      let p = told_same (reached buf start n) (go 0) (sym e ∙ ap done_paper q) in
      needed _ _ _ p λ h p₁. needed _ _ _ p₁ λ i p₂. (h, i)

  pub reach_refused : (k : ErrorKind) → r ≡ Err k → (g : Response) (m : Step Short Response)
      → reaching buf start n g m ≡ stop (short k g)
  unfolding reached
  reach_refused k q g m =
      let p = told_same (reached buf start n) (stop k) (sym e ∙ ap done_paper q) in
      needed_stop _ _ _ p (λ h x. fail _ _ _ h ∙ ap (λ (j : ErrorKind). stop (short j g)) x)
      λ h p₁. needed_stop _ _ _ p₁ (λ i x. pass _ _ _ h ∙ fail _ _ _ i ∙ ap (λ (j : ErrorKind). stop (short j g)) x)
      λ i p₂. let z : ◌≡◌ {A = ℕ} 0 1 = cc in absurd (omega arith)

-- ---- what a response begins with

module _ (p : ModbusProto) (bytes : ℕ) (buf : List ℕ) (start n len : ℕ) (out : List ℕ) where
  pub begun_unset : ¬ Settable p bytes (length out) len → begun p bytes buf start n (response len out) ≡ as_given len out
  unfolding begun
  begun_unset h = by (bytes ≤? most_length p)
    where
      by : Dec (bytes ≤ most_length p) → begun p bytes buf start n (response len out) ≡ as_given len out
      by (yes i) =
          let w : ¬ (len + length (length_field p bytes) ≤ length out) = λ j. h (i, j) in
          pass _ _ _ i ∙ halt _ _ (add_none len out (length_field p bytes) (omega arith))
      by (no i) = fail _ _ _ i

  module _ (h : Settable p bytes (length out) len) where
    led : begun p bytes buf start n (response len out)
        ≡ reaching buf start n (response len out)
        (add (take n (drop start buf)) (response (len + length (length_field p bytes)) (sets out len (length_field p bytes))))
    unfolding begun
    led = pass _ _ _ h.0 ∙ follow _ _ (add_fits len out (length_field p bytes) h.1)

    pub begun_unread : (k : ErrorKind)
        → ((m : Step Short Response) → reaching buf start n (response len out) m ≡ stop (short k (response len out)))
        → begun p bytes buf start n (response len out) ≡ stop (short k (response len out))
    begun_unread k u = led ∙ u _

    -- so setting the field is not refused
    pub field_fits : (r : Result ⊤ ErrorKind) (n' : ℕ) (l : List ℕ)
        → grown_paper r n' l ≡ growth (add (length_field p bytes) (response len out)) → (k : ErrorKind) → r ≡ Err k → ⊥
    field_fits r n' l e k q =
        let f = e ∙ ap growth (add_fits len out (length_field p bytes) h.1) in
        number_some k (ap (λ (a : Result ⊤ ErrorKind). (done_paper a).0) (sym q) ∙ ap (λ (t : ℕ × Response). t.0) f)

    -- setting the field left n' and l
    pub begun_on : start + n ≤ largest → start + n ≤ length buf → (n' : ℕ) (l : List ℕ)
        → add (length_field p bytes) (response len out) ≡ go (response n' l)
        → begun p bytes buf start n (response len out)
        ≡ add (take ((start + n) - start) (drop start buf)) (response n' l)
    unfolding begun
    begun_on i j n' l e =
        let z : (start + n) - start ≡ n = omega arith in
        rw z (pass _ _ _ h.0 ∙ follow _ _ e ∙ reaching_goes buf start n _ _ i j)

-- ---- byte count

pub byte_wide : (bytes : ℕ) (r : Response) → 255 < bytes → byte_counted bytes r ≡ stop (short OOB r)
byte_wide bytes r h = fail _ _ _ (λ k. omega arith)

pub byte_fits : (bytes : ℕ) (r : Response) → bytes ≤ 255 → byte_counted bytes r ≡ add (bytes ∷ []) r
byte_fits bytes r h = pass _ _ _ h

-- ---- an exception

module _ (p : ModbusProto) (unit function code len : ℕ) (out : List ℕ) where
  pub except_long : length out < len → except p unit function code (response len out) ≡ as_given len out
  unfolding except
  except_long h = fail _ _ _ (λ k. omega arith)

  pub except_high : len ≤ length out → 127 < function
      → except p unit function code (response len out) ≡ as_given len out
  unfolding except
  except_high h i = pass _ _ _ h ∙ fail _ _ _ (λ k. omega arith)

  pub except_adds : len ≤ length out → function ≤ 127
      → except p unit function code (response len out)
      ≡ add (length_field p 3 ++ unit ∷ exception function code) (response len out)
  unfolding except
  except_adds h i = pass _ _ _ h ∙ pass _ _ _ i

-- ---- the check of a serial line

module _ (len : ℕ) (out : List ℕ) where
  pub seal_long : (p : ModbusProto) → length out < len → seal p (response len out) ≡ as_given len out
  unfolding seal
  seal_long Rtu h = fail _ _ _ (λ k. omega arith)
  seal_long Ascii h = fail _ _ _ (λ k. omega arith)
  seal_long TcpUdp h = fail _ _ _ (λ k. omega arith)

  module _ (h : len ≤ length out) where
    pub seal_tcp : seal TcpUdp (response len out) ≡ go (response len out)
    unfolding seal
    seal_tcp = pass _ _ _ h

    pub crc_over : 255 < len → seal Rtu (response len out) ≡ as_given len out
    unfolding seal
    crc_over i = pass _ _ _ h ∙ fail _ _ _ (λ k. omega arith)

    -- a word's two bytes, low byte first, as the library names them
    pub crc_adds : len ≤ 255 → (v : ℕ) → v < 65536 → v ≡ crc (take len out)
        → seal Rtu (response len out) ≡ add (v % 256 ∷ v / 256 % 256 ∷ []) (response len out)
    unfolding seal
    crc_adds i v w e =
        let z : v / 256 % 256 ≡ v / 256 = omega arith in
        rw (z, e) (pass _ _ _ h ∙ pass _ _ _ i)

    pub lrc_over : 255 < len → seal Ascii (response len out) ≡ as_given len out
    unfolding seal
    lrc_over i = pass _ _ _ h ∙ fail _ _ _ (λ k. omega arith)

    pub lrc_adds : len ≤ 255 → (v : ℕ) → v ≡ lrc (take len out)
        → seal Ascii (response len out) ≡ add (v ∷ []) (response len out)
    unfolding seal
    lrc_adds i v e = rw e (pass _ _ _ h ∙ pass _ _ _ i)
