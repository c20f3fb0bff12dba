-- What the crate's chain of calls comes to on a request that it does not carry out: the tables as given, and nothing,
-- or an exception from our own unit, unless the request is a broadcast.
-- Assumes nothing.
use mathlib.Core.Bool.{Bool, true, false}
use mathlib.Core.Logic.{◌⊎◌, ◌≢◌}
use mathlib.Core.Path.{◌≡◌, refl, sym, ap, ◌∙◌, subst}
use mathlib.Core.List.{List, [], ◌∷◌}
use Prim.Native.Nat.{ℕ, ◌+◌, ◌≤◌, ◌<◌}
use native.Mathlib.Omega.{arith}
use lib.ListN.{length, drop, get_or}
use Rattle.modbus.specs.Step.{stop}
use Rattle.modbus.specs.Bytes.{word_at}
use Rattle.modbus.specs.Table.{Kind, Tab, kind_of, target}
use Rattle.modbus.specs.Ported.{Ported, reads, one, many, code_of}
use Rattle.modbus.specs.Request.{most_read, most_written, exception}
use Rattle.modbus.specs.Storage.{Sound, storage}
use Rattle.modbus.specs.Unit.{Listed}
use Rattle.modbus.specs.declared.ErrorKind.{ErrorKind}
use Rattle.modbus.specs.declared.ModbusProto.{ModbusProto}
use Rattle.modbus.proofs.StorageLaws.{size_sound}
use Rattle.tables.specs.Lent.{Lent, table_of, cells_of}
use Rattle.tables.proofs.CallsLaws.{changed_outside}
use Rattle.frame.specs.State.{fresh, grown, responding_to, counting, After, well}
use Rattle.frame.specs.Parse.{unsupported, frame_parsed}
use Rattle.frame.specs.Parse as parse
use Rattle.process.specs.Process.{Legal, stored_many, wrote}
use Rattle.chain.specs.Chain.{Chained, chained_to, from_processed, from_wrote, with_tables, from_parsed, chained, spoken}
use Rattle.chain.proofs.Response.{Bears, header, closed}
use Rattle.chain.proofs.Laid.{Laid, Good, byte_laid, word_laid, rest_laid}
use Rattle.chain.proofs.Parsed.{ready, answers, faulty, lead, Heard, standing, begun, known, Over, parsed_read, parsed_one, parsed_many, parsed_foreign, parsed_ignored, parsed_unsupported, parsed_read_over, parsed_many_over}
use Rattle.chain.proofs.Shared.{ported_low}
use Rattle.chain.proofs.Processed.{table, cells, read_outside, Faults, one_outside, one_illegal, many_refused}
use Rattle.chain.proofs.Finished.{fault_ends}
use Rattle.chain.proofs.Carried.{chain}

module _ {p : ModbusProto} {tag body buf : List ℕ} {start : ℕ}
    (h : Laid p tag body buf start) {unit : ℕ} {list out : List ℕ} {broadcast : Bool}
    (heard : Heard p (get_or body 0 0) unit list out broadcast) (l : Lent) where
  abbrev pub excepted : ℕ → Chained
  excepted c =
      chained_to 0 (spoken broadcast (closed p tag (unit ∷ exception (get_or body 1 0) c))) l.coil_bytes
      l.holding_bytes

  lead_bears : broadcast ≡ false → Bears (length out) (header p tag) (lead h heard)
  lead_bears b =
      subst (λ (x : List ℕ). Bears (length out) x (lead h heard)) (ap (λ (x : Bool). parse.header x p buf) b ∙ h.led)
      (standing h heard).bears

  -- ---- not at all

  pub chain_ignored : (t : Tab) → broadcast ≡ true → get_or body 1 0 ≡ code_of (reads t) → 2 ≤ length body
      → chain h heard l ≡ chained_to 0 [] l.coil_bytes l.holding_bytes
  unfolding chained
  chain_ignored t b c two = ap (λ (x : After). from_parsed x buf l) (parsed_ignored h heard t c b two)

  -- ---- at once

  -- what parse leaves of an unsupported function
  abbrev unknown : Bool → After
  unknown b = well (unsupported b (responding_to (get_or body 1 0) (grown (lead h heard).len (begun h unit list out)))) (lead h heard).out

  unknown_ends : get_or body 1 0 ≤ 127 → (b : Bool) → broadcast ≡ b
      → from_parsed (unknown b) buf l
      ≡ chained_to 0 (spoken b (closed p tag (unit ∷ exception (get_or body 1 0) 1))) l.coil_bytes l.holding_bytes
  unknown_ends low true e = refl
  unknown_ends low false e =
      ap (with_tables (wrote (unknown false) l.coil_bytes l.holding_bytes))
      (fault_ends (responding_to (get_or body 1 0) (begun h unit list out)) 1 (length out) tag (lead h heard) h.tagged low
      heard.room false
      (λ q. lead_bears e))

  pub chain_unsupported : 2 ≤ length body → get_or body 1 0 ≤ 127 → ((fn : Ported) → get_or body 1 0 ≢ code_of fn)
      → chain h heard l ≡ excepted 1
  unfolding chained
  chain_unsupported two low none =
      ap (λ (x : After). from_parsed x buf l) (parsed_unsupported h heard two none)
      ∙ unknown_ends low broadcast refl

  -- a request for more than is permitted
  over_ends : (fn : Ported) → get_or body 1 0 ≡ code_of fn → Over h heard fn → chain h heard l ≡ excepted 3
  unfolding chained
  over_ends fn c o =
      let z = known h heard fn in
      ap (λ (x : After). from_parsed x buf l) o
      ∙ ap (with_tables (wrote (well (faulty 3 broadcast (counting (word_at body 4) z) (lead h heard).len) (lead h heard).out)
      l.coil_bytes l.holding_bytes))
      (fault_ends (counting (word_at body 4) z) 3 (length out) tag (lead h heard) h.tagged (ported_low fn)
      heard.room broadcast lead_bears)
      ∙ ap (λ (x : ℕ). chained_to 0 (spoken broadcast (closed p tag (unit ∷ exception x 3))) l.coil_bytes
      l.holding_bytes) (sym c)

  pub chain_read_over : Good p body buf start → (t : Tab) → broadcast ≡ false → get_or body 1 0 ≡ code_of (reads t)
      → length body ≡ 6
      → most_read (kind_of t) < word_at body 4 → chain h heard l ≡ excepted 3
  chain_read_over g t b c n m = over_ends (reads t) c (parsed_read_over h heard t c g b n m)

  pub chain_many_over : Good p body buf start → (k : Kind) → get_or body 1 0 ≡ code_of (many k)
      → length body ≡ 7 + get_or body 6 0
      → get_or body 6 0 ≤ 248 → (most_written k < word_at body 4) ⊎ (246 < get_or body 6 0) → chain h heard l ≡ excepted 3
  chain_many_over g k c n b m = over_ends (many k) c (parsed_many_over h heard g k c n b m)

  -- ---- when it is processed

  pub chain_read_outside : Good p body buf start → (t : Tab) → broadcast ≡ false → get_or body 1 0 ≡ code_of (reads t)
      → length body ≡ 6
      → word_at body 4 ≤ most_read (kind_of t) → Sound (storage t) (table_of l t) (cells_of l t)
      → cells_of l t < word_at body 2 + word_at body 4 → chain h heard l ≡ excepted 2
  unfolding chained
  chain_read_outside g t b c n most ok outside =
      let z = ready p unit true true (reads t) start (word_at body 2) (word_at body 4) in
      let (q, e, s) =
      read_outside unit buf l (standing h heard) t (word_at body 2) (word_at body 4) most
      (omega (arith, h.whole)) ok outside in
      let w = ap (λ (x : Bool). parse.header x p buf) b ∙ h.led in
      ap (λ (x : After). from_parsed x buf l) (parsed_read h heard t c g b n most)
      ∙ ap (λ (x : After). with_tables (wrote x l.coil_bytes l.holding_bytes) (from_processed x)) e
      ∙ ap (with_tables (wrote (well (faulty 2 false (z 0) q.len) q.out) l.coil_bytes l.holding_bytes))
      (fault_ends (z 0) 2 (length out) tag q h.tagged (ported_low (reads t)) heard.room false
      (λ _. subst (λ (x : List ℕ). Bears (length out) x q) w s))
      ∙ ap (λ (x : ℕ). chained_to 0 (closed p tag (unit ∷ exception x 2)) l.coil_bytes l.holding_bytes) (sym c)
      ∙ ap (λ (x : Bool).
      chained_to 0 (spoken x (closed p tag (unit ∷ exception (get_or body 1 0) 2))) l.coil_bytes l.holding_bytes)
      (sym b)

  -- the end of a write that was refused
  fault_ended : (fn : Ported) (k : Kind) (count x : ℕ) → get_or body 1 0 ≡ code_of fn
      → frame_parsed (fresh unit p) buf list out
      ≡ well (ready p unit (answers broadcast) false fn start (word_at body 2) count (lead h heard).len) (lead h heard).out
      → Faults unit buf l (standing h heard) k broadcast fn (word_at body 2) count x
      → chain h heard l ≡ excepted x
  unfolding chained
  fault_ended fn k count x c e f =
      let z = ready p unit (answers broadcast) false fn start (word_at body 2) count in
      ap (λ (a : After). from_parsed a buf l) e
      ∙ ap from_wrote f
      ∙ ap (with_tables (wrote (well (faulty x broadcast (z 0) (lead h heard).len) (lead h heard).out) l.coil_bytes l.holding_bytes))
      (fault_ends (z 0) x (length out) tag (lead h heard) h.tagged (ported_low fn) heard.room broadcast lead_bears)
      ∙ ap (λ (y : ℕ). chained_to 0 (spoken broadcast (closed p tag (unit ∷ exception y x))) l.coil_bytes
      l.holding_bytes) (sym c)

  module _ (g : Good p body buf start) (k : Kind) where
    module _ (c : get_or body 1 0 ≡ code_of (one k)) (n : length body ≡ 6) where
      pub chain_one_illegal : ¬ Legal k (word_at body 4) → chain h heard l ≡ excepted 3
      chain_one_illegal illegal =
          fault_ended (one k) k 1 3 c (parsed_one h heard g k c n)
          (one_illegal unit buf l (standing h heard) k broadcast (word_at body 2) 1 (omega (arith, h.whole)) (word_at body 4)
          (word_laid h 4 (omega arith))
          illegal)

      pub chain_one_outside : Legal k (word_at body 4) → Sound (storage (target k)) (table k l) (cells k l) → cells k l ≤ word_at body 2
          → chain h heard l ≡ excepted 2
      chain_one_outside legal ok outside =
          fault_ended (one k) k 1 2 c (parsed_one h heard g k c n)
          (one_outside unit buf l (standing h heard) k broadcast (word_at body 2) 1 (omega (arith, h.whole)) (word_at body 4)
          (word_laid h 4 (omega arith))
          legal _
          (changed_outside (storage (target k)) (table k l) (cells k l) (word_at body 2) _
          (rw (size_sound (storage (target k)) (table k l) (cells k l) ok) outside)))

    pub chain_many_refused : get_or body 1 0 ≡ code_of (many k) → length body ≡ 7 + get_or body 6 0 → get_or body 6 0 ≤ 246
        → word_at body 4 ≤ most_written k → (x : ErrorKind)
        → ((len : ℕ)
        → stored_many k (table k l) (cells k l)
        (ready p unit (answers broadcast) false (many k) start (word_at body 2) (word_at body 4) len) (drop 7 body)
        ≡ stop x)
        → chain h heard l ≡ excepted 2
    chain_many_refused c n few most x e =
        fault_ended (many k) k (word_at body 4) 2 c (parsed_many h heard g k c n few most)
        (many_refused unit buf l (standing h heard) k broadcast (word_at body 2) (word_at body 4) (get_or body 6 0)
        (byte_laid h 6 (start + 6) refl (omega arith))
        (omega (arith, h.whole)) (drop 7 body) (rest_laid h 7 (get_or body 6 0) (sym n)) x (e (lead h heard).len))

pub chain_foreign : {p : ModbusProto} {tag body buf : List ℕ} {start : ℕ} → Laid p tag body buf start
    → (unit : ℕ) (list out : List ℕ)
    → 1 ≤ length body → ¬ (Listed (get_or body 0 0) list ⊎ (get_or body 0 0 ≡ unit)) → (l : Lent)
    → chained unit p list l buf out ≡ chained_to 0 [] l.coil_bytes l.holding_bytes
unfolding chained
chain_foreign {buf = buf} h unit list out some n l =
    ap (λ (x : After). from_parsed x buf l) (parsed_foreign h unit list out some n)
