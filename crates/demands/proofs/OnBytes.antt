-- The customer's third demand holds of a call on bytes, for any numbers and bytes that the driver's contract allows; each refusal is given
-- exactly on its condition; and every byte outside the reply and a served write is as lent.
-- Assumes that the elements of the frame are bytes, as those of every lent slice of bytes are; of the tables and the list nothing.
use mathlib.Core.Logic.{◌↔◌, by_cases}
use mathlib.Core.Path.{◌≡◌, refl, ap, sym, ◌∙◌, subst}
use mathlib.Core.List.{List, ◌++◌}
use Prim.Native.Nat.{ℕ, ◌≤◌, ◌<◌}
use native.Mathlib.Omega.{arith}
use native.Mathlib.Nat.{zero-add}
use lib.ListN.{length, take, drop, get_or}
use lib.Seq.{sets, sets-eq, length-sets, take-append_seam, drop-append_seam}
use Rattle.modbus.specs.Step.{go}
use Rattle.modbus.specs.Bytes.{Bytes}
use Rattle.modbus.specs.Table.{Tables, Tab, coils, holdings}
use Rattle.modbus.specs.Request.{code, reads, Ask, writing, apply}
use Rattle.modbus.specs.Paper.{range_told}
use Rattle.modbus.specs.Setup.{Setup, Valid, valid?, Roomy, roomy?}
use Rattle.modbus.specs.Decode.{Message}
use Rattle.modbus.specs.Drive.{Result, judge, drive}
use Rattle.modbus.proofs.StepLaws.{needed}
use Rattle.modbus.proofs.DriveLaws.{stop_after, stop_changed, go_low, go_after, go_changed, by_judge}
use Rattle.modbus.proofs.PaperLaws.{range_told_law}
use Rattle.tables.specs.Lent.{Lent, table_of, cells_of, tables_of}
use Rattle.driver.specs.Driven.{Call, setup_of, bytes_by, result_of, Leaves, leaving, called}
use Rattle.demands.specs.Demand.{Demand3}
use Rattle.demands.specs.Order.{Refusal, bad_setup, no_room}
use Rattle.demands.specs.Changed.{Outside, Names, Held}
use Rattle.demands.specs.OnBytes.{lent_after, showed, refusing, Unwritten, Kept}
use Rattle.demands.specs.Promised.{Promised}
use Rattle.demands.proofs.CellLaws.{run_of, apply_stored, same_cells}
use Rattle.demands.proofs.Judge.{requested, judge_serves, refusal_returns}
use Rattle.demands.proofs.Exactly.{exactly}
use Rattle.demands.proofs.Replies.{reply_room}
use Rattle.demands.proofs.StoredLaws.{Part, ask_stored, stored_length, stored_free, spare_free}
use Rattle.demands.proofs.Third.{demand_3}
use Rattle.demands.proofs.Named.{one_range, hit_named}

judge_valid : (s : Setup) (f : List ℕ) {w : Message × Ask} → judge s f ≡ go w → Valid s
unfolding judge
judge_valid s f e = needed _ _ _ e λ valid _. valid

-- a reply fits the buffer of any setup, since none is given without room for it
fits : (s : Setup) (t : Tables) (f : List ℕ) → Bytes f → length (drive s t f).reply ≤ s.room
fits s t f y =
    by_cases (roomy? s)
    (λ r. omega (arith, reply_room s t f y))
    (λ n. by_cases (valid? s)
    (λ v. let e = (refusal_returns s t f y (no_room v n)).2 in rw e (omega arith))
    (λ w. let e = (refusal_returns s t f y (bad_setup w)).2 in rw e (omega arith)))

front : (l vs : List ℕ) → length vs ≤ length l → sets l 0 vs ≡ vs ++ drop (length vs) l
front l vs h = sets-eq vs l 0 (omega arith) ∙ rw zero-add

module _ (lent : Call) (y : Bytes lent.frame) where
  abbrev l : Lent
  l = lent.tables

  abbrev s : Setup
  s = setup_of lent

  abbrev frame : List ℕ
  frame = lent.frame

  abbrev reply : List ℕ
  reply = lent.reply

  -- what the call gives on bytes, and what the definitions say on cells
  abbrev call : Leaves
  call = called lent

  abbrev due : Result
  due = drive s (tables_of l) frame

  -- ---- the tables

  call_after : tables_of (lent_after l call) ≡ due.after
  unfolding called drive
  call_after =
      by_judge s frame
      (λ x e. rw (e, stop_after s (tables_of l) x))
      (λ m a e.
      let h = judge_serves s frame y m a e in
      rw (e, go_after s (tables_of l) m a)
      (same_cells
      (ask_stored s l (judge_valid s frame e) (λ t. refl) a h.permitted h.inside)
      (apply_stored a (tables_of l) h.permitted)))

  call_lengths : (length call.coil_bytes ≡ length l.coil_bytes) × (length call.holding_bytes ≡ length l.holding_bytes)
  unfolding called
  call_lengths =
      by_judge s frame
      (λ x e. rw e (refl, refl))
      (λ m a e. rw e (stored_length coils (writing a) _ _, stored_length holdings (writing a) _ _))

  -- what was judged to be served writes no such cell
  abbrev Spared : Tab → ℕ → Type 0
  Spared tab i = (m : Message) (a : Ask) → judge s frame ≡ go (m, a) → Outside (writing a) tab i

  outside_cells : (tab : Tab) (i : ℕ) → Spared tab i → tables_of (lent_after l call) tab i ≡ tables_of l tab i
  unfolding drive
  outside_cells tab i free =
      ap (λ (t : Tables). t tab i) call_after
      ∙ by_judge s frame
      (λ x e. rw (e, stop_after s (tables_of l) x))
      (λ m a e.
      let h = judge_serves s frame y m a e in
      rw (e, go_after s (tables_of l) m a) ((apply_stored a (tables_of l) h.permitted).keeps tab i (free m a e)))

  -- a byte that is part of no cell written
  outside_byte : (t : Tab) (b : ℕ) → ((i : ℕ) → Part t b i → Spared t i)
      → get_or (bytes_by l (judge s frame) t) b 0 ≡ get_or (table_of l t) b 0
  outside_byte t b free =
      by_judge s frame
      (λ x e. rw e)
      (λ m a e.
      let h = judge_serves s frame y m a e in
      rw e (stored_free t b (run_of a (tables_of l) h.permitted) (table_of l t) (λ i q. free i q m a e)))

  unwritten_spared : (tab : Tab) (i : ℕ) → Unwritten s frame tab i → Spared tab i
  unwritten_spared tab i free m a e = free (requested m a) (judge_serves s frame y m a e)

  spare_spared : (tab : Tab) (i : ℕ) → cells_of l tab ≤ i → Spared tab i
  spare_spared tab i high m a e = spare_free s tab i high a (judge_serves s frame y m a e).inside

  unnamed_spared : (tab : Tab) (i : ℕ) → ¬ Names call.result (code (reads tab)) i → Spared tab i
  unfolding called drive
  unnamed_spared tab i free m a e r w h =
      let z : due.changed ≡ writing a = rw e (go_changed s (tables_of l) m a) in
      free (rw z (hit_named (run_of a (tables_of l) (judge_serves s frame y m a e).permitted) tab i r w h))

  -- ---- the numbers and the reply

  call_room : length call.reply_bytes ≡ length reply
  unfolding called drive
  call_room = length-sets reply 0 due.reply

  due_fits : length due.reply ≤ length reply
  due_fits = fits s (tables_of l) frame y

  call_laid : call
      ≡ leaving (result_of due) (due.reply ++ drop (length due.reply) reply)
      (bytes_by l (judge s frame) coils) (bytes_by l (judge s frame) holdings)
  unfolding called drive
  call_laid =
      ap
      (λ b. leaving (result_of due) b (bytes_by l (judge s frame) coils) (bytes_by l (judge s frame) holdings))
      (front reply due.reply due_fits)

  call_reply : take call.result.length call.reply_bytes ≡ due.reply
  call_reply = rw call_laid (take-append_seam due.reply _)

  call_rest : drop call.result.length call.reply_bytes ≡ drop call.result.length reply
  call_rest = rw call_laid (drop-append_seam due.reply _)

  call_fits : call.result.length ≤ length reply
  call_fits = rw call_laid due_fits

  -- the numbers tell the range
  call_changed : range_told call.result.table call.result.first call.result.count ≡ due.changed
  unfolding called drive
  call_changed =
      by_judge s frame
      (λ x e. rw (e, stop_changed s (tables_of l) x))
      (λ m a e. rw (e, go_changed s (tables_of l) m a) (range_told_law a))

  call_due : showed l call ≡ due
  unfolding called drive
  call_due = λ i. record { outcome = due.outcome; exception_code = due.exception_code; reply = call_reply i; after = call_after i; changed = call_changed i }

  call_refusing : 2 ≤ due.outcome → call ≡ refusing lent due.outcome due.exception_code due.reply
  unfolding drive
  call_refusing high =
      call_laid
      ∙ by_judge s frame
      (λ x e. rw (e, stop_changed s (tables_of l) x))
      (λ m a e. absurd (let low : due.outcome < 2 = rw e (go_low s (tables_of l) m a) in omega arith))

  -- ---- any call that the contract allows

  module _ (g : Leaves) (e : g ≡ call) where
    -- the cells of the bytes after a served request, spare ones included
    pub cells_after : (m : Message) (a : Ask) → judge s frame ≡ go (m, a) → (tab : Tab) (i : ℕ)
        → tables_of (lent_after l g) tab i ≡ apply a (tables_of l) tab i
    unfolding drive
    cells_after m a j tab i =
        let z : due.after ≡ apply a (tables_of l) = rw j (go_after s (tables_of l) m a) in
        rw e (ap (λ (t : Tables). t tab i) (call_after ∙ z))

    -- what it showed is what the definitions say, whatever the setup
    pub showed_drive : showed l g ≡ drive s (tables_of l) frame
    showed_drive = rw e call_due

    pub demand_on_bytes : Valid s → Roomy s → Demand3 s (tables_of l) frame (showed l g)
    demand_on_bytes v r = rw showed_drive (demand_3 s (tables_of l) frame y v r)

    -- an outcome from 2 on is a refusal that is due, whatever the setup
    pub refusal_due : 2 ≤ g.result.outcome
        → Refusal s frame g.result.outcome g.result.code (take g.result.length g.reply_bytes)
    refusal_due high =
        let z : due ≡ showed l g = sym showed_drive in
        (exactly s (tables_of l) frame y _ _ _ high).1
        (ap (λ x. x.outcome) z, ap (λ x. x.exception_code) z, ap (λ x. x.reply) z)

    -- and every refusal that is due is given, with not a byte beside its reply changed
    pub refusals_on_bytes : (o c : ℕ) (r : List ℕ) → 2 ≤ o → Refusal s frame o c r ↔ (g ≡ refusing lent o c r)
    refusals_on_bytes o c r high = (
      λ q.
          let (p, w, x) = refusal_returns s (tables_of l) frame y q in
          e ∙ rw (p, w, x) at (call_refusing (rw p high)),
      λ q.
          let z : due ≡ showed l (refusing lent o c r) = sym showed_drive ∙ ap (showed l) q in
          (exactly s (tables_of l) frame y o c r high).1
          (ap (λ x. x.outcome) z, ap (λ x. x.exception_code) z, ap (λ x. x.reply) z ∙ take-append_seam r _),
    )

    -- so only outcomes 0 and 1 change a byte of a table
    pub untouched : 2 ≤ g.result.outcome → (g.coil_bytes ≡ l.coil_bytes) × (g.holding_bytes ≡ l.holding_bytes)
    untouched high =
        let z = (refusals_on_bytes _ _ _ high).0 (refusal_due high) in
        (ap (λ x. x.coil_bytes) z, ap (λ x. x.holding_bytes) z)

    pub kept_on_bytes : Kept lent g
    unfolding called
    kept_on_bytes =
        rw e
        (record {
          coil_length = call_lengths.0;
          holding_length = call_lengths.1;
          reply_length = call_room;
          reply_fits = call_fits;
          reply_rest = call_rest;
          coils_outside = λ i free. outside_cells coils i (unwritten_spared coils i free);
          holdings_outside = λ b free. outside_byte holdings b (λ i q. unwritten_spared holdings i (subst (λ (j : ℕ). Unwritten s frame holdings j) q free));
          spare_bits = λ i high. outside_cells coils i (spare_spared coils i high);
          spare_coil_bytes = λ b high. outside_byte coils b (λ i q. spare_spared coils i (omega arith));
          spare_holding_bytes = λ b high. outside_byte holdings b (λ i q. spare_spared holdings i (omega arith));
        })

    -- what the result does not name is as lent
    pub held_on_bytes : Held l g
    unfolding called drive
    held_on_bytes =
        rw e
        (record {
          told = (one_range s (tables_of l) frame y).1;
          bits = λ i free. outside_cells coils i (unnamed_spared coils i free);
          words = λ b free.
              outside_byte holdings b (λ i q. unnamed_spared holdings i (subst (λ (j : ℕ). ¬ Names call.result 3 j) q free));
        })

    -- all of it
    pub promised : Promised lent g
    promised =
        record {
          third = demand_on_bytes;
          refused = refusals_on_bytes;
          due = refusal_due;
          unchanged = untouched;
          kept = kept_on_bytes;
          held = held_on_bytes;
        }
