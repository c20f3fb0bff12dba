-- The client's contracts and the driver's together, as the checker reads them (`Post`): what a builder wrote is its request's encoding, and what the
-- driver answered to a frame is read back as the cells that it left.
-- Assumes nothing.
use mathlib.Core.Path.{◌≡◌, refl, sym, ap, ◌∙◌, subst}
use mathlib.Core.List.{List, [], ◌∷◌}
use Prim.Native.Nat.{ℕ, ◌+◌, ◌≤◌, ◌<◌}
use native.Mathlib.Omega.{arith}
use lib.ListN.{length, take, get_or}
use lib.Seq.{sets, sets-eq, take_at}
use contract.Lifetimes.{Lfts}
use borrow.Fn.Kinds.{Dens, res_t, ended_of}
use denote.Triple.Clauses.{Lasts, at_exit}
use Rattle.modbus.specs.Step.{Step, stop, go}
use Rattle.modbus.specs.Bytes.{Bytes}
use Rattle.modbus.specs.Table.{Range}
use Rattle.modbus.specs.Request.{Ask, masks, swaps, reading, seen, found}
use Rattle.modbus.specs.Decode.{read_ignored_quiet, foreign, frame_broken_quiet, frame_check_quiet, wrong_length_quiet, bad_function_quiet, no_room_quiet, bad_setup_quiet}
use Rattle.modbus.specs.Drive.{spelled}
use Rattle.modbus.specs.declared.Answer.{Answer}
use Rattle.tables.specs.Lent.{tables_of}
use Rattle.driver.specs.Driven.{setup_of}
use Rattle.driver.proofs.drive.Kinds as drive-kinds
use Rattle.driver.proofs.drive.Reads as drive-reads
use Rattle.demands.specs.Demand.{Request, Serves}
use Rattle.demands.specs.OnBytes.{lent_after}
use Rattle.demands.proofs.DriverContract.{lent, left}
use Rattle.client.specs.declared.ModbusRequest.{ModbusRequest}
use Rattle.client.specs.declared.Reading.{Reading}
use Rattle.client.specs.Asking.{Declined, bad_request, not_my_reply, silent, declined_by, getting, setting, generated, laid_into, shown_count, understood, read_into}
use Rattle.client.specs.Hearing.{read_of}
use Rattle.client.proofs.ModbusRequest.generate_get.Kinds as get-kinds
use Rattle.client.proofs.ModbusRequest.generate_get.Reads as get-reads
use Rattle.client.proofs.ModbusRequest.generate_set.Kinds as set-kinds
use Rattle.client.proofs.ModbusRequest.generate_set.Reads as set_Reads
use Rattle.client.proofs.ModbusRequest.generate_mask.Kinds as mask-kinds
use Rattle.client.proofs.ModbusRequest.generate_mask.Reads as mask-reads
use Rattle.client.proofs.ModbusRequest.generate_set_get.Kinds as set-get-kinds
use Rattle.client.proofs.ModbusRequest.generate_set_get.Reads as set-get-reads
use Rattle.client.proofs.parse_response.Kinds as parse-kinds
use Rattle.client.proofs.parse_response.Reads as parse-reads
use Rattle.asking.specs.Belonging.{Says}
use Rattle.asking.proofs.Built.{Built, built}
use Rattle.asking.proofs.OnBytes.{values_back, exception_back, found_range, value_cell}

-- ---- building

-- no refusal has the number 0
declined_some : (x : Declined) → ¬ (declined_by x ≡ 0)
declined_some bad_request e = omega arith
declined_some not_my_reply e = omega arith
declined_some (silent read_ignored_quiet) e = omega arith
declined_some (silent foreign) e = omega arith
declined_some (silent frame_broken_quiet) e = omega arith
declined_some (silent frame_check_quiet) e = omega arith
declined_some (silent wrong_length_quiet) e = omega arith
declined_some (silent bad_function_quiet) e = omega arith
declined_some (silent no_room_quiet) e = omega arith
declined_some (silent bad_setup_quiet) e = omega arith

laid_frame : (out after : List ℕ) (x : Answer) (s : Step Declined (List ℕ)) → ◌≡◌ {A = Answer × List ℕ} (x, after) (laid_into out s) → x.kind ≡ 0
    → (f : List ℕ) × (s ≡ go f) × (x.value ≡ length f) × (after ≡ sets out 0 f)
laid_frame out after x (go f) e k = (f, refl, ap (λ (t : Answer × List ℕ). t.0.value) e, ap (λ (t : Answer × List ℕ). t.1) e)
laid_frame out after x (stop d) e k = absurd (declined_some d (sym (ap (λ (t : Answer × List ℕ). t.0.kind) e) ∙ k))

-- a call that answers 0 has the frame of its request in front
front_built : (to : ModbusRequest) → to.unit_id < 256 → (wanted : Step Declined Ask) (out after : List ℕ) (x : Answer)
    → ◌≡◌ {A = Answer × List ℕ} (x, after) (laid_into out (generated to wanted (length out))) → x.kind ≡ 0
    → Built to wanted (length out) (take x.value after)
front_built to unit wanted out after x e k =
    let (f, g, n, w) = laid_frame out after x _ e k in
    let b = built to unit wanted (length out) f g in
    let t : take x.value after ≡ f = ap (take x.value) (w ∙ sets-eq f out 0 (omega (arith, b.fits))) ∙ take_at f _ x.value (sym n) in
    subst (Built to wanted (length out)) (sym t) b

module _ (κs : Lfts 1) (a : Dens κs get-kinds.ps) (x : (res_t get-kinds.r κs).Denot) (u : Lasts (ended_of 1 get-kinds.ps get-kinds.r) κs a)
    (post : get-reads.Post κs a x (at_exit (ended_of 1 get-kinds.ps get-kinds.r) κs a u)) where
  pub get_built : a.0.unit_id < 256 → x.kind ≡ 0
      → Built a.0 (getting a.0.proto a.1.0 a.1.1.0 a.1.1.1.0) (length a.1.1.1.1.0.now) (take x.value u.1.1.1.1.0)
  get_built unit k = front_built a.0 unit _ a.1.1.1.1.0.now u.1.1.1.1.0 x post k

module _ (κs : Lfts 2) (a : Dens κs set-kinds.ps) (x : (res_t set-kinds.r κs).Denot) (u : Lasts (ended_of 2 set-kinds.ps set-kinds.r) κs a)
    (post : set_Reads.Post κs a x (at_exit (ended_of 2 set-kinds.ps set-kinds.r) κs a u)) where
  pub set_built : a.0.unit_id < 256 → x.kind ≡ 0
      → Built a.0 (setting a.0.proto a.1.0 a.1.1.0 a.1.1.1.0.now) (length a.1.1.1.1.0.now) (take x.value u.1.1.1.1.0)
  set_built unit k = front_built a.0 unit _ a.1.1.1.1.0.now u.1.1.1.1.0 x post k

module _ (κs : Lfts 1) (a : Dens κs mask-kinds.ps) (x : (res_t mask-kinds.r κs).Denot) (u : Lasts (ended_of 1 mask-kinds.ps mask-kinds.r) κs a)
    (post : mask-reads.Post κs a x (at_exit (ended_of 1 mask-kinds.ps mask-kinds.r) κs a u)) where
  pub mask_built : a.0.unit_id < 256 → x.kind ≡ 0
      → Built a.0 (go (masks a.1.0 a.1.1.0 a.1.1.1.0)) (length a.1.1.1.1.0.now) (take x.value u.1.1.1.1.0)
  mask_built unit k = front_built a.0 unit _ a.1.1.1.1.0.now u.1.1.1.1.0 x post k

module _ (κs : Lfts 2) (a : Dens κs set-get-kinds.ps) (x : (res_t set-get-kinds.r κs).Denot) (u : Lasts (ended_of 2 set-get-kinds.ps set-get-kinds.r) κs a)
    (post : set-get-reads.Post κs a x (at_exit (ended_of 2 set-get-kinds.ps set-get-kinds.r) κs a u)) where
  pub set_get_built : a.0.unit_id < 256 → x.kind ≡ 0
      → Built a.0 (go (swaps a.1.0 a.1.1.0 a.1.1.1.0 a.1.1.1.1.0.now)) (length a.1.1.1.1.1.0.now) (take x.value u.1.1.1.1.1.0)
  set_get_built unit k = front_built a.0 unit _ a.1.1.1.1.1.0.now u.1.1.1.1.1.0 x post k

-- ---- reading back

-- a call of the driver, and then one of parse_response: its request is the driver's frame, its response what the driver left in front of the reply
-- buffer, its transport the driver's
module _ (κs : Lfts 7) (a : Dens κs drive-kinds.ps) (x : (res_t drive-kinds.r κs).Denot) (u : Lasts (ended_of 7 drive-kinds.ps drive-kinds.r) κs a)
    (post : drive-reads.Post κs a x (at_exit (ended_of 7 drive-kinds.ps drive-kinds.r) κs a u))
    (λs : Lfts 3) (b : Dens λs parse-kinds.ps) (w : (res_t parse-kinds.r λs).Denot) (v : Lasts (ended_of 3 parse-kinds.ps parse-kinds.r) λs b)
    (told : parse-reads.Post λs b w (at_exit (ended_of 3 parse-kinds.ps parse-kinds.r) λs b v))
    (transport : b.0 ≡ a.0.transport) (request : b.1.0.now ≡ (lent κs a).frame)
    (response : b.1.1.0.now ≡ take x.length (left κs a x u).reply_bytes) where
  -- the values lent, and as they were left
  abbrev pub before : List ℕ
  before = b.1.1.1.0.now

  abbrev pub after : List ℕ
  after = v.1.1.1.0

  heard : ◌≡◌ {A = Reading × List ℕ} (w, after)
      (read_into before (understood a.0.transport (lent κs a).frame (take x.length (left κs a x u).reply_bytes) (length before)))
  heard = rw (transport, request, response) at told

  module _ (frameBytes : Bytes (lent κs a).frame) (holding_bytes : Bytes (lent κs a).tables.holding_bytes)
      (input_bytes : Bytes (lent κs a).tables.input_bytes) where
    -- what was answered is read as the cells' contents, as the driver left them in the bytes; the frame stands for itself under the driver's
    -- switch, as each that was built does (`says-capital`)
    pub read_back : spelled (setup_of (lent κs a)) (lent κs a).frame ≡ (lent κs a).frame → x.outcome ≡ 0
        → (r : Request) × Serves (setup_of (lent κs a)) (lent κs a).frame r
        × (shown_count r.ask ≤ length before
        → (w ≡ read_of (length (found r.ask (seen (tables_of (lent_after (lent κs a).tables (left κs a x u)))))) 0 0)
        × (after ≡ sets before 0 (found r.ask (seen (tables_of (lent_after (lent κs a).tables (left κs a x u)))))))
    read_back capital o =
        values_back (lent κs a) frameBytes (left κs a x u) post holding_bytes input_bytes
        before after w heard capital o

    -- value i is cell first + i of the range that is read
    pub cell_back : spelled (setup_of (lent κs a)) (lent κs a).frame ≡ (lent κs a).frame → x.outcome ≡ 0 → (g : Range)
        → ((r : Request) → Serves (setup_of (lent κs a)) (lent κs a).frame r → reading r.ask ≡ g ∷ []) → g.count ≤ length before → (i : ℕ) → i < g.count
        → get_or after i 0 ≡ tables_of (lent_after (lent κs a).tables (left κs a x u)) g.tab (g.first + i)
    cell_back capital o g asks fits i h =
        let (r, serves, k) = read_back capital o in
        let T = tables_of (lent_after (lent κs a).tables (left κs a x u)) in
        let (n, p) = found_range r.ask g (seen T) (asks r serves) in
        let z = (k (rw n fits)).1 ∙ ap (sets before 0) p in
        ap (λ (l : List ℕ). get_or l i 0) z ∙ value_cell (T g.tab) g.first g.count i before fits h

    -- an exception is told as it was sent
    pub refused_back : x.outcome ≡ 2 → (r : Request) → Says a.0.transport (lent κs a).frame r → shown_count r.ask ≤ length before
        → (w ≡ read_of 0 2 x.code) × (after ≡ before) × (x.code ≡ 2)
    refused_back o r says fits =
        exception_back (lent κs a) frameBytes (left κs a x u) post holding_bytes input_bytes
        before after w heard o r says fits
