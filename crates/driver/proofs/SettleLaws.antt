-- What a verdict is carried out to is what the definition settles.
-- Assumes nothing.
use mathlib.Core.Bool.{Bool, true, false}
use mathlib.Core.Logic.{◌⊎◌, inl, inr, ⊎_elim, by_cases}
use mathlib.Core.Path.{◌≡◌, refl, sym, ap, ap₂, subst, ◌∙◌}
use mathlib.Core.List.{List, [], ◌∷◌}
use Rattle.std.specs.Prelude.{Ok, Err}
use Prim.Native.Nat.{ℕ, ◌*◌, ◌≤◌, ◌<◌}
use native.Mathlib.Omega.{arith}
use lib.ListN.{length, take, drop, get_or, length-drop}
use lib.Seq.{sets, take-length}
use Rattle.modbus.specs.Step.{stop, go, choose, ◌≟◌, ◌or?◌}
use Rattle.modbus.specs.Table.{Kind, bit, word, Tab, coils, holdings, target}
use Rattle.modbus.specs.Request.{mask, tab_of, Ask, read, write, writes, masks, swaps, writing, answer, seen, found, apply}
use Rattle.modbus.specs.Setup.{Setup, proto}
use Rattle.modbus.specs.Unit.{listed?, Broadcast, broadcast?, Ours}
use Rattle.modbus.specs.Decode.{Message, Silent, read_ignored_quiet, foreign, frame_broken_quiet, frame_check_quiet, wrong_length_quiet, bad_function_quiet, no_room_quiet, bad_setup_quiet, asked}
use Rattle.modbus.specs.Drive.{Fault, quiet, coded, Result, weigh, from_unit, settle}
use Rattle.modbus.proofs.StepLaws.{pass, fail, follow, halt, pick_yes, pick_no, picked}
use Rattle.modbus.proofs.WeighLaws.{Alike, weigh_coded_alike, by_alike}
use Rattle.modbus.proofs.BytesLaws.{bytes_by}
use Rattle.modbus.proofs.RequestLaws.{asked_says}
use Rattle.modbus.proofs.StorageLaws.{length_part}
use Rattle.modbus.specs.Storage.{registers, register_at, Sound, storage, store, values}
use Rattle.tables.specs.Lent.{Lent, table_of, tables_of}
use Rattle.requests.specs.Judged.{On, on?, Verdict, quiet_by, refused_by, code_number, weighed, kept, kept_by, judged}
use Rattle.requests.specs.declared.ReadCells.{ReadCells}
use Rattle.requests.specs.declared.Cells.{Cells}
use Rattle.requests.specs.declared.Mask.{Mask}
use Rattle.requests.specs.declared.Exchange.{Exchange}
use Rattle.requests.specs.declared.Request.TheVariants as request
use Rattle.requests.specs.declared.Code.{Code}
use Rattle.requests.specs.declared.Code.TheVariants.{IllegalFunction, IllegalDataAddress, IllegalDataValue}
use Rattle.requests.specs.declared.Refusal.{Refusal}
use Rattle.requests.specs.declared.Refusal.TheVariants.{Foreign}
use Rattle.requests.proofs.JudgedLaws.{on, off, tab_of_law}
use Rattle.requests.proofs.FineLaws.{FineRead, FineWrite, FineMask, FineBoth, Fine, fine}
use Rattle.driver.specs.Driven.{Call, setup_of, bytes_after, result_of, Leaves, leaving, settled}
use Rattle.driver.specs.Serving.{Sized, Ready, data_of, masked_by, echoed, done_by, Telling, tells, telling, Turn, turn, serving}
use Rattle.driver.proofs.StoreLaws.{stored_target, stored_other, found_after, echoes, mask_echoes}
use Rattle.driver.proofs.CloseLaws.{closed}
use Rattle.driver.proofs.ReadyLaws.{ready}

-- ---- whom the unit number means

-- a broadcast number or ours, and `x` says which
abbrev Addressed : Setup → ℕ → Bool → Type 0
Addressed s u x = (Broadcast s u × (x ≡ true)) ⊎ ((¬ Broadcast s u) × Ours s u × (x ≡ false))

module _ (lent : Call) (to : ℕ) (x : Bool) (e : x ≡ choose (listed? to lent.list) true false) where
  meant_not : ¬ (On x ⊎ (to ≡ lent.numbers.unit)) → ¬ (Broadcast (setup_of lent) to ⊎ Ours (setup_of lent) to)
  unfolding Broadcast Ours
  meant_not k (inl p) = k (inl (on x (e ∙ pick_yes _ _ _ p)))
  meant_not k (inr p) = k (inr p)

  meant : On x ⊎ (to ≡ lent.numbers.unit) → Addressed (setup_of lent) to x
  unfolding Broadcast Ours
  meant m = picked _ _ _ (sym e) (λ p q. inl (p, sym q)) (λ k q. inr (k, own m (sym q), sym q))
    where
      own : On x ⊎ (to ≡ lent.numbers.unit) → x ≡ false → to ≡ lent.numbers.unit
      own (inl o) q = absurd (off x q o)
      own (inr p) q = p

-- ---- the definition from the unit on

module _ (lent : Call) (tag b : List ℕ) where
  abbrev set : Setup
  set = setup_of lent

  abbrev l : Lent
  l = lent.tables

  abbrev reply : List ℕ
  reply = lent.reply

  abbrev message : Message
  message = record { tag = tag; body = b }

  abbrev done : Telling → Turn → Leaves
  done d t = closed (proto set) tag reply d t

  abbrev doing : Bool → Verdict → Leaves
  doing x v = done (telling x v) (serving l x b v)

  abbrev kept_leaving : Result → Leaves
  kept_leaving r = leaving (result_of r) (sets reply 0 r.reply) l.coil_bytes l.holding_bytes

  unmeant : (x : Bool) → ¬ (Broadcast set (get_or b 0 0) ⊎ Ours set (get_or b 0 0))
      → settled lent (from_unit set message) ≡ doing x (Err Foreign)
  unfolding settle
  unmeant x k = ap (settled lent) (fail _ _ _ k)

  -- what is served

  abbrev answered : Bool → Ask → List ℕ
  answered true a = []
  answered false a = get_or b 0 0 ∷ answer a (found a (seen (apply a (tables_of l))))

  abbrev served : Bool → Ask → Turn
  served x a = turn (answered x a) (bytes_after l a coils) (bytes_after l a holdings)

  abbrev told : Bool → Ask → Telling
  told x a = tells (done_by x) 0 (writing a)

  abbrev leaving_after : Ask → Result → Leaves
  leaving_after a r = leaving (result_of r) (sets reply 0 r.reply) (bytes_after l a coils) (bytes_after l a holdings)

  go_done : (x : Bool) (a : Ask) → Addressed set (get_or b 0 0) x → settled lent (go (message, a)) ≡ done (told x a) (served x a)
  unfolding settle
  go_done x a (inl (p, e)) = rw e (ap (leaving_after a) (pick_yes _ _ _ p))
  go_done x a (inr (p, q, e)) = rw e (ap (leaving_after a) (pick_no _ _ _ p))

  -- a fault without a code
  silent_done : (x : Bool) (o : Silent) → settled lent (stop (quiet o)) ≡ doing x (Err (quiet_by o))
  unfolding settle
  silent_done x read_ignored_quiet = refl
  silent_done x foreign = refl
  silent_done x frame_broken_quiet = refl
  silent_done x frame_check_quiet = refl
  silent_done x wrong_length_quiet = refl
  silent_done x bad_function_quiet = refl
  silent_done x no_room_quiet = refl
  silent_done x bad_setup_quiet = refl

  -- a fault with a code
  coded_done : (x : Bool) (c : Code) → Addressed set (get_or b 0 0) x → settled lent (stop (coded message (code_number c))) ≡ doing x (Err (refused_by x c))
  unfolding settle
  coded_done x c (inl (p, e)) = rw e (ap kept_leaving (pick_yes _ _ _ p))
  coded_done x c (inr (p, q, e)) = rw e (ap kept_leaving (pick_no _ _ _ p))

  module _ (x : Bool) (to : Addressed set (get_or b 0 0) x) where
    heard : Broadcast set (get_or b 0 0) ⊎ Ours set (get_or b 0 0)
    heard = ⊎_elim (λ p. inl p.0) (λ p. inr p.1) to

    is_on : Broadcast set (get_or b 0 0) → On x
    is_on h = ⊎_elim (λ p. on x p.1) (λ p. absurd (p.0 h)) to

    is_broadcast : On x → Broadcast set (get_or b 0 0)
    is_broadcast h = ⊎_elim (λ p. p.0) (λ p. absurd (off x p.2 h)) to

    -- the same faults in the same order: of the message, and of its body as a verdict
    alike : Alike (λ (f : Fault) (r : Refusal). settled lent (stop f) ≡ doing x (Err r))
        (weigh quiet (coded message) set (broadcast? set (get_or b 0 0)) b) (weighed set x b)
    alike =
        weigh_coded_alike _ _ _ _ _ set _ _ b is_on is_broadcast (silent_done x) (coded_done x IllegalFunction to)
        (coded_done x IllegalDataAddress to) (coded_done x IllegalDataValue to)

  -- ---- by what the verdict promises

  read_serves : (x : Bool) (q : ReadCells) (f : FineRead set x b q) → served x (read f.tab q.address q.count) ≡ serving l x b (Ok (request.Read q))
  read_serves true q f = absurd (f.own tt)
  read_serves false q f =
      let e : tab_of q.function ≡ f.tab = ap tab_of f.function ∙ tab_of_law f.tab in
      let n = length_part (tables_of l f.tab) q.address q.count in
      ap (λ (y : List ℕ). turn y l.coil_bytes l.holding_bytes) (rw (e, f.numbered, n))

  module _ (bytes : (i : ℕ) → get_or b i 0 < 256) (k : Kind) (x : Bool) (c : Cells) (f : FineWrite k set x b c) where
    write_echoed : (x : Bool) → answered x (asked f.fn b) ≡ echoed x 6 b
    write_echoed true = refl
    write_echoed false =
        sym (echoes k c.address _ (asked f.fn b) b _ f.stores (asked_says f.fn b (bytes_by b bytes) f.numbered f.lengthy f.valued))

    pub write_target : bytes_after l (asked f.fn b) (target k) ≡ store (storage (target k)) (table_of l (target k)) c.address (data_of k b c)
    write_target = stored_target l k c.address (data_of k b c) (asked f.fn b) f.stores

    pub write_other : (t : Tab) → ¬ (t ≡ target k) → bytes_after l (asked f.fn b) t ≡ table_of l t
    write_other t n = stored_other l k c.address (data_of k b c) (asked f.fn b) f.stores t n

  apart : ¬ (coils ≡ holdings)
  apart e = let z : ◌≡◌ {A = ℕ} 0 1 = cc in omega arith

  -- the body of a reply, and the bytes of two tables
  three : {p p' c c' h h' : List ℕ} → p ≡ p' → c ≡ c' → h ≡ h' → turn p c h ≡ turn p' c' h'
  three e f g = rw (e, f, g)

  module _ (bytes : (i : ℕ) → get_or b i 0 < 256) (x : Bool) (m : Mask) (f : FineMask set x b m) where
    mask_echoed : (x : Bool) → answered x (asked mask b) ≡ echoed x 8 b
    mask_echoed true = refl
    mask_echoed false = sym (mask_echoes _ _ _ b [] (asked_says mask b (bytes_by b bytes) f.numbered f.whole tt))

    mask_stored : bytes_after l (asked mask b) holdings ≡ masked_by m l.holding_bytes
    unfolding store
    mask_stored = ap (λ (a : Ask). bytes_after l a holdings) f.asks ∙ pick_yes _ _ _ refl

    mask_serves : served x (asked mask b) ≡ serving l x b (Ok (request.Mask m))
    mask_serves = three (mask_echoed x) (pick_no _ _ _ apart) mask_stored

  module _ (sound : Sound registers l.holding_bytes l.holding_cells) (y : Exchange) where
    abbrev asks : Ask
    asks = swaps y.read_address y.read_count y.write_address (values word y.write_count (drop 11 b))

    abbrev replying : List ℕ → List ℕ
    replying vs = get_or b 0 0 ∷ answer asks vs

    both_serves : (x : Bool) (f : FineBoth set x b y) → served x asks ≡ serving l x b (Ok (request.Exchange y))
    both_serves true f = absurd (f.own tt)
    both_serves false f =
        let d = drop 11 b in
        let c : length (values word y.write_count d) ≡ y.write_count = length_part (register_at d) 0 y.write_count in
        let w : 2 * y.write_count ≡ length d = simp length-drop (omega (arith, f.held)) in
        let e : take (2 * y.write_count) d ≡ d = ap (λ (i : ℕ). take i d) w ∙ take-length d in
        let h = store registers l.holding_bytes y.write_address (values word y.write_count d) in
        let g = found_after l sound y.read_address y.read_count y.write_address (values word y.write_count d) f.fits f.inside (rw c f.within) in
        let n = length_part (register_at h) y.read_address y.read_count in
        three (ap replying g ∙ (rw (n, e, f.numbered))) (pick_no _ _ _ apart) (pick_yes _ _ _ refl ∙ (rw e))

  -- outcome, code and the cells written
  tells_kept : (x : Bool) (a : Ask) → Fine set x b (Ok (kept a)) → told x a ≡ telling x (Ok (kept a))
  tells_kept true (read t s n) f = absurd (f.own tt)
  tells_kept false (read t s n) f = refl
  tells_kept x (write bit a v) f = refl
  tells_kept x (write word a v) f = refl
  tells_kept x (writes bit s vs) f = refl
  tells_kept x (writes word s vs) f = refl
  tells_kept x (masks a y z) f = refl
  tells_kept true (swaps r n s vs) f = absurd (f.own tt)
  tells_kept false (swaps r n s vs) f = refl

  serves : ((i : ℕ) → get_or b i 0 < 256) → Sized l → (x : Bool) (v : Verdict) → Fine set x b v → (a : Ask) → weighed set x b ≡ go a
      → served x a ≡ serving l x b v
  serves bytes sized x (Ok (request.Read q)) f a e =
      let z : a ≡ read f.tab q.address q.count = let g = f.goes in cc in
      ap (served x) z ∙ read_serves x q f
  serves bytes sized x (Ok (request.WriteBits c)) f a e =
      let z : a ≡ asked f.fn b = let g = f.goes in cc in
      ap (served x) z
      ∙ three (write_echoed bytes bit x c f x) (write_target bytes bit x c f) (write_other bytes bit x c f holdings (λ h. apart (sym h)))
  serves bytes sized x (Ok (request.WriteWords c)) f a e =
      let z : a ≡ asked f.fn b = let g = f.goes in cc in
      ap (served x) z ∙ three (write_echoed bytes word x c f x) (write_other bytes word x c f coils apart) (write_target bytes word x c f)
  serves bytes sized x (Ok (request.Mask m)) f a e =
      let z : a ≡ asked mask b = let g = f.goes in cc in
      ap (served x) z ∙ mask_serves bytes x m f
  serves bytes sized x (Ok (request.Exchange y)) f a e =
      let z : a ≡ asks (sized holdings) y = let g = f.goes in cc in
      ap (served x) z ∙ both_serves (sized holdings) y x f
  serves bytes sized x (Err r) f a e = let g = f.0 in let z : ◌≡◌ {A = ℕ} 0 1 = cc in absurd (omega arith)

  -- what was judged of a body, by whom its unit number means
  module _ (bytes : (i : ℕ) → get_or b i 0 < 256) (sized : Sized l) (x : Bool) (listed : x ≡ choose (listed? (get_or b 0 0) lent.list) true false) (v : Verdict)
      (judges : v ≡ choose (on? x or? (get_or b 0 0 ≟ lent.numbers.unit)) (judged set x b) (Err Foreign)) where
    settles_to : Addressed set (get_or b 0 0) x → settled lent (from_unit set message) ≡ doing x (judged set x b)
    unfolding judged
    settles_to to =
        by_alike _ _ _ (alike x to)
        (λ f u p q r. ap (settled lent) (pass _ _ _ (heard x to) ∙ halt _ _ p) ∙ r ∙ ap (λ w. doing x (kept_by w)) (sym q))
        (λ a p q.
        let f : Fine set x b (Ok (kept a)) = fine set x b bytes {r = judged set x b} refl (ap kept_by q) in
        ap (settled lent) (pass _ _ _ (heard x to) ∙ follow _ _ p) ∙ go_done x a to ∙ ap₂ done (tells_kept x a f) (serves bytes sized x (Ok (kept a)) f a q)
        ∙ ap (λ w. doing x (kept_by w)) (sym q))

    pub settles : doing x v ≡ settled lent (from_unit set message)
    settles =
        by_cases (on? x or? (get_or b 0 0 ≟ lent.numbers.unit))
        (λ h.
        ap (doing x) (judges ∙ pick_yes _ _ _ h)
        ∙ sym (settles_to (meant lent (get_or b 0 0) x listed h)))
        (λ k.
        ap (doing x) (judges ∙ pick_no _ _ _ k)
        ∙ sym (unmeant x (meant_not lent (get_or b 0 0) x listed k)))

    pub judged_ready : 2 ≤ length b → Ready l b v
    judged_ready h =
        by_cases (on? x or? (get_or b 0 0 ≟ lent.numbers.unit))
        (λ m. ready lent x b v (fine set x b bytes {r = v} (judges ∙ pick_yes _ _ _ m) refl) h)
        (λ k. subst (Ready l b) (sym (judges ∙ pick_no _ _ _ k)) tt)
