-- What process_read and process_write leave of a request that parse let through: the tables, and what the response bears.
-- Assumes nothing.
use mathlib.Core.Bool.{Bool, true, false}
use mathlib.Core.Path.{◌≡◌, refl, sym, ap, ◌∙◌, subst}
use mathlib.Core.List.{List, [], ◌∷◌, ◌++◌}
use Prim.Native.Nat.{ℕ, ◌+◌, ◌-◌, ◌*◌, ◌/◌, ◌≤◌, ◌<◌}
use native.Mathlib.Omega.{arith}
use lib.ListN.{length, take, drop, get_or, length-append, length-drop}
use lib.Seq.{sets, length-take-le, take-append-le, take_at}
use Rattle.modbus.specs.Step.{Step, stop, go, ◌>>◌, need}
use Rattle.modbus.specs.Bytes.{word_at}
use Rattle.modbus.specs.Table.{Kind, bit, word, Tab, coils, discretes, holdings, inputs, kind_of, target, part}
use Rattle.modbus.specs.Ported.{Ported, reads, one, many}
use Rattle.modbus.specs.Request.{most_read, octets, shown}
use Rattle.modbus.specs.Storage.{Storage, registers, Sound, storage}
use Rattle.modbus.specs.declared.ErrorKind.{ErrorKind}
use Rattle.modbus.specs.declared.ModbusProto.{ModbusProto}
use Rattle.modbus.specs.declared.ModbusProto.TheVariants.{Rtu, Ascii, TcpUdp}
use Rattle.modbus.proofs.StepLaws.{pass, fail, follow, pick_yes}
use Rattle.modbus.proofs.StorageLaws.{size_sound, length_part}
use Rattle.modbus.proofs.AnswerLaws.{length_shown}
use Rattle.tables.specs.Calls.{added, changed, stored, stored_whole}
use Rattle.tables.specs.Lent.{Lent, table_of, cells_of}
use Rattle.tables.proofs.CallsLaws.{added_inside, added_outside}
use Rattle.outgoing.specs.Grow.{Response, response, Short, growth, length_field, head}
use Rattle.outgoing.proofs.WayLaws.{reached_all}
use Rattle.frame.specs.State.{with_error, After, well, ended}
use Rattle.frame.specs.Parse.{second_word}
use Rattle.frame.specs.declared.ModbusFrame.{ModbusFrame}
use Rattle.frame.proofs.StateLaws.{fn_back}
use Rattle.frame.proofs.ParseLaws.{stay}
use Rattle.process.specs.Process.{adding, data_bytes, data_added, cells_added, read_by, read_processed, ended_with, confirmed, Legal, legal?, value_of, one_written, stored_many, data_held, many_written, Wrote, wrote, wrote_to, table_for, cells_for, write_by, write_processed}
use Rattle.chain.proofs.Response.{Bears, plus, plus_bears, cut_bears, head_bears, echo_bears, copied, field, field_length, fullest_holds}
use Rattle.chain.proofs.Parsed.{ready, answers, faulty, Standing}

-- the table that a write goes to, and how many cells it has
abbrev pub table : Kind → Lent → List ℕ
table k l = table_for k l.coil_bytes l.holding_bytes

abbrev pub cells : Kind → Lent → ℕ
cells k l = cells_for k l.coil_cells l.holding_cells

-- registers tell their count by the data
pub stored_whole_law : (c : List ℕ) (cn reg count : ℕ) (d : List ℕ) → length d ≡ 2 * count
    → stored_whole c cn reg d ≡ stored registers c cn reg count d
unfolding stored_whole
stored_whole_law c cn reg count d e = let h : length d / 2 ≡ count = omega arith in rw h

-- how many bytes a read's cells take, and that the crate reckons as many
pub octets_most : (t : Tab) (n : ℕ) → n ≤ most_read (kind_of t) → octets (storage t).kind n ≤ 250
octets_most coils n h = omega arith
octets_most discretes n h = omega arith
octets_most holdings n h = omega arith
octets_most inputs n h = omega arith

data_bytes_law : (t : Tab) (n : ℕ) → n ≤ most_read (kind_of t) → data_bytes (storage t).kind n ≡ octets (storage t).kind n
data_bytes_law coils n h = refl
data_bytes_law discretes n h = refl
data_bytes_law holdings n h = omega arith
data_bytes_law inputs n h = omega arith

-- five bytes less than a response up to its data are those that stood before
dropped : (p : ModbusProto) (x : ℕ) → x ≤ copied p → x + field p + 3 - 5 ≡ x
dropped Rtu x h = omega arith
dropped Ascii x h = omega arith
dropped TcpUdp x h = omega arith

module _ {p : ModbusProto} {start n : ℕ} {lead : List ℕ} {r : Response} (unit : ℕ) (buf : List ℕ) (l : Lent)
    (g : Standing p start n lead r) where
  len_inside : r.len ≤ length r.out
  len_inside = omega (arith, g.bears.long, g.bears.room, g.room, g.short, fullest_holds p)

  -- ---- reads

  module _ (t : Tab) (reg count : ℕ) (most : count ≤ most_read (kind_of t)) (there : start + 2 ≤ length buf) where
    abbrev S : Storage
    S = storage t

    abbrev bytes : ℕ
    bytes = octets S.kind count

    abbrev values : List ℕ
    values = shown S.kind (part (S.cell (table_of l t)) reg count)

    abbrev asked : ℕ → ModbusFrame
    asked len = ready p unit true true (reads t) start reg count len

    -- the response up to its data
    abbrev pub head_said : List ℕ
    head_said = lead ++ length_field p (bytes + 3) ++ take 2 (drop start buf) ++ (bytes ∷ [])

    head_length : length head_said ≡ length lead + field p + 3
    head_length =
        let a = length-append lead (length_field p (bytes + 3)) in
        let b = length-append (lead ++ length_field p (bytes + 3)) (take 2 (drop start buf)) in
        let c = length-append (lead ++ length_field p (bytes + 3) ++ take 2 (drop start buf)) (bytes ∷ []) in
        let d : length (take 2 (drop start buf)) ≡ 2 = length-take-le 2 (drop start buf)
        (simp length-drop (omega arith)) in
        omega (arith, field_length p (bytes + 3))

    read_headed : (q : Response)
        × (read_processed (asked r.len) buf l r.out
        ≡ data_added (asked q.len) q.out (added S (table_of l t) (cells_of l t) reg count q.out q.len))
        × Bears n head_said q
    unfolding read_processed
    read_headed =
        let (q, e, s₁) = head_bears n lead p r g.bears buf start g.low bytes there
        (octets_most t count most)
        (omega (arith, g.room, g.short, fullest_holds p)) in (
          q,
          ap ended (pass _ _ _ len_inside)
              ∙ ap (λ (fn : Ported). read_by fn (asked r.len) buf l r.out) (fn_back (reads t))
              ∙ ap (cells_added S (table_of l t) (cells_of l t) (asked r.len))
              (ap (λ (x : ℕ). head p buf start x r) (data_bytes_law t count most) ∙ e),
          s₁,
        )

    module _ (sound : Sound S (table_of l t) (cells_of l t)) where
      pub read_leaves : reg + count ≤ cells_of l t
          → (q : Response)
          × (read_processed (asked r.len) buf l r.out ≡ well (asked q.len) q.out)
          × Bears n (head_said ++ values) q
      read_leaves inside =
          let (q, e, s₁) = read_headed in
          let m : length values ≡ bytes = length_shown S.kind _
          ∙ ap (octets S.kind) (length_part (S.cell (table_of l t)) reg count) in
          let few = octets_most t count most in (
            plus values q,
            e
                ∙ ap (data_added (asked q.len) q.out)
                (added_inside S (table_of l t) (cells_of l t) reg count q.out q.len
                (rw (size_sound S (table_of l t) (cells_of l t) sound) inside)
                (omega (arith, s₁.long, s₁.room, head_length, g.room, g.short, fullest_holds p)))
                ∙ ap (λ (x : ℕ). well (asked (q.len + x)) (sets q.out q.len values)) (sym m),
            plus_bears n head_said values (omega (arith, head_length, g.room, g.short, fullest_holds p)) q s₁,
          )

      -- cells outside the table: the last five bytes are dropped, which leaves those that parse copied
      pub read_outside : cells_of l t < reg + count
          → (q : Response)
          × (read_processed (asked r.len) buf l r.out ≡ well (faulty 2 false (asked 0) q.len) q.out)
          × Bears n lead q
      read_outside outside =
          let (q, e, s₁) = read_headed in
          let k : q.len - 5 ≡ length lead = omega (arith, s₁.long, head_length, dropped p (length lead) g.short) in
          let f = field_length p (bytes + 3) in
          let a = length-append lead (length_field p (bytes + 3)) in
          let w : take (q.len - 5) head_said ≡ lead =
          take-append-le (q.len - 5) (lead ++ length_field p (bytes + 3) ++ take 2 (drop start buf)) (bytes ∷ [])
          (omega (arith, length-append (lead ++ length_field p (bytes + 3)) (take 2 (drop start buf))))
          ∙ take-append-le (q.len - 5) (lead ++ length_field p (bytes + 3)) (take 2 (drop start buf)) (omega arith)
          ∙ take_at lead (length_field p (bytes + 3)) (q.len - 5) (sym k) in (
            response (q.len - 5) q.out,
            e
                ∙ ap (data_added (asked q.len) q.out)
                (added_outside S (table_of l t) (cells_of l t) reg count q.out q.len
                (omega (arith, s₁.long, s₁.room, head_length, g.room, g.short, fullest_holds p))
                (rw (size_sound S (table_of l t) (cells_of l t) sound) outside))
                ∙ pick_yes _ _ _ refl,
            subst (λ (x : List ℕ). Bears n x (response (q.len - 5) q.out)) w
                (cut_bears n head_said q s₁ (q.len - 5) (omega (arith, s₁.long))),
          )

  -- ---- writes

  module _ (k : Kind) (broadcast : Bool) (fn : Ported) (reg count : ℕ) where
    abbrev pub wanted : ℕ → ModbusFrame
    wanted len = ready p unit (answers broadcast) false fn start reg count len

    abbrev process : Wrote
    process = write_processed (wanted r.len) buf l.coil_bytes l.coil_cells l.holding_bytes l.holding_cells r.out

    -- what is left of the table that is written
    abbrev writes : After × List ℕ → Wrote
    writes = wrote_to k l.coil_bytes l.holding_bytes

    -- m is stored, and the response has the echo
    abbrev pub Stores : List ℕ → Type 0
    Stores m =
        (q : Response)
        × (process ≡ writes (well (wanted q.len) q.out, m))
        × Bears n (lead ++ length_field p 6 ++ take 6 (drop start buf)) q

    -- an exception's code is set, and nothing stored
    abbrev pub Faults : ℕ → Type 0
    Faults code = process ≡ wrote (well (faulty code broadcast (wanted 0) r.len) r.out) l.coil_bytes l.holding_bytes

    as_given : (k : Kind) (a : After)
        → wrote_to k l.coil_bytes l.holding_bytes (a, table k l) ≡ wrote a l.coil_bytes l.holding_bytes
    as_given bit a = refl
    as_given word a = refl

    process_by : process ≡ write_by fn (wanted r.len) buf l.coil_bytes l.coil_cells l.holding_bytes l.holding_cells r.out
    unfolding write_processed
    process_by =
        pick_yes _ _ _ len_inside
        ∙ ap (λ (f : Ported). write_by f (wanted r.len) buf l.coil_bytes l.coil_cells l.holding_bytes l.holding_cells r.out)
        (fn_back fn)

    -- as the call on the table answers
    abbrev confirms : Step ErrorKind (ℕ × List ℕ) → After × List ℕ
    confirms m = confirmed (wanted r.len) buf r.out (table k l) m

    module _ (m : Step ErrorKind (ℕ × List ℕ)) (e : process ≡ writes (confirms m)) where
      stores : start + 6 ≤ length buf → (v : List ℕ) → m ≡ go (0, v) → Stores v
      stores there v f =
          let (q, d, s₁) = echo_bears n lead p r g.bears buf start g.low there
          (omega (arith, g.room, g.short, fullest_holds p)) in (
            q,
            e
                ∙ ap writes
                (ap confirms f ∙ ap (λ (x : Step Short Response). (adding (wanted r.len) (growth x), v)) d),
            s₁,
          )

      refuses : (x : ErrorKind) → m ≡ stop x → Faults 2
      refuses x f = e ∙ ap (λ (y : Step ErrorKind (ℕ × List ℕ)). writes (confirms y)) f ∙ as_given k _

  module _ (k : Kind) (broadcast : Bool) (reg count : ℕ) where
    -- a write of one
    module _ (there : start + 6 ≤ length buf) (v : ℕ) (w : word_at buf (start + 4) ≡ v) where
      abbrev state : ModbusFrame
      state = wanted k broadcast (one k) reg count r.len

      abbrev change : ℕ → Step ErrorKind (ℕ × List ℕ)
      change x = changed (storage (target k)) (table k l) (cells k l) reg (value_of k x)

      -- up to the test of its value
      one-tested : process k broadcast (one k) reg count
          ≡ writes k broadcast (one k) reg count (ended_with (table k l)
          (need (legal? k (second_word state buf)) (well (with_error 3 state) r.out)
          >> go (confirms k broadcast (one k) reg count (change (second_word state buf)))))
      unfolding one_written
      one-tested =
          process_by k broadcast (one k) reg count
          ∙ ap (λ (x : Step After (After × List ℕ)). writes k broadcast (one k) reg count (ended_with (table k l) x))
          (stay _ _ _ _ (reached_all buf start 6 (omega (arith, g.low)) there))

      one-called : Legal k v
          → process k broadcast (one k) reg count
          ≡ writes k broadcast (one k) reg count (confirms k broadcast (one k) reg count (change v))
      one-called legal =
          one-tested
          ∙ ap (λ (x : Step After (After × List ℕ)). writes k broadcast (one k) reg count (ended_with (table k l) x))
          (pass _ _ _ (subst (Legal k) (sym w) legal))
          ∙ ap (λ (x : ℕ). writes k broadcast (one k) reg count (confirms k broadcast (one k) reg count (change x))) w

      pub one_leaves : Legal k v → (m : List ℕ) → change v ≡ go (0, m) → Stores k broadcast (one k) reg count m
      one_leaves legal m e = stores k broadcast (one k) reg count (change v) (one-called legal) there m e

      pub one_outside : Legal k v → (x : ErrorKind) → change v ≡ stop x → Faults k broadcast (one k) reg count 2
      one_outside legal x e = refuses k broadcast (one k) reg count (change v) (one-called legal) x e

      pub one_illegal : ¬ Legal k v → Faults k broadcast (one k) reg count 3
      one_illegal illegal =
          one-tested
          ∙ ap (λ (x : Step After (After × List ℕ)). writes k broadcast (one k) reg count (ended_with (table k l) x))
          (fail _ _ _ (λ i. illegal (subst (Legal k) w i)))
          ∙ as_given k broadcast (one k) reg count k _

    -- a write of many
    module _ (bytes : ℕ) (b : get_or buf (start + 6) 0 ≡ bytes) (there : start + 7 + bytes ≤ length buf) (d : List ℕ)
        (t : take bytes (drop (start + 7) buf) ≡ d) where
      abbrev call : List ℕ → Step ErrorKind (ℕ × List ℕ)
      call x = stored_many k (table k l) (cells k l) (wanted k broadcast (many k) reg count r.len) x

      many-called : process k broadcast (many k) reg count
          ≡ writes k broadcast (many k) reg count (confirms k broadcast (many k) reg count (call d))
      unfolding many_written data_held
      many-called =
          process_by k broadcast (many k) reg count
          ∙ ap (λ (x : Step After (After × List ℕ)). writes k broadcast (many k) reg count (ended_with (table k l) x))
          (stay _ _ _ _ (follow _ _ (reached_all buf start 7 (omega (arith, g.low)) (omega arith)) ∙ pass _ _ _ (omega arith)))
          ∙ ap (λ (x : List ℕ). writes k broadcast (many k) reg count (confirms k broadcast (many k) reg count (call x)))
          (ap (λ (x : ℕ). take x (drop (start + 7) buf)) b ∙ t)

      pub many_leaves : (m : List ℕ) → call d ≡ go (0, m) → Stores k broadcast (many k) reg count m
      many_leaves m e = stores k broadcast (many k) reg count (call d) many-called (omega arith) m e

      pub many_refused : (x : ErrorKind) → call d ≡ stop x → Faults k broadcast (many k) reg count 2
      many_refused x e = refuses k broadcast (many k) reg count (call d) many-called x e
