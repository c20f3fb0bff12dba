-- What the crate's chain of calls comes to on a request that it carries out, by kind of function: a read is answered
-- with the cells' values, a write stores and is echoed, unless it is a broadcast.
-- Assumes nothing.
use mathlib.Core.Bool.{Bool, true, false}
use mathlib.Core.Path.{◌≡◌, refl, sym, ap, ap₂, ◌∙◌, subst}
use mathlib.Core.List.{List, [], ◌∷◌, ◌++◌, append_assoc}
use Prim.Native.Nat.{ℕ, ◌+◌, ◌≤◌}
use native.Mathlib.Omega.{arith}
use lib.ListN.{length, take, drop, get_or}
use lib.Seq.{length-take-le}
use Rattle.modbus.specs.Step.{go}
use Rattle.modbus.specs.Bytes.{word_at}
use Rattle.modbus.specs.Table.{Kind, bit, word, Tab, kind_of, target, part}
use Rattle.modbus.specs.Ported.{Ported, reads, one, many, code_of}
use Rattle.modbus.specs.Request.{most_read, most_written, octets, shown}
use Rattle.modbus.specs.Storage.{Sound, storage}
use Rattle.modbus.specs.declared.ModbusProto.{ModbusProto}
use Rattle.modbus.proofs.StorageLaws.{size_sound, length_part}
use Rattle.modbus.proofs.AnswerLaws.{length_shown}
use Rattle.tables.specs.Lent.{Lent, table_of, cells_of}
use Rattle.tables.proofs.CallsLaws.{changed_inside}
use Rattle.outgoing.specs.Grow.{Response, length_field}
use Rattle.frame.specs.State.{After, well}
use Rattle.frame.specs.Parse as parse
use Rattle.process.specs.Process.{Legal, value_of, stored_many, wrote, wrote_to}
use Rattle.chain.specs.Chain.{Chained, chained_to, from_processed, from_wrote, with_tables, from_parsed, chained, spoken}
use Rattle.chain.proofs.Response.{Bears, header, closed}
use Rattle.chain.proofs.Laid.{Laid, Good, byte_laid, word_laid, front_laid, rest_laid}
use Rattle.chain.proofs.Parsed.{ready, answers, lead, Heard, standing, parsed_read, parsed_one, parsed_many}
use Rattle.chain.proofs.Processed.{table, cells, octets_most, read_leaves, one_leaves, many_leaves}
use Rattle.chain.proofs.Finished.{response_ends}

-- the coils and the holdings after a write that stored m
abbrev pub coils_then : Kind → List ℕ → List ℕ → List ℕ
coils_then bit c m = m
coils_then word c m = c

abbrev pub holdings_then : Kind → List ℕ → List ℕ → List ℕ
holdings_then bit h m = h
holdings_then word h m = m

-- the unit and the function as asked, the byte count and the data are one body
joined : (x : List ℕ) (u f k : ℕ) (d : List ℕ) → x ++ (u ∷ f ∷ []) ++ (k ∷ []) ++ d ≡ x ++ (u ∷ f ∷ k ∷ d)
joined x u f k d = append_assoc (x ++ (u ∷ f ∷ [])) (k ∷ []) d ∙ append_assoc x (u ∷ f ∷ []) (k ∷ d)

first_two : (l : List ℕ) → 2 ≤ length l → take 2 l ≡ get_or l 0 0 ∷ get_or l 1 0 ∷ []
first_two [] h = absurd (omega arith)
first_two (x ∷ []) h = absurd (omega arith)
first_two (x ∷ y ∷ l) h = refl

module _ {p : ModbusProto} {tag body buf : List ℕ} {start : ℕ}
    (h : Laid p tag body buf start) {unit : ℕ} {list out : List ℕ} {broadcast : Bool}
    (heard : Heard p (get_or body 0 0) unit list out broadcast) (l : Lent) where
  abbrev pub chain : Chained
  chain = chained unit p list l buf out

  -- ---- a read is answered with the cells' values, none of them included

  abbrev pub fetched : Tab → List ℕ
  fetched t =
      get_or body 0 0
      ∷ get_or body 1 0
      ∷ octets (storage t).kind (word_at body 4)
      ∷ shown (storage t).kind (part ((storage t).cell (table_of l t)) (word_at body 2) (word_at body 4))

  pub chain_read : Good p body buf start → (t : Tab) → broadcast ≡ false → get_or body 1 0 ≡ code_of (reads t)
      → length body ≡ 6 → word_at body 4 ≤ most_read (kind_of t)
      → Sound (storage t) (table_of l t) (cells_of l t) → word_at body 2 + word_at body 4 ≤ cells_of l t
      → chain ≡ chained_to 0 (closed p tag (fetched t)) l.coil_bytes l.holding_bytes
  unfolding chained
  chain_read g t b c n most ok inside =
      let S = storage t in
      let k = octets S.kind (word_at body 4) in
      let d = shown S.kind (part (S.cell (table_of l t)) (word_at body 2) (word_at body 4)) in
      let (q, e, s) =
      read_leaves unit buf l (standing h heard) t (word_at body 2) (word_at body 4) most
      (omega (arith, h.whole)) ok inside in
      let m : length d ≡ k = length_shown S.kind _
      ∙ ap (octets S.kind) (length_part (S.cell (table_of l t)) (word_at body 2) (word_at body 4)) in
      let few = octets_most t (word_at body 4) most in
      let z : k + 3 ≡ length (fetched t) = omega arith in
      let w =
      ap (λ (x : List ℕ). parse.header broadcast p buf ++ length_field p (k + 3) ++ x ++ (k ∷ []) ++ d)
      (front_laid h 2 (omega arith) ∙ first_two body (omega arith))
      ∙ joined (parse.header broadcast p buf ++ length_field p (k + 3)) (get_or body 0 0) (get_or body 1 0) k d
      ∙ ap₂ (λ (x : List ℕ) (y : ℕ). x ++ length_field p y ++ fetched t)
      (ap (λ (x : Bool). parse.header x p buf) b ∙ h.led) z in
      ap (λ (x : After). from_parsed x buf l) (parsed_read h heard t c g b n most)
      ∙ ap (λ (x : After). with_tables (wrote x l.coil_bytes l.holding_bytes) (from_processed x)) e
      ∙ response_ends p unit true (reads t) start _ _ (length out) tag (fetched t) l.coil_bytes l.holding_bytes q
      (subst (λ (x : List ℕ). Bears (length out) x q) w s) h.tagged (omega arith) heard.room

  -- ---- a write is echoed, unless it is a broadcast

  abbrev pub written : Kind → List ℕ → Chained
  written k m =
      chained_to 0 (spoken broadcast (closed p tag (take 6 body))) (coils_then k l.coil_bytes m)
      (holdings_then k l.holding_bytes m)

  -- the end of a write that stored m
  ended_write : (k : Kind) (fn : Ported) (count : ℕ) (m : List ℕ) (q : Response) → 6 ≤ length body
      → Bears (length out) (parse.header broadcast p buf ++ length_field p 6 ++ take 6 (drop start buf)) q
      → from_wrote (wrote_to k l.coil_bytes l.holding_bytes
      (well (ready p unit (answers broadcast) false fn start (word_at body 2) count q.len) q.out, m))
      ≡ written k m
  ended_write k fn count m q six s = by broadcast k refl
    where
      said : broadcast ≡ false
          → Bears (length out) (header p tag ++ length_field p (length (take 6 body)) ++ take 6 body) q
      said b =
          let z : 6 ≡ length (take 6 body) = sym (length-take-le 6 body six) in
          let w =
          ap₂ (λ (x y : List ℕ). x ++ length_field p 6 ++ y) (ap (λ (x : Bool). parse.header x p buf) b ∙ h.led)
          (front_laid h 6 six)
          ∙ ap (λ (x : ℕ). header p tag ++ length_field p x ++ take 6 body) z in
          subst (λ (x : List ℕ). Bears (length out) x q) w s

      by : (b : Bool) (k : Kind) → broadcast ≡ b
          → from_wrote (wrote_to k l.coil_bytes l.holding_bytes
          (well (ready p unit (answers b) false fn start (word_at body 2) count q.len) q.out, m))
          ≡ chained_to 0 (spoken b (closed p tag (take 6 body))) (coils_then k l.coil_bytes m)
          (holdings_then k l.holding_bytes m)
      by true bit e = refl
      by true word e = refl
      by false bit e =
          response_ends p unit false fn start _ _ (length out) tag (take 6 body) m l.holding_bytes q (said e) h.tagged
          (omega (arith, length-take-le 6 body six)) heard.room
      by false word e =
          response_ends p unit false fn start _ _ (length out) tag (take 6 body) l.coil_bytes m q (said e) h.tagged
          (omega (arith, length-take-le 6 body six)) heard.room

  pub chain_one : Good p body buf start → (k : Kind) → get_or body 1 0 ≡ code_of (one k) → length body ≡ 6
      → Legal k (word_at body 4)
      → Sound (storage (target k)) (table k l) (cells k l) → word_at body 2 + 1 ≤ cells k l
      → chain ≡ written k ((storage (target k)).put (table k l) (word_at body 2) (value_of k (word_at body 4)))
  unfolding chained
  chain_one g k c n legal ok inside =
      let m = (storage (target k)).put (table k l) (word_at body 2) (value_of k (word_at body 4)) in
      let (q, e, s) =
      one_leaves unit buf l (standing h heard) k broadcast (word_at body 2) 1 (omega (arith, h.whole)) (word_at body 4)
      (word_laid h 4 (omega arith))
      legal m
      (changed_inside (storage (target k)) (table k l) (cells k l) (word_at body 2) _
      (rw (size_sound (storage (target k)) (table k l) (cells k l) ok) (omega arith))) in
      ap (λ (x : After). from_parsed x buf l) (parsed_one h heard g k c n)
      ∙ ap from_wrote e
      ∙ ended_write k (one k) 1 m q (omega arith) s

  pub chain_many : Good p body buf start → (k : Kind) → get_or body 1 0 ≡ code_of (many k) → length body ≡ 7 + get_or body 6 0
      → get_or body 6 0 ≤ 246 → word_at body 4 ≤ most_written k → (m : List ℕ)
      → ((n : ℕ)
      → stored_many k (table k l) (cells k l)
      (ready p unit (answers broadcast) false (many k) start (word_at body 2) (word_at body 4) n) (drop 7 body)
      ≡ go (0, m))
      → chain ≡ written k m
  unfolding chained
  chain_many g k c n few most m stores =
      let (q, e, s) =
      many_leaves unit buf l (standing h heard) k broadcast (word_at body 2) (word_at body 4) (get_or body 6 0)
      (byte_laid h 6 (start + 6) refl (omega arith))
      (omega (arith, h.whole)) (drop 7 body) (rest_laid h 7 (get_or body 6 0) (sym n)) m (stores (lead h heard).len) in
      ap (λ (x : After). from_parsed x buf l) (parsed_many h heard g k c n few most)
      ∙ ap from_wrote e
      ∙ ended_write k (many k) (word_at body 4) m q (omega arith) s
