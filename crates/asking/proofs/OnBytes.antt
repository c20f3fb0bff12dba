-- What a call of the driver wrote into its reply buffer, the client reads back as the cells of the table bytes as that call left them; and its
-- exception as it was sent. The elements of the frame and of the register tables are bytes, as those of every lent slice are; this is a hypothesis
-- here.
-- Assumes nothing.
use mathlib.Core.Logic.{by_cases}
use mathlib.Core.Path.{◌≡◌, refl, sym, ap, ◌∙◌, subst}
use mathlib.Core.List.{List, [], ◌∷◌, head-eq_of_cons-eq}
use Prim.Native.Nat.{ℕ, ◌+◌, ◌*◌, ◌≤◌, ◌<◌}
use native.Mathlib.Omega.{arith}
use lib.ListN.{length, take, get_or, get_or-append}
use lib.Seq.{sets, sets-eq}
use Rattle.modbus.specs.Step.{Step, go}
use Rattle.modbus.specs.Bytes.{Bytes}
use Rattle.modbus.specs.Table.{coils, discretes, holdings, inputs, Range, part}
use Rattle.modbus.specs.Request.{Ask, read, write, writes, masks, swaps, reading, Seen, seen, found}
use Rattle.modbus.specs.Storage.{register_at}
use Rattle.modbus.specs.Setup.{Setup, Valid, valid?, Roomy, roomy?}
use Rattle.modbus.specs.Drive.{spelled, Result, drive}
use Rattle.modbus.proofs.BytesLaws.{word_at_law}
use Rattle.modbus.proofs.StorageLaws.{length_part, get_d_part, coil_bit}
use Rattle.modbus.proofs.AnswerLaws.{Proper}
use Rattle.tables.specs.Lent.{Lent, tables_of}
use Rattle.driver.specs.Driven.{Call, setup_of, Leaves, called}
use Rattle.demands.specs.Demand.{Request, Serves}
use Rattle.demands.specs.Order.{bad_setup, no_room}
use Rattle.demands.specs.OnBytes.{lent_after, showed}
use Rattle.demands.proofs.Judge.{refusal_returns}
use Rattle.demands.proofs.OnBytes.{showed_drive}
use Rattle.client.specs.declared.Reading.{Reading}
use Rattle.client.specs.Asking.{Declined, Reply, shows, excepted, shown_count, understood, read_into}
use Rattle.client.specs.Hearing.{read_of}
use Rattle.asking.specs.Belonging.{Says}
use Rattle.asking.proofs.Built.{says_capital}
use Rattle.asking.proofs.ReadBack.{read_back, read_back_some, read_back_refused}

-- the cells of bytes hold what cells can hold
proper : (l : Lent) → Bytes l.holding_bytes → Bytes l.input_bytes → Proper (tables_of l)
unfolding register_at
proper l h k coils i = coil_bit l.coil_bytes i
proper l h k discretes i = coil_bit l.discrete_bytes i
proper l h k holdings i = word_at_law l.holding_bytes (2 * i) h
proper l h k inputs i = word_at_law l.input_bytes (2 * i) k

-- an outcome below 3 is given under a valid setup with reply room alone
low_valid : (s : Setup) (l : Lent) (f : List ℕ) → Bytes f → (drive s (tables_of l) f).outcome < 3 → Valid s × Roomy s
low_valid s l f y low =
    by_cases (valid? s)
    (λ v. by_cases (roomy? s)
    (λ r. (v, r))
    (λ r. absurd (omega (arith, low, (refusal_returns s (tables_of l) f y (no_room v r)).0))))
    (λ v. absurd (omega (arith, low, (refusal_returns s (tables_of l) f y (bad_setup v)).0)))

-- what was read, in numbers
told_as : (out after : List ℕ) (w : Reading) (s : Step Declined Reply) (vs : List ℕ) → ◌≡◌ {A = Reading × List ℕ} (w, after) (read_into out s)
    → s ≡ go (shows vs) → (w ≡ read_of (length vs) 0 0) × (after ≡ sets out 0 vs)
told_as out after w s vs e q =
    let z = e ∙ ap (read_into out) q in
    (ap (λ (x : Reading × List ℕ). x.0) z, ap (λ (x : Reading × List ℕ). x.1) z)

told_code : (out after : List ℕ) (w : Reading) (s : Step Declined Reply) (c : ℕ) → ◌≡◌ {A = Reading × List ℕ} (w, after) (read_into out s)
    → s ≡ go (excepted c) → (w ≡ read_of 0 2 c) × (after ≡ out)
told_code out after w s c e q =
    let z = e ∙ ap (read_into out) q in
    (ap (λ (x : Reading × List ℕ). x.0) z, ap (λ (x : Reading × List ℕ). x.1) z)

module _ (lent : Call) (y : Bytes lent.frame) (g : Leaves) (e : g ≡ called lent) (h : Bytes lent.tables.holding_bytes)
    (k : Bytes lent.tables.input_bytes) where
  abbrev s : Setup
  s = setup_of lent

  abbrev l : Lent
  l = lent.tables

  -- the reply as it was sent
  abbrev pub came : List ℕ
  came = take g.result.length g.reply_bytes

  due : showed l g ≡ drive s (tables_of l) lent.frame
  due = showed_drive lent y g e

  module _ (out after : List ℕ) (w : Reading)
      (q : ◌≡◌ {A = Reading × List ℕ} (w, after) (read_into out (understood s.transport lent.frame came (length out)))) where
    -- a frame that was answered is some request's; the client's values are what its cells hold in the bytes afterwards; the frame stands for
    -- itself under the server's switch, as each that the client builds does
    pub values_back : spelled s lent.frame ≡ lent.frame → g.result.outcome ≡ 0
        → (r : Request) × Serves s lent.frame r
        × (shown_count r.ask ≤ length out → (w ≡ read_of (length (found r.ask (seen (tables_of (lent_after l g))))) 0 0)
        × (after ≡ sets out 0 (found r.ask (seen (tables_of (lent_after l g))))))
    values_back capital o =
        let z : (drive s (tables_of l) lent.frame).outcome ≡ 0 = sym (ap (λ (x : Result). x.outcome) due) ∙ o in
        let (v, roomy) = low_valid s l lent.frame y (omega arith) in
        let p = proper l h k in
        let (r, serves) = read_back_some s (tables_of l) lent.frame y capital v roomy p z in (
          r,
          serves,
          λ fits.
              let b = read_back s (tables_of l) lent.frame y capital v roomy p z r serves (length out) fits in
              told_as out after w _ _ q
              (subst (λ (x : Result). understood s.transport lent.frame x.reply (length out) ≡ go (shows (found r.ask (seen x.after)))) (sym due) b),
        )

    -- an exception to a request that may be asked is told as it was sent, and says that its cells are not all there
    pub exception_back : g.result.outcome ≡ 2 → (r : Request) → Says s.transport lent.frame r → shown_count r.ask ≤ length out
        → (w ≡ read_of 0 2 g.result.code) × (after ≡ out) × (g.result.code ≡ 2)
    exception_back o r says fits =
        let z : (drive s (tables_of l) lent.frame).outcome ≡ 2 = sym (ap (λ (x : Result). x.outcome) due) ∙ o in
        let (v, roomy) = low_valid s l lent.frame y (omega arith) in
        let (b, c) = read_back_refused s (tables_of l) lent.frame y (says_capital s.transport lent.frame r says s refl) v roomy (proper l h k) r says z (length out) fits in
        let (t, a) = told_code out after w _ _ q
        (subst (λ (x : Result). understood s.transport lent.frame x.reply (length out) ≡ go (excepted x.exception_code)) (sym due) b) in
        (t, a, ap (λ (x : Result). x.exception_code) due ∙ c)

-- what is found are the cells of the range that is read
pub found_range : (a : Ask) (g : Range) (w : Seen) → reading a ≡ g ∷ []
    → (shown_count a ≡ g.count) × (found a w ≡ part (w.tables g.tab) g.first g.count)
found_range (read t s n) g w e = let z = head-eq_of_cons-eq e in (ap (λ (x : Range). x.count) z, ap (λ (x : Range). part (w.tables x.tab) x.first x.count) z)
found_range (write k a v) g w e = let z : ◌≡◌ {A = ℕ} 0 1 = cc in absurd (omega arith)
found_range (writes k s vs) g w e = let z : ◌≡◌ {A = ℕ} 0 1 = cc in absurd (omega arith)
found_range (masks a x y) g w e = let z : ◌≡◌ {A = ℕ} 0 1 = cc in absurd (omega arith)
found_range (swaps r n s vs) g w e = let z = head-eq_of_cons-eq e in (ap (λ (x : Range). x.count) z, ap (λ (x : Range). part (w.tables x.tab) x.first x.count) z)

-- value i of a read is cell first + i
pub value_cell : (f : ℕ → ℕ) (first n i : ℕ) (out : List ℕ) → n ≤ length out → i < n → get_or (sets out 0 (part f first n)) i 0 ≡ f (first + i)
value_cell f first n i out fits h =
    let c = length_part f first n in
    ap (λ (x : List ℕ). get_or x i 0) (sets-eq (part f first n) out 0 (omega arith))
    ∙ get_or-append (part f first n) _ 0 i (omega arith) ∙ get_d_part f first n i 0 h
