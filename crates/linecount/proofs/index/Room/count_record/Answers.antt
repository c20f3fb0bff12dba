-- `linecount::index::Room::count_record` meets its contract. The invariant with k bytes to come: sums and counts are there below k, and of the ends
-- that a frame may have, those below k - 4, `nearest` has the latest with each sum.
-- Assumes nothing.
use Rattle.std.proofs.Common.{◌≡◌, suc, ◌+◌, ◌-◌, length, get_or, set, sym, ap, ◌∙◌, subst, arith, rules, refl}
use lib.Bits.{bit_xor}
use Rattle.modbus.proofs.BytesLaws.{bytes_by}
use Rattle.logs.specs.Log.{rest}
use Rattle.linecount.specs.Sums.{tail, packed, sums, counts, Sums, Near, Counts}
use Rattle.linecount.proofs.IndexLaws.{tail_end, sum_at, place_put, sums_step, opens, near_none, near_put, counts_next, counts_few, packed_small, unpacked, none_counted}
use Rattle.linecount.proofs.index.Room.count_record.Goals as goal

pub returns-then-n-lt4 : goal.returns-then-n-lt4
returns-then-n-lt4 c = let e = none_counted c.args.«record».now (omega arith) in search rules

pub loop-k-init : goal.loop-k-init
loop-k-init c =
    let l = c.args.«record».now in
    let none : 0 ≡ tail l (length l - 0) = sym (tail_end l (length l - 0) (omega arith)) in
    let (s, n) = place_put l c.args.self.now.places 0 _ (λ j h. absurd (omega (arith, h))) (λ j h. absurd (omega (arith, h))) (search rules) none (sym (counts_few l 0 (omega arith))) in
    (none, s, n)

pub loop-k-preserved : goal.loop-k-preserved
loop-k-preserved c =
    let m = c.loop-k in
    let i = m.invariant in
    let l = c.args.«record».now in
    let z' = bit_xor m.z c.added-z.result in
    let back : m.k ≡ m.k + 1 - 1 = omega arith in
    let z : z' ≡ tail l (length l - m.k) = sums_step l m.k m.z c.added-z.result (omega arith) (omega arith) i.0 c.added-z.ensures in
    let (s, n) = place_put l m.self.places m.k _ i.1 i.2 (search rules) z (sym (counts_few l m.k (omega arith))) in
    (subst (λ j. z' ≡ tail l (length l - j)) back z, s, n)

pub loop-k-2-init : goal.loop-k-2-init
loop-k-2-init c =
    let m = c.loop-k in
    let l = c.args.«record».now in
    let e : m.k ≡ 4 = omega arith in (
      subst (λ j. m.z ≡ tail l (length l - (j - 1))) e m.invariant.0,
      sym (counts_few l 3 (omega arith)),
      subst (Sums (sums m.self.places) l) e m.invariant.1,
      near_none m.self.nearest l,
      subst (Counts (counts m.self.places) l) e m.invariant.2,
    )

pub counted-c-requires : goal.counted-c-requires
counted-c-requires c =
    let l = c.args.«record».now in (
      omega arith,
      λ j h. (let e = c.loop-k-2.invariant.4 j h in let s = packed_small l (length l - j) (omega arith) (omega arith) in omega (arith, e, s)),
    )

pub loop-k-2-preserved : goal.loop-k-2-preserved
loop-k-2-preserved c =
    let m = c.loop-k-2 in
    let i = m.invariant in
    let l = c.args.«record».now in
    let k = m.k in
    let x = c.added-z-in-loop-k-2 in
    let t = c.args.tables.now in
    let z' = bit_xor m.z x.result in
    let w = bit_xor z' (get_or t.openings k 0) in
    let end = (get_or m.self.places (k - 4) (record { sum = 0; counted = 0 })).sum in
    let near' = set m.self.nearest end (k - 4) in
    let back : k ≡ k + 1 - 1 = omega arith in
    let here : suc (k - 4) ≡ k - 3 = omega arith in
    let there : suc (k - 4) ≡ k + 1 - 4 = omega arith in
    let z : z' ≡ tail l (length l - k) = sums_step l k m.z x.result (omega arith) (omega arith) i.0 x.ensures in
    let is : end ≡ tail l (length l - (k - 4)) = sym (sum_at m.self.places (k - 4)) ∙ i.2 (k - 4) (omega arith) in
    let near : Near near' l (suc (k - 4)) = near_put l m.self.nearest (k - 4) end i.3 is (search rules) in
    let c' : c.counted-c.result ≡ packed (rest l (length l - k)) =
    c.counted-c.ensures
    ∙ counts_next l (bytes_by l (λ j. omega (arith, c.type_inv.«record» j))) k (omega arith) (omega arith) (sums m.self.places) i.2 near' (subst (Near near' l) here near)
    (get_or near' w 0) w (opens l k z' (get_or t.openings k 0) (omega arith) z (t.start_values k (omega arith))) refl (counts m.self.places) m.c i.4 i.1 in
    let (s, n) = place_put l m.self.places k _ i.2 i.4 (search rules) z c' in (
      subst (λ j. z' ≡ tail l (length l - j)) back z,
      subst (λ j. c.counted-c.result ≡ packed (rest l (length l - j))) back c',
      s,
      subst (Near near' l) there near,
      n,
    )

pub returns : goal.returns
returns c =
    let l = c.args.«record».now in
    let m = c.loop-k-2 in
    let e : length l - (m.k - 1) ≡ length l - length l = omega arith in
    unpacked l m.c (omega arith) (m.invariant.1 ∙ ap (λ j. packed (rest l j)) e)
