-- `ascii::reading::parse_by_pairs` meets its contract. The loop's invariant: what is left of the reading comes to what was left at its start.
-- Assumes nothing.
use Rattle.std.specs.Prelude.{Result}
use Rattle.std.proofs.lemmas.Bool.Decides.{nat_tests}
use Rattle.modbus.specs.Paper.{paper}
use Rattle.modbus.specs.declared.ErrorKind.{ErrorKind}
use Rattle.modbus.proofs.PaperLaws.{handed_on}
use Rattle.std.proofs.Common.{not, Bool, false, ◌==◌, ◌≡◌, ℕ, ◌+◌, ◌-◌, ◌*◌, ◌≤◌, min, List, [], ◌∷◌, length, get_or, take, drop, sym, refl, ap, ◌∙◌, arith}
use lib.Seq.{set_out}
use Rattle.modbus.specs.Step.{Step, choose, ◌≤?◌}
use Rattle.modbus.specs.declared.ErrorKind.TheVariants.{OOB}
use Rattle.modbus.specs.Hex.{spell, spelt}
use Rattle.modbus.proofs.StepLaws.{pick_yes, pick_no}
use Rattle.modbus.proofs.HexLaws.{length_spelt, get_d_spelt}
use Rattle.ascii.specs.Reading.{Ending, finished, refused, pair, parsed_into}
use Rattle.octets.proofs.PutLaws.{no_room, had_room}
use Rattle.ascii.proofs.ReadingLaws.{pair_stop, length_kept, resumed, resumed_start, resumed_done, resumed_stop, resumed_go, parsed_none, placed_full, placed_stop, placed_outside}
use Rattle.ascii.proofs.PlainLaws.{quick_room, resumed_digits}
use Rattle.ascii.proofs.SpeltLaws.{stop_spell, begin_spelt, digits_spelt}
use Rattle.ascii.proofs.reading.parse_by_pairs.Goals as goal
use Rattle.ascii.proofs.reading.parse_by_pairs.Goals.{After-min-end, At-loop-data_pos}

-- the text as the switch has it read, which is as long as the data
abbrev shown : After-min-end → List ℕ
shown n = spelt n.args.hex n.args.«data».now

lengthy : (n : After-min-end) → length (shown n) ≡ length n.args.«data».now
lengthy n = length_spelt n.args.hex n.args.«data».now

within : (n : After-min-end) → n.min-end.result ≤ length (shown n)
within n = omega (arith, lengthy n, n.min-end.ensures)

-- data that is not empty has a character
filled : {n : ℕ} {r : Bool} → n ≡ 0 → r ≡ (n == 0) → r ≡ false → ⊥
filled z e f = grind (arith, nat_tests)

-- what is left at the loop comes to what is asked
left : (l : At-loop-data_pos)
    → let t = spelt l.args.hex l.args.«data».now in
    resumed (choose (l.args.data_len ≤? length t) finished (refused OOB)) (l.loop-data_pos.cpos - l.args.frame_pos) l.loop-data_pos.frame_buf
    l.loop-data_pos.cpos (drop l.loop-data_pos.data_pos (take l.min-end.result t))
    ≡ parsed_into t l.args.data_len l.args.frame_buf.now l.args.frame_pos
left l =
    let n = l in
    let a = l.args in
    let q = l.decode_digits-done.ensures in
    let room = quick_room _ _ _ _ _ _ l.quick_pairs-quick.ensures q.0 in
    let long = length_spelt a.hex a.«data».now in
    let t = sym (digits_spelt a.hex a.«data».now l.colon-from.result (l.colon-from.result + 2 * l.decode_digits-done.result) q.1) in
    l.loop-data_pos.invariant.3
    ∙ resumed_digits (spelt a.hex a.«data».now) l.min-end.result (omega (arith, long, l.min-end.ensures)) _ _ _ _ _ _ l.decode_digits-done.result l.colon-from.result _ _ _
    (resumed_start (spelt a.hex a.«data».now) _ _ _ _ _ (λ z. filled (sym long ∙ z) l.is_empty.ensures l.if-is_empty.false) (l.min-end.ensures ∙ ap (min a.data_len) (sym long))
    (l.colon-from.ensures.value ∙ sym (begin_spelt a.hex a.«data».now)))
    room.0 room.1 room.2 refl (omega arith) refl
    (rw t at q.1) (rw t at q.2)

-- what stood at the place, by what code was told of it
read : (hex : ℕ) (d : List ℕ) (end at : ℕ) {r : Step Ending ℕ}
    → r ≡ pair (spell hex (get_or d at 0)) (drop (at + 1) (take end (spelt hex d)))
    → pair (get_or (spelt hex d) at 0) (drop (at + 1) (take end (spelt hex d))) ≡ r
read hex d end at e = ap (λ (h : ℕ). pair h (drop (at + 1) (take end (spelt hex d)))) (get_d_spelt hex d at) ∙ sym e

pub returns-then-is_empty : goal.returns-then-is_empty
returns-then-is_empty c =
    let a = c.args in
    let z : length a.«data».now ≡ 0 = grind (arith, nat_tests) in
    parsed_none (spelt a.hex a.«data».now) _ _ _ (length_spelt a.hex a.«data».now ∙ z)

pub decode_digits-done-requires : goal.decode_digits-done-requires
decode_digits-done-requires c =
    let r = quick_room _ _ _ _ _ c.quick_pairs-quick.result c.quick_pairs-quick.ensures (omega arith) in
    let h : ¬ (length c.args.«data».now ≡ 0) = λ z. filled z c.is_empty.ensures c.if-is_empty.false in
    (omega (arith, h, c.colon-from.ensures.small), r.2)

pub returns-then-cpos : goal.returns-then-cpos
returns-then-cpos c =
    let a = c.args in
    let n = (goal.at.returns-then-cpos c).After-min-end in
    resumed_stop (spelt a.hex a.«data».now) c.min-end.result c.loop-data_pos.data_pos _ _ _ _ _ (left (goal.at.returns-then-cpos c).At-loop-data_pos) (refused OOB)
    (omega arith) (within n) (placed_full _ _ _ _ c.if-cpos.true)

pub returns-in_err-b : goal.returns-in_err-b
returns-in_err-b c =
    let a = c.args in
    let n = (goal.at.returns-in_err-b c).After-min-end in
    ap (λ (r : Result ℕ ErrorKind). (paper r, c.loop-data_pos.frame_buf)) (handed_on _ c.from_residual.ensures.1)
    ∙ resumed_stop (spelt a.hex a.«data».now) c.min-end.result c.loop-data_pos.data_pos _ _ _ _ _ (left (goal.at.returns-in_err-b c).At-loop-data_pos) (refused _) (omega arith) (within n)
    (placed_stop _ _ _ _ c.if-cpos.false _ (read a.hex a.«data».now c.min-end.result c.loop-data_pos.data_pos c.in_err-b.ensures))

pub returns-then-stop_byte : goal.returns-then-stop_byte
returns-then-stop_byte c =
    let a = c.args in
    let n = (goal.at.returns-then-stop_byte c).After-min-end in
    resumed_stop (spelt a.hex a.«data».now) c.min-end.result c.loop-data_pos.data_pos _ _ _ _ _ (left (goal.at.returns-then-stop_byte c).At-loop-data_pos) finished (omega arith) (within n)
    (placed_stop _ _ _ _ c.if-cpos.false _
    (read a.hex a.«data».now c.min-end.result c.loop-data_pos.data_pos (sym (pair_stop _ _ (stop_spell a.hex _ (c.stop_byte.ensures.0 c.if-stop_byte.true))))))

pub returns-then-not-put_byte : goal.returns-then-not-put_byte
returns-then-not-put_byte c =
    let a = c.args in
    let n = (goal.at.returns-then-not-put_byte c).After-min-end in
    let f = no_room _ _ _ c.loop-data_pos.cpos (length c.loop-data_pos.frame_buf) c.put_byte.ensures (ap not c.if-not-put_byte.true) in
    ap (λ (b : List ℕ). ((21, 0), b)) (f.1 ∙ set_out _ _ _ f.0)
    ∙ resumed_stop (spelt a.hex a.«data».now) c.min-end.result c.loop-data_pos.data_pos _ _ _ _ _ (left (goal.at.returns-then-not-put_byte c).At-loop-data_pos) (refused OOB)
    (omega arith) (within n)
    (placed_outside _ _ _ _ c.if-cpos.false _ (read a.hex a.«data».now c.min-end.result c.loop-data_pos.data_pos c.in_ok-b.ensures) f.0)

pub loop-data_pos-preserved : goal.loop-data_pos-preserved
loop-data_pos-preserved c =
    let a = c.args in
    let n = (goal.at.loop-data_pos-preserved c).After-min-end in
    let h = had_room _ _ _ c.loop-data_pos.cpos (length c.loop-data_pos.frame_buf) c.put_byte.ensures (ap not c.if-not-put_byte.false) in (
      omega arith,
      omega arith,
      length_kept c.loop-data_pos.frame_buf _ c.loop-data_pos.cpos (c.in_ok-b.b ∷ []) h.1 ∙ c.loop-data_pos.invariant.2,
      resumed_go (spelt a.hex a.«data».now) c.min-end.result c.loop-data_pos.data_pos _ _ _ _ _ c.loop-data_pos.invariant.3 _ _ _
          (omega arith) (within n) c.if-cpos.false
          (read a.hex a.«data».now c.min-end.result c.loop-data_pos.data_pos c.in_ok-b.ensures) h.0 (omega arith) h.1,
    )

pub returns-then-data-data_len : goal.returns-then-data-data_len
returns-then-data-data_len c =
    let a = c.args in
    let n = (goal.at.returns-then-data-data_len c).After-min-end in
    resumed_done (spelt a.hex a.«data».now) c.min-end.result c.loop-data_pos.data_pos _ _ _ _ _ (left (goal.at.returns-then-data-data_len c).At-loop-data_pos) (refused OOB)
    (pick_no (a.data_len ≤? length (spelt a.hex a.«data».now)) _ _ (λ h. omega (arith, lengthy n))) (omega arith)

pub returns : goal.returns
returns c =
    let a = c.args in
    let n = (goal.at.returns c).After-min-end in
    resumed_done (spelt a.hex a.«data».now) c.min-end.result c.loop-data_pos.data_pos _ _ _ _ _ (left (goal.at.returns c).At-loop-data_pos) finished
    (pick_yes (a.data_len ≤? length (spelt a.hex a.«data».now)) _ _ (omega (arith, lengthy n))) (omega arith)
