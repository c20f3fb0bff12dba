-- `transports::lines::open_ascii` meets its contract: each way out is a law of a line that is read.
-- Assumes nothing.
use Rattle.std.proofs.Common.{◌≡◌, ℕ, ◌-◌, ◌≤◌, List, length, sym, refl, ap, ◌∙◌, arith, length-take-le}
use Rattle.modbus.specs.Hex.{spelt}
use Rattle.modbus.proofs.HexLaws.{length_spelt}
use Rattle.modbus.specs.Paper.{paper}
use Rattle.ascii.specs.Reading.{parsed_into}
use Rattle.ascii.specs.Plain.{pair_values}
use Rattle.ascii.proofs.SpeltLaws.{digits_spelt}
use Rattle.transports.specs.Lines.{Lined}
use Rattle.transports.proofs.AsciiLaws.{not_lined, is_lined, lined_spelt, spelt_lined, short_spelt, text_unlined, short_read}
use Rattle.transports.proofs.AsciiLaws.{decoded_kept, text_refused, text_cut, text_within, text_read}
use Rattle.transports.proofs.lines.open_ascii.Goals as goal
use Rattle.transports.proofs.lines.open_ascii.Goals.{After-parse_text}

-- what was parsed of the line, as the switch has it read
read : (p : After-parse_text)
    → let f = spelt p.args.hex p.args.frame.now in
    Lined f
    × (254 ≤ length p.args.raw.now)
    × (◌≡◌ {A = (ℕ × ℕ) × List ℕ} (paper p.parse_text.result, p.parse_text.new.frame_buf) (parsed_into f (length f - 2) p.args.raw.now 0))
read p = (
  lined_spelt _ p.args.frame.now (is_lined p.args.frame.now _ p.is_line.ensures p.if-not-is_line.false),
  omega (arith, p.well_formed),
  p.parse_text.ensures
      ∙ ap (λ (n : ℕ). parsed_into (spelt p.args.hex p.args.frame.now) (n - 2) p.args.raw.now 0) (sym (length_spelt _ p.args.frame.now)),
)

pub returns-then-not-is_line : goal.returns-then-not-is_line
returns-then-not-is_line c =
    let f = c.args.frame.now in
    let n = not_lined f _ c.is_line.ensures c.if-not-is_line.true in
    let t = text_unlined (spelt c.args.hex f) _ (λ h. n (spelt_lined c.args.hex f h)) in
    record { value = t.0; fronted = t.1; raw_len_unchanged = refl }

pub returns-then-is_short : goal.returns-then-is_short
returns-then-is_short c =
    let f = c.args.frame.now in
    let h = is_lined f _ c.is_line.ensures c.if-not-is_line.false in
    let e = c.decode_eight.ensures.raw_after in
    let q = c.is_short.ensures c.if-is_short.true in
    let x = c.args.hex in
    let t = short_read (spelt x f) c.decode_eight.new.raw _ (lined_spelt x f h) (short_spelt x f q)
    (e ∙ ap pair_values (sym (digits_spelt x f 1 15 q.1))) (omega (arith, c.well_formed)) c.check_lrc.ensures in
    record { value = t.0; fronted = t.1; raw_len_unchanged = c.decode_eight.ensures.raw_len_unchanged }

pub overflow_sub-frame : goal.overflow_sub-frame
overflow_sub-frame c =
    let h = is_lined c.args.frame.now _ c.is_line.ensures c.if-not-is_line.false in omega arith

pub returns-then-n-frame : goal.returns-then-n-frame
returns-then-n-frame c =
    let (h, fits, e) = read (goal.at.returns-then-n-frame c).After-parse_text in
    let a = c.args in
    let line = spelt a.hex a.frame.now in
    let t = text_cut line a.raw.now _ _ h fits e _ c.in-Ok.is (λ z. c.if-n-frame.true (z ∙ length_spelt _ a.frame.now)) in
    record { value = t.0; fronted = t.1; raw_len_unchanged = decoded_kept line a.raw.now _ c.parse_text.result h fits e }

pub check_lrc-requires-2 : goal.check_lrc-requires-2
check_lrc-requires-2 c =
    let (h, fits, e) = read (goal.at.check_lrc-requires-2 c).After-parse_text in
    let a = c.args in
    let line = spelt a.hex a.frame.now in
    let w = text_within line a.raw.now _ _ h fits e _ c.in-Ok.is (c.if-n-frame.false ∙ sym (length_spelt _ a.frame.now)) in
    let k = length-take-le _ _ w.1 in
    (omega (arith, w.0, k), omega (arith, k))

pub returns-in_default : goal.returns-in_default
returns-in_default c =
    let (h, fits, e) = read (goal.at.returns-in_default c).After-parse_text in
    let a = c.args in
    let line = spelt a.hex a.frame.now in
    let t = text_refused line a.raw.now _ _ h fits e _ c.in_default.is in
    record { value = t.0; fronted = t.1; raw_len_unchanged = decoded_kept line a.raw.now _ c.parse_text.result h fits e }

pub returns : goal.returns
returns c =
    let (h, fits, e) = read (goal.at.returns c).After-parse_text in
    let a = c.args in
    let line = spelt a.hex a.frame.now in
    let t = text_read line a.raw.now _ _ h fits e _ c.in-Ok.is
    (c.if-n-frame.false ∙ sym (length_spelt _ a.frame.now)) _ c.check_lrc-2.ensures in
    record { value = t.0; fronted = t.1; raw_len_unchanged = decoded_kept line a.raw.now _ c.parse_text.result h fits e }
