-- Each contract leaves one possible result, and one possible content of the buffer that is lent.
-- Assumes nothing.
use mathlib.Core.Path.{refl, sym, ap, ◌∙◌}
use mathlib.Core.List.{List}
use Prim.Native.Nat.{ℕ}
use Rattle.modbus.proofs.Unique.{Unique, answer_paper}
use Rattle.checks.proofs.Unique.{calc_crc16 as checks-calc-crc16}
use Rattle.driver.specs.Driven.{Leaves}
use Rattle.driver.proofs.Unique.{drive as driver-drive}
use Rattle.client.proofs.Unique.{generate_get as client-generate-get, generate_set as client-generate-set, generate_mask as client-generate-mask, generate_set_get as client-generate-set-get, parse_response as client-parse-response}
use Rattle.dalonjang.proofs.dalonjang_drive.Kinds as dalonjang-drive-kinds
use Rattle.dalonjang.proofs.dalonjang_drive.Reads as dalonjang-drive-reads
use Rattle.dalonjang.proofs.dalonjang_offer.Kinds as dalonjang-offer-kinds
use Rattle.dalonjang.proofs.dalonjang_offer.Reads as dalonjang-offer-reads
use Rattle.dalonjang.proofs.dalonjang_quiet.Kinds as dalonjang-quiet-kinds
use Rattle.dalonjang.proofs.dalonjang_quiet.Reads as dalonjang-quiet-reads
use Rattle.dalonjang.proofs.dalonjang_parse_ascii_frame.Kinds as dalonjang-parse-ascii-frame-kinds
use Rattle.dalonjang.proofs.dalonjang_parse_ascii_frame.Reads as dalonjang-parse-ascii-frame-reads
use Rattle.dalonjang.proofs.dalonjang_generate_ascii_frame.Kinds as dalonjang-generate-ascii-frame-kinds
use Rattle.dalonjang.proofs.dalonjang_generate_ascii_frame.Reads as dalonjang-generate-ascii-frame-reads
use Rattle.dalonjang.proofs.dalonjang_calc_crc16.Kinds as dalonjang-calc-crc16-kinds
use Rattle.dalonjang.proofs.dalonjang_calc_crc16.Reads as dalonjang-calc-crc16-reads
use Rattle.dalonjang.proofs.dalonjang_guess_request_frame_len.Kinds as dalonjang-guess-request-frame-len-kinds
use Rattle.dalonjang.proofs.dalonjang_guess_request_frame_len.Reads as dalonjang-guess-request-frame-len-reads
use Rattle.dalonjang.proofs.dalonjang_guess_response_frame_len.Kinds as dalonjang-guess-response-frame-len-kinds
use Rattle.dalonjang.proofs.dalonjang_guess_response_frame_len.Reads as dalonjang-guess-response-frame-len-reads
use Rattle.dalonjang.proofs.dalonjang_generate_get.Kinds as dalonjang-generate-get-kinds
use Rattle.dalonjang.proofs.dalonjang_generate_get.Reads as dalonjang-generate-get-reads
use Rattle.dalonjang.proofs.dalonjang_generate_set.Kinds as dalonjang-generate-set-kinds
use Rattle.dalonjang.proofs.dalonjang_generate_set.Reads as dalonjang-generate-set-reads
use Rattle.dalonjang.proofs.dalonjang_generate_mask.Kinds as dalonjang-generate-mask-kinds
use Rattle.dalonjang.proofs.dalonjang_generate_mask.Reads as dalonjang-generate-mask-reads
use Rattle.dalonjang.proofs.dalonjang_generate_set_get.Kinds as dalonjang-generate-set-get-kinds
use Rattle.dalonjang.proofs.dalonjang_generate_set_get.Reads as dalonjang-generate-set-get-reads
use Rattle.dalonjang.proofs.dalonjang_parse_response.Kinds as dalonjang-parse-response-kinds
use Rattle.dalonjang.proofs.dalonjang_parse_response.Reads as dalonjang-parse-response-reads

pub parse_ascii_frame : Unique 2 dalonjang-parse-ascii-frame-kinds.ps dalonjang-parse-ascii-frame-kinds.r dalonjang-parse-ascii-frame-reads.Post
parse_ascii_frame κs a x y u v p q =
    let e = p ∙ sym q in
    (answer_paper x y (ap (λ (t : (ℕ × ℕ) × List ℕ). t.0) e), ap (λ (t : (ℕ × ℕ) × List ℕ). (u.0, (u.1.0, (t.1, u.1.1.1)))) e)

pub generate_ascii_frame : Unique 2 dalonjang-generate-ascii-frame-kinds.ps dalonjang-generate-ascii-frame-kinds.r dalonjang-generate-ascii-frame-reads.Post
generate_ascii_frame κs a x y u v p q =
    let e = p ∙ sym q in
    (answer_paper x y (ap (λ (t : (ℕ × ℕ) × List ℕ). t.0) e), ap (λ (t : (ℕ × ℕ) × List ℕ). (u.0, (t.1, u.1.1))) e)

pub guess_request_frame_len : Unique 1 dalonjang-guess-request-frame-len-kinds.ps dalonjang-guess-request-frame-len-kinds.r dalonjang-guess-request-frame-len-reads.Post
guess_request_frame_len κs a x y u v p q = (answer_paper x y (p ∙ sym q), refl)

pub guess_response_frame_len : Unique 1 dalonjang-guess-response-frame-len-kinds.ps dalonjang-guess-response-frame-len-kinds.r dalonjang-guess-response-frame-len-reads.Post
guess_response_frame_len κs a x y u v p q = (answer_paper x y (p ∙ sym q), refl)

-- the contract of `checks` is this one
pub calc_crc16 : Unique 1 dalonjang-calc-crc16-kinds.ps dalonjang-calc-crc16-kinds.r dalonjang-calc-crc16-reads.Post
calc_crc16 = checks-calc-crc16

-- the driver's contract is this one
pub drive : Unique 7 dalonjang-drive-kinds.ps dalonjang-drive-kinds.r dalonjang-drive-reads.Post
drive = driver-drive

-- and so are the client's
pub generate_get : Unique 1 dalonjang-generate-get-kinds.ps dalonjang-generate-get-kinds.r dalonjang-generate-get-reads.Post
generate_get = client-generate-get

pub generate_set : Unique 2 dalonjang-generate-set-kinds.ps dalonjang-generate-set-kinds.r dalonjang-generate-set-reads.Post
generate_set = client-generate-set

pub generate_mask : Unique 1 dalonjang-generate-mask-kinds.ps dalonjang-generate-mask-kinds.r dalonjang-generate-mask-reads.Post
generate_mask = client-generate-mask

pub generate_set_get : Unique 2 dalonjang-generate-set-get-kinds.ps dalonjang-generate-set-get-kinds.r dalonjang-generate-set-get-reads.Post
generate_set_get = client-generate-set-get

pub parse_response : Unique 3 dalonjang-parse-response-kinds.ps dalonjang-parse-response-kinds.r dalonjang-parse-response-reads.Post
parse_response = client-parse-response

pub offer : Unique 2 dalonjang-offer-kinds.ps dalonjang-offer-kinds.r dalonjang-offer-reads.Post
offer κs a x y u v p q =
    let e = p ∙ sym q in
    (answer_paper x y (ap (λ (t : (ℕ × ℕ) × List ℕ). t.0) e), ap (λ (t : (ℕ × ℕ) × List ℕ). (t.1, u.1)) e)

-- the coils are the third of the parameters, the holdings the fifth, the collector the seventh and the reply buffer the last
pub quiet : Unique 7 dalonjang-quiet-kinds.ps dalonjang-quiet-kinds.r dalonjang-quiet-reads.Post
quiet κs a x y u v p q =
    let e = p ∙ sym q in
    let f = u.1.1.1 in
    let h = f.1.1 in (
      ap (λ (g : Leaves × List ℕ). g.0.result) e,
      ap (λ (g : Leaves × List ℕ). (
        u.0,
        (u.1.0, (g.0.coil_bytes, (f.0, (g.0.holding_bytes, (h.0, (g.1, (g.0.reply_bytes, h.1.1.1))))))),
      )) e,
    )
