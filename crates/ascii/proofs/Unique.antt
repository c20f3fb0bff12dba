-- Each contract leaves one possible result, and one possible content of every lent buffer.
-- Assumes nothing.
use Rattle.std.proofs.Common.{ℕ, Bool, List, sym, refl, ap, ◌∙◌}
use Rattle.modbus.proofs.Unique.{Unique, paper_law}
use Rattle.ascii.proofs.other.Kinds as other-kinds
use Rattle.ascii.proofs.other.Reads as other-reads
use Rattle.ascii.proofs.low_digit.Kinds as low-digit-kinds
use Rattle.ascii.proofs.low_digit.Reads as low-digit-reads
use Rattle.ascii.proofs.parse_ascii_frame.Kinds as parse-ascii-frame-kinds
use Rattle.ascii.proofs.parse_ascii_frame.Reads as parse-ascii-frame-reads
use Rattle.ascii.proofs.parse_text.Kinds as parse-text-kinds
use Rattle.ascii.proofs.parse_text.Reads as parse-text-reads
use Rattle.ascii.proofs.put_text.Kinds as put-text-kinds
use Rattle.ascii.proofs.put_text.Reads as put-text-reads
use Rattle.ascii.proofs.generate_ascii_frame.Kinds as generate-ascii-frame-kinds
use Rattle.ascii.proofs.generate_ascii_frame.Reads as generate-ascii-frame-reads

pub other : Unique 0 other-kinds.ps other-kinds.r other-reads.Post
other κs a x y u v p q = (p ∙ sym q, refl)

pub low_digit : Unique 0 low-digit-kinds.ps low-digit-kinds.r low-digit-reads.Post
low_digit κs a x y u v p q = (p ∙ sym q, refl)

pub parse_text : Unique 2 parse-text-kinds.ps parse-text-kinds.r parse-text-reads.Post
parse_text κs a x y u v p q =
    let e = p ∙ sym q in
    (paper_law x y (ap (λ (t : (ℕ × ℕ) × List ℕ). t.0) e), ap (λ (t : (ℕ × ℕ) × List ℕ). (u.0, (u.1.0, (t.1, u.1.1.1)))) e)

-- with the same parameters
pub parse_ascii_frame : Unique 2 parse-ascii-frame-kinds.ps parse-ascii-frame-kinds.r parse-ascii-frame-reads.Post
parse_ascii_frame κs a x y u v p q =
    let e = p ∙ sym q in
    (paper_law x y (ap (λ (t : (ℕ × ℕ) × List ℕ). t.0) e), ap (λ (t : (ℕ × ℕ) × List ℕ). (u.0, (u.1.0, (t.1, u.1.1.1)))) e)

pub generate_ascii_frame : Unique 2 generate-ascii-frame-kinds.ps generate-ascii-frame-kinds.r generate-ascii-frame-reads.Post
generate_ascii_frame κs a x y u v p q =
    let e = p ∙ sym q in
    (paper_law x y (ap (λ (t : (ℕ × ℕ) × List ℕ). t.0) e), ap (λ (t : (ℕ × ℕ) × List ℕ). (u.0, (t.1, u.1.1))) e)

-- the buffer is the first of the parameters
pub put_text : Unique 2 put-text-kinds.ps put-text-kinds.r put-text-reads.Post
put_text κs a x y u v p q =
    let e = p ∙ sym q in
    (ap (λ (t : Bool × List ℕ). t.0) e, ap (λ (t : Bool × List ℕ). (t.1, u.1)) e)
