-- Each contract leaves one possible result.
-- Assumes nothing.
use mathlib.Core.Path.{refl, sym, ◌∙◌}
use Rattle.modbus.proofs.Unique.{Unique, paper_law, done_paper_law}
use Rattle.incoming.proofs.frame_start.Kinds as frame-start-kinds
use Rattle.incoming.proofs.frame_start.Reads as frame-start-reads
use Rattle.incoming.proofs.overflows.Kinds as overflows-kinds
use Rattle.incoming.proofs.overflows.Reads as overflows-reads
use Rattle.incoming.proofs.check_frame_crc.Kinds as check-frame-crc-kinds
use Rattle.incoming.proofs.check_frame_crc.Reads as check-frame-crc-reads

pub frame_start : Unique 1 frame-start-kinds.ps frame-start-kinds.r frame-start-reads.Post
frame_start κs a x y u v p q = (paper_law x y (p ∙ sym q), refl)

pub overflows : Unique 0 overflows-kinds.ps overflows-kinds.r overflows-reads.Post
overflows κs a x y u v p q = (p ∙ sym q, refl)

pub check_frame_crc : Unique 1 check-frame-crc-kinds.ps check-frame-crc-kinds.r check-frame-crc-reads.Post
check_frame_crc κs a x y u v p q = (done_paper_law x y (p ∙ sym q), refl)
