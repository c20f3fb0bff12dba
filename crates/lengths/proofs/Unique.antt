-- Each contract leaves one possible result.
-- Assumes nothing.
use mathlib.Core.Path.{refl, sym, ◌∙◌}
use Rattle.modbus.proofs.Unique.{Unique, paper_law}
use Rattle.lengths.proofs.guess_frame_len.Kinds as guess-frame-len-kinds
use Rattle.lengths.proofs.guess_frame_len.Reads as guess-frame-len-reads
use Rattle.lengths.proofs.guess_request_frame_len.Kinds as guess-request-frame-len-kinds
use Rattle.lengths.proofs.guess_request_frame_len.Reads as guess-request-frame-len-reads
use Rattle.lengths.proofs.guess_response_frame_len.Kinds as guess-response-frame-len-kinds
use Rattle.lengths.proofs.guess_response_frame_len.Reads as guess-response-frame-len-reads

pub guess_request_frame_len :
    Unique 1 guess-request-frame-len-kinds.ps guess-request-frame-len-kinds.r guess-request-frame-len-reads.Post
guess_request_frame_len κs a x y u v p q = (paper_law x y (p ∙ sym q), refl)

pub guess_response_frame_len :
    Unique 1 guess-response-frame-len-kinds.ps guess-response-frame-len-kinds.r guess-response-frame-len-reads.Post
guess_response_frame_len κs a x y u v p q = (paper_law x y (p ∙ sym q), refl)

pub guess_frame_len : Unique 1 guess-frame-len-kinds.ps guess-frame-len-kinds.r guess-frame-len-reads.Post
guess_frame_len κs a x y u v p q = (paper_law x y (p ∙ sym q), refl)
