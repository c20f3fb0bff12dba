-- Each contract leaves one possible result.
-- Assumes nothing.
use Rattle.std.proofs.Common.{sym, refl, ◌∙◌}
use Rattle.modbus.proofs.Unique.{Unique, paper_law, hex_paper_law}
use Rattle.checks.proofs.calc_crc16.Kinds as calc-crc16-kinds
use Rattle.checks.proofs.calc_crc16.Reads as calc-crc16-reads
use Rattle.checks.proofs.calc_lrc.Kinds as calc-lrc-kinds
use Rattle.checks.proofs.calc_lrc.Reads as calc-lrc-reads
use Rattle.checks.proofs.chr_to_hex.Kinds as chr-to-hex-kinds
use Rattle.checks.proofs.chr_to_hex.Reads as chr-to-hex-reads
use Rattle.checks.proofs.crc_byte.Kinds as crc-byte-kinds
use Rattle.checks.proofs.crc_byte.Reads as crc-byte-reads
use Rattle.checks.proofs.crc_shift.Kinds as crc-shift-kinds
use Rattle.checks.proofs.crc_shift.Reads as crc-shift-reads
use Rattle.checks.proofs.digit_under.Kinds as digit-under-kinds
use Rattle.checks.proofs.digit_under.Reads as digit-under-reads
use Rattle.checks.proofs.hex_to_chr.Kinds as hex-to-chr-kinds
use Rattle.checks.proofs.hex_to_chr.Reads as hex-to-chr-reads

pub calc_crc16 : Unique 1 calc-crc16-kinds.ps calc-crc16-kinds.r calc-crc16-reads.Post
calc_crc16 κs a x y u v p q = (p ∙ sym q, refl)

pub calc_lrc : Unique 1 calc-lrc-kinds.ps calc-lrc-kinds.r calc-lrc-reads.Post
calc_lrc κs a x y u v p q = (paper_law x y (p ∙ sym q), refl)

pub crc_byte : Unique 0 crc-byte-kinds.ps crc-byte-kinds.r crc-byte-reads.Post
crc_byte κs a x y u v p q = (p ∙ sym q, refl)

pub crc_shift : Unique 0 crc-shift-kinds.ps crc-shift-kinds.r crc-shift-reads.Post
crc_shift κs a x y u v p q = (p ∙ sym q, refl)

pub chr_to_hex : Unique 0 chr-to-hex-kinds.ps chr-to-hex-kinds.r chr-to-hex-reads.Post
chr_to_hex κs a x y u v p q = (hex_paper_law x y (p ∙ sym q), refl)

pub digit_under : Unique 0 digit-under-kinds.ps digit-under-kinds.r digit-under-reads.Post
digit_under κs a x y u v p q = (paper_law x y (p ∙ sym q), refl)

pub hex_to_chr : Unique 0 hex-to-chr-kinds.ps hex-to-chr-kinds.r hex-to-chr-reads.Post
hex_to_chr κs a x y u v p q = (paper_law x y (p ∙ sym q), refl)
