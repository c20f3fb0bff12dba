-- Each contract of module 1's calls leaves one possible result.
-- Assumes nothing.
use mathlib.Core.Path.{refl, sym, ◌∙◌}
use Rattle.modbus.proofs.Unique.{Unique, answer_paper}
use Rattle.probe.proofs.probe_calc_crc16.Kinds as probe-calc-crc16-kinds
use Rattle.probe.proofs.probe_calc_crc16.Reads as probe-calc-crc16-reads
use Rattle.probe.proofs.probe_calc_lrc.Kinds as probe-calc-lrc-kinds
use Rattle.probe.proofs.probe_calc_lrc.Reads as probe-calc-lrc-reads
use Rattle.probe.proofs.probe_chr_to_hex.Kinds as probe-chr-to-hex-kinds
use Rattle.probe.proofs.probe_chr_to_hex.Reads as probe-chr-to-hex-reads
use Rattle.probe.proofs.probe_hex_to_chr.Kinds as probe-hex-to-chr-kinds
use Rattle.probe.proofs.probe_hex_to_chr.Reads as probe-hex-to-chr-reads

pub calc_crc16 : Unique 1 probe-calc-crc16-kinds.ps probe-calc-crc16-kinds.r probe-calc-crc16-reads.Post
calc_crc16 κs a x y u v p q = (p ∙ sym q, refl)

pub calc_lrc : Unique 1 probe-calc-lrc-kinds.ps probe-calc-lrc-kinds.r probe-calc-lrc-reads.Post
calc_lrc κs a x y u v p q = (answer_paper x y (p ∙ sym q), refl)

pub chr_to_hex : Unique 0 probe-chr-to-hex-kinds.ps probe-chr-to-hex-kinds.r probe-chr-to-hex-reads.Post
chr_to_hex κs a x y u v p q = (answer_paper x y (p ∙ sym q), refl)

pub hex_to_chr : Unique 0 probe-hex-to-chr-kinds.ps probe-hex-to-chr-kinds.r probe-hex-to-chr-reads.Post
hex_to_chr κs a x y u v p q = (answer_paper x y (p ∙ sym q), refl)
