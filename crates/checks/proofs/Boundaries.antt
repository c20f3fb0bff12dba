-- Document 01, module 1: the LRC of as many bytes as a frame has, and of one more, by computation.
-- Assumes nothing.
use Rattle.std.proofs.Common.{◌≡◌, ℕ, List, [], ◌∷◌, refl}
use native.Mathlib.Decide.{dec_le}
use Rattle.modbus.specs.Step.{◌>>=◌, ◌>>◌, need, choose}
use Rattle.modbus.specs.Paper.{told}
use Rattle.modbus.specs.Check.{sum, lrc}
use Rattle.checks.specs.Within.{lrc_within}

pub within :
    ◌≡◌ {A = List (ℕ × ℕ)}
    (told (lrc_within [] 0) ∷ told (lrc_within [] 1) ∷ told (lrc_within (1 ∷ 2 ∷ []) 2) ∷ told (lrc_within (1 ∷ 2 ∷ []) 3) ∷ [])
    ((0, 0) ∷ (23, 0) ∷ (0, 253) ∷ (23, 0) ∷ [])
unfolding dec_le ◌>>=◌ ◌>>◌ need choose sum lrc
within = refl
