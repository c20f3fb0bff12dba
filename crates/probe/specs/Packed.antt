-- A digit and the kind of its character in one number, as the runs beside the Rust take it.
-- Assumes nothing.
use Rattle.std.specs.Prelude.{ℕ, ◌+◌, ◌*◌}

abbrev pub packed : ℕ × ℕ × ℕ → ℕ × ℕ
packed (refusal, digit, kind) = (refusal, 16 * kind + digit)
