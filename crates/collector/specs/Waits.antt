-- What a collector is found to hold, for the contract of a private function: how many bytes, at least one, and all of them within it.
-- Assumes nothing.
use Rattle.std.specs.Prelude.{◌≡◌, List, [], Option, None, Some, ℕ, ◌+◌, ◌≤◌, length, take, drop}
use Rattle.collector.specs.Collected.{held_in}

abbrev pub Waits : List ℕ → Option ℕ → Type 0
Waits s None = held_in s ≡ []
Waits s (Some n) = (1 ≤ n) × (n + 2 ≤ length s) × (held_in s ≡ take n (drop 2 s))
