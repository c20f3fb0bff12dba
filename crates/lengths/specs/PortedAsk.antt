-- The requests of the crate's eight functions, whatever others a master may ask.
-- Assumes nothing.
use Rattle.std.specs.Prelude.{List, ℕ}
use Rattle.modbus.specs.Table.{Kind, Tab}
use Rattle.modbus.specs.Request.{Ask, read, write, writes}

pub data PortedAsk : Ask → Type 0 where
  ported_read : (t : Tab) (s n : ℕ) → PortedAsk (read t s n)
  ported_write : (k : Kind) (a v : ℕ) → PortedAsk (write k a v)
  ported_writes : (k : Kind) (s : ℕ) (vs : List ℕ) → PortedAsk (writes k s vs)
