-- All that is promised of a call of the driver: a statement about what it was lent, `l`, and what it leaves, `g`.
-- Assumes nothing.
use Rattle.std.specs.Prelude.{◌↔◌, ◌≡◌, List, ℕ, ◌≤◌, take}
use Rattle.modbus.specs.Setup.{Valid, Roomy}
use Rattle.tables.specs.Lent.{tables_of}
use Rattle.driver.specs.Driven.{Call, setup_of, Leaves}
use Rattle.demands.specs.Demand.{Demand3}
use Rattle.demands.specs.Order.{Refusal}
use Rattle.demands.specs.Changed.{Held}
use Rattle.demands.specs.OnBytes.{showed, refusing, Kept}

pub record Promised (l : Call) (g : Leaves) : Type 0 where
  -- the customer's third demand
  pub third : Valid (setup_of l) → Roomy (setup_of l) → Demand3 (setup_of l) (tables_of l.tables) l.frame (showed l.tables g)
  -- each outcome from 2 on is given exactly where it is due, whatever the setup; then no byte changes but those of its reply
  pub refused : (o c : ℕ) (r : List ℕ) → 2 ≤ o → Refusal (setup_of l) l.frame o c r ↔ (g ≡ refusing l o c r)
  -- and where one is given, it is due
  pub due : 2 ≤ g.result.outcome → Refusal (setup_of l) l.frame g.result.outcome g.result.code (take g.result.length g.reply_bytes)
  -- only the outcomes 0 and 1 change a byte of a table
  pub unchanged : 2 ≤ g.result.outcome → (g.coil_bytes ≡ l.tables.coil_bytes) × (g.holding_bytes ≡ l.tables.holding_bytes)
  -- outside the reply and a served write every lent byte is as it was
  pub kept : Kept l g
  -- and so is all that the result does not name
  pub held : Held l.tables g
