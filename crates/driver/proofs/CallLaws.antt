-- A call, by how far it comes: the setup, the room, the frame.
-- Assumes nothing.
use mathlib.Core.Path.{◌≡◌, sym, ap, ◌∙◌}
use mathlib.Core.List.{List, []}
use Rattle.std.specs.Prelude.{Err}
use Prim.Native.Nat.{ℕ}
use Rattle.modbus.specs.Step.{stop, go}
use Rattle.modbus.specs.Table.{coils, discretes, holdings, inputs}
use Rattle.modbus.specs.Setup.{Setup, proto, Valid, Roomy}
use Rattle.modbus.specs.Decode.{unwrap}
use Rattle.modbus.specs.Drive.{spelled, judge, settle}
use Rattle.modbus.proofs.StepLaws.{pass, fail, follow, halt}
use Rattle.modbus.proofs.DriveLaws.{quietly_go, quietly_stop}
use Rattle.transports.specs.Opened.{fault_of}
use Rattle.transports.specs.declared.Fault.{Fault}
use Rattle.transports.specs.declared.Fault.TheVariants.{Broken, WrongCheck}
use Rattle.requests.specs.Judged.{quiet_by}
use Rattle.driver.specs.Driven.{Call, setup_of, resulting, Leaves, leaving, settled, called}
use Rattle.driver.specs.Serving.{Sized, handled, driven_by}

-- a valid setup's tables count whole
pub valid_sized : (l : Call) → Valid (setup_of l) → Sized l.tables
valid_sized l v coils = v.held coils
valid_sized l v discretes = v.held discretes
valid_sized l v holdings = v.held holdings
valid_sized l v inputs = v.held inputs

module _ (l : Call) where
  abbrev set : Setup
  set = setup_of l

  -- the frame as the switch has it read
  abbrev shown : List ℕ
  shown = spelled set l.frame

  abbrev quietly_leaving : ℕ → Leaves
  quietly_leaving o = leaving (resulting o 0 0 []) l.reply l.tables.coil_bytes l.tables.holding_bytes

  pub bad_called : ¬ Valid set → quietly_leaving 10 ≡ called l
  unfolding called judge settle
  bad_called k = sym (ap (settled l) (fail _ _ _ k))

  module _ (v : Valid set) where
    pub roomless_called : ¬ Roomy set → quietly_leaving 9 ≡ called l
    unfolding called judge settle
    roomless_called k = sym (ap (settled l) (pass _ _ _ v ∙ fail _ _ _ k))

    module _ (r : Roomy set) where
      -- a frame that is broken, or has a wrong check
      pub unopened_called : (x : Fault) → unwrap (proto set) shown ≡ stop (fault_of x)
          → leaving (driven_by (Err (quiet_by (fault_of x)))) l.reply l.tables.coil_bytes l.tables.holding_bytes ≡ called l
      unfolding called judge settle
      unopened_called Broken e = sym (ap (settled l) (pass _ _ _ v ∙ pass _ _ _ r ∙ halt _ _ (quietly_stop _ e)))
      unopened_called WrongCheck e = sym (ap (settled l) (pass _ _ _ v ∙ pass _ _ _ r ∙ halt _ _ (quietly_stop _ e)))

      pub opened_called : (tag b : List ℕ) → unwrap (proto set) shown ≡ go (record { tag = tag; body = b }) → handled l tag b ≡ called l
      unfolding called judge
      opened_called tag b e = sym (ap (settled l) (pass _ _ _ v ∙ pass _ _ _ r ∙ follow _ _ (quietly_go _ e)))
