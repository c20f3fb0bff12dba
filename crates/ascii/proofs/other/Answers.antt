-- `ascii::other` meets its contract: the differences are small for digits alone.
-- Assumes nothing.
use Rattle.std.proofs.Common.{sym, inl, inr, ⊎_elim, arith}
use Rattle.std.proofs.lemmas.Bool.Decides.{nat_tests}
use Rattle.modbus.proofs.StepLaws.{pick_yes, pick_no}
use Rattle.ascii.specs.Plain.{digit?}
use Rattle.ascii.proofs.other.Goals as goal
use Rattle.ascii.proofs.other.Goals.{then-wrapping_sub_u8-lt10, else-wrapping_sub_u8-lt10}

pub returns-then-wrapping_sub_u8-lt6 : goal.returns-then-wrapping_sub_u8-lt6
returns-then-wrapping_sub_u8-lt6 c =
    elim c.if-wrapping_sub_u8-lt10.branch [
      | then-wrapping_sub_u8-lt10 w ↦ sym (pick_yes (digit? _) _ _ (inl (omega arith, omega arith)))
      | else-wrapping_sub_u8-lt10 w ↦ sym (pick_yes (digit? _) _ _ (inr (grind (arith, nat_tests))))
    ]

pub returns-else-wrapping_sub_u8-lt6 : goal.returns-else-wrapping_sub_u8-lt6
returns-else-wrapping_sub_u8-lt6 c =
    elim c.if-wrapping_sub_u8-lt10.branch [
      | then-wrapping_sub_u8-lt10 w ↦ absurd (grind (arith, nat_tests))
      | else-wrapping_sub_u8-lt10 w ↦ sym (pick_no (digit? _) _ _ (λ d. ⊎_elim (λ p. grind (arith, nat_tests)) (λ p. grind (arith, nat_tests)) d))
    ]
