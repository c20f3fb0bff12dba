-- A frame of more bytes than an RTU frame may have, cut to 257 or whole, is one to the driver.
-- Assumes nothing.
use mathlib.Core.Logic.{◌⊎◌, inl, inr}
use mathlib.Core.Path.{◌≡◌, sym, ap, subst, ◌∙◌}
use mathlib.Core.List.{List}
use Prim.Native.Nat.{ℕ, ◌≤◌, ◌<◌}
use native.Mathlib.Omega.{arith}
use lib.ListN.{length, take, length-take}
use lib.Seq.{take_all}
use Rattle.modbus.specs.Step.{stop, ◌≤?◌, ◌≟◌}
use Rattle.modbus.specs.Paper.{proto_of}
use Rattle.modbus.specs.Setup.{Setup, proto, Valid, valid?, Roomy, roomy?}
use Rattle.modbus.specs.Decode.{frame_broken_quiet, unwrap, spelled_in}
use Rattle.modbus.specs.Drive.{spelled, judge}
use Rattle.modbus.specs.declared.ModbusProto.{ModbusProto}
use Rattle.modbus.specs.declared.ModbusProto.TheVariants.{Rtu}
use Rattle.modbus.proofs.StepLaws.{fail}
use Rattle.transports.specs.declared.Fault.TheVariants.{Broken}
use Rattle.driver.specs.Driven.{Call, framing, setup_of, settled, called}
use Rattle.driver.proofs.CallLaws.{bad_called, roomless_called, unopened_called}
use Rattle.collector.specs.Collected.{refusing, rtu_called}
use Rattle.collector.proofs.CollectedLaws.{rtu_other, rtu_driven}

pub too_long : (f : List ℕ) → 256 < length f → unwrap Rtu f ≡ stop frame_broken_quiet
unfolding unwrap
too_long f h = fail _ _ _ (λ k. absurd (omega arith))

pub unwrap_cut : (f : List ℕ) → unwrap Rtu (take 257 f) ≡ unwrap Rtu f
unwrap_cut f = by (length f ≤? 257)
  where
    by : Dec (length f ≤ 257) → unwrap Rtu (take 257 f) ≡ unwrap Rtu f
    by (yes h) = ap (unwrap Rtu) (take_all 257 f h)
    by (no h) = too_long (take 257 f) (simp length-take (omega arith)) ∙ sym (too_long f (omega arith))

judge_same : (s : Setup) (f g : List ℕ) → unwrap (proto s) (spelled s f) ≡ unwrap (proto s) (spelled s g) → judge s f ≡ judge s g
unfolding judge
judge_same s f g e = rw e

module _ (l : Call) where
  pub called_cut : (f : List ℕ) → l.numbers.transport ≡ 0 → called (framing l (take 257 f)) ≡ called (framing l f)
  unfolding called
  called_cut f z =
      let s = setup_of l in
      let e = subst (λ (p : ModbusProto). unwrap p (spelled_in p s.hex (take 257 f)) ≡ unwrap p (spelled_in p s.hex f)) (sym (ap proto_of z)) (unwrap_cut f) in
      ap (settled l) (judge_same s (take 257 f) f e)

  -- too many bytes: BadSetup, NoRoom or FrameBroken, in this order, and every buffer as lent
  pub too_many : 256 < length l.frame
      → (rtu_called l ≡ refusing 10 l) ⊎ ((rtu_called l ≡ refusing 9 l) ⊎ (rtu_called l ≡ refusing 5 l))
  too_many h = by (l.numbers.transport ≟ 0) (valid? (setup_of l)) (roomy? (setup_of l))
    where
      by : Dec (l.numbers.transport ≡ 0) → Dec (Valid (setup_of l)) → Dec (Roomy (setup_of l))
          → (rtu_called l ≡ refusing 10 l) ⊎ ((rtu_called l ≡ refusing 9 l) ⊎ (rtu_called l ≡ refusing 5 l))
      by (no z) v r = inl (rtu_other l z)
      by (yes z) (no v) r = inl (rtu_driven l z ∙ sym (bad_called l v))
      by (yes z) (yes v) (no r) = inr (inl (rtu_driven l z ∙ sym (roomless_called l v r)))
      by (yes z) (yes v) (yes r) =
          let e = subst (λ (p : ModbusProto). unwrap p (spelled_in p l.numbers.hex l.frame) ≡ stop frame_broken_quiet) (sym (ap proto_of z)) (too_long l.frame h) in
          inr (inr (rtu_driven l z ∙ sym (unopened_called l v r Broken e)))
