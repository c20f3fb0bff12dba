-- A guess by the switch and the transport's number, from the transport that was found.
-- Assumes nothing.
use mathlib.Core.Path.{◌≡◌, sym, ap, ◌∙◌}
use mathlib.Core.List.{List}
use Prim.Native.Nat.{ℕ, ◌≤◌}
use Rattle.modbus.specs.Step.{Step}
use Rattle.modbus.specs.Paper.{transport, told, bad_transport, proto_asked}
use Rattle.modbus.specs.declared.ErrorKind.{ErrorKind}
use Rattle.modbus.specs.declared.ModbusProto.{ModbusProto}
use Rattle.modbus.proofs.StepLaws.{pick_yes, pick_no}
use Rattle.modbus.proofs.PaperLaws.{proto_found, proto_refused}
use Rattle.lengths.specs.Guess.{guess_under}
use Rattle.dalonjang.specs.Numbered.{guessed}

module _ (hex : ℕ) (body : List ℕ → Step ErrorKind ℕ) (n : ℕ) (f : List ℕ) where
  pub unswitched : ¬ (hex ≤ 1) → ◌≡◌ {A = ℕ × ℕ} (21, 0) (guessed hex body n f)
  unfolding guessed
  unswitched h = sym (pick_no _ _ _ h)

  module _ (low : hex ≤ 1) where
    pub numbered : (a : ℕ × ℕ) (p : ModbusProto) → ◌≡◌ {A = ℕ × ℕ} (0, transport p) (proto_asked n) → a ≡ told (guess_under hex body p f)
        → a ≡ guessed hex body n f
    unfolding guessed
    numbered a p e q =
        let (h, k) = proto_found n p e in
        q ∙ ap (λ (x : ModbusProto). told (guess_under hex body x f)) k ∙ sym (pick_yes _ _ _ low ∙ pick_yes _ _ _ h)

    pub unnumbered : bad_transport ≡ proto_asked n → bad_transport ≡ guessed hex body n f
    unfolding guessed
    unnumbered e = sym (pick_yes _ _ _ low ∙ pick_no _ _ _ (proto_refused n e))
