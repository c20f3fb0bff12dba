-- What demand 3 comes to for function 22, bit by bit, and for function 23: both ranges inside, or nothing is done.
-- Assumes nothing.
use mathlib.Core.Path.{◌≡◌, refl, ap, ◌∙◌}
use mathlib.Core.List.Memᴰ
use mathlib.Core.List.{List, ◌∷◌}
use Prim.Native.Nat.{ℕ, ◌+◌, ◌≤◌, ◌<◌}
use native.Mathlib.Omega.{arith}
use lib.ListN.{length}
use Rattle.modbus.specs.Step.{choose, ◌≟◌}
use Rattle.modbus.specs.Bytes.{Bytes}
use Rattle.modbus.specs.Table.{Tab, holdings, Tables}
use Rattle.modbus.specs.Request.{both, masks, swaps, exception}
use Rattle.modbus.specs.Frame.{wrap}
use Rattle.modbus.specs.Setup.{Setup, proto}
use Rattle.modbus.specs.Decode.{Message, unit_of, number_of}
use Rattle.modbus.specs.Drive.{Inside, Result, drive}
use Rattle.modbus.proofs.BitLaws.{bit_at}
use Rattle.modbus.proofs.MaskLaws.{masked_bit}
use Rattle.demands.specs.Demand.{Serves, Demand3}
use Rattle.demands.specs.Order.{Known, Asks, exception_sent, bad_address}
use Rattle.demands.proofs.Judge.{Returns, refusal_returns}
use Rattle.demands.proofs.Exactly.{unchanged}

-- a frame that is served as a mask write leaves each bit of its holding as it was where the AND mask has a one, and else as the OR mask has it
pub mask_by_bits : (s : Setup) (t : Tables) (f : List ℕ) (r : Result) → Demand3 s t f r → (tag : List ℕ) (unit a x y : ℕ)
    → Serves s f (record { tag = tag; unit = unit; ask = masks a x y })
    → (i : ℕ) → i < 16 → bit_at (r.after holdings a) i ≡ choose (bit_at x i ≟ 1) (bit_at (t holdings a) i) (bit_at y i)
mask_by_bits s t f r d tag unit a x y h i k =
    ap (λ (v : ℕ). bit_at v i) (ap (r.after holdings) (omega arith) ∙ (d.written _ h).holds _ (Memᴰ.head refl) 0 (omega arith))
    ∙ masked_bit (t holdings a) x y i h.permitted.0 k

-- a frame that asks to write and read where either range is not inside gets code 2, and changes no cell
module _ (s : Setup) (t : Tables) (f : List ℕ) (bytes : Bytes f) (m : Message) (r n w : ℕ) (vs : List ℕ) (known : Known s f m both)
    (asks : Asks m (swaps r n w vs)) (out : ¬ ((r + n ≤ s.cells holdings) × (w + length vs ≤ s.cells holdings))) where
  outside : ¬ Inside s (swaps r n w vs)
  outside h = out (h.0, h.1.0)

  refused : Returns s t f 2 2 (wrap (proto s) m.tag (unit_of m ∷ exception (number_of m) 2))
  refused = refusal_returns s t f bytes (bad_address m (swaps r n w vs) known asks outside (exception_sent 2 (λ b. known.heeded (b, tt))))

  pub both_or_nothing : Returns s t f 2 2 (wrap (proto s) m.tag (unit_of m ∷ exception (number_of m) 2))
      × ((tab : Tab) (i : ℕ) → (drive s t f).after tab i ≡ t tab i)
  both_or_nothing = (refused, unchanged s t f (omega (arith, refused.0)))
