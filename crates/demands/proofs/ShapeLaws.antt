-- A frame is broken exactly if it has not the shape, and fails the check exactly if it has the shape but is no frame around any body.
-- Assumes nothing.
use mathlib.Core.Logic.{◌⊎◌, inl, inr, ◌↔◌, by_cases}
use mathlib.Core.Path.{◌≡◌, ◌∙◌}
use mathlib.Core.List.{List}
use Prim.Native.Nat.{ℕ, ◌+◌}
use native.Mathlib.Omega.{arith}
use lib.ListN.{length, take, drop, get_or}
use Rattle.modbus.specs.Step.{stop, go, ◌>>◌, need, ◌≤?◌, ◌≟◌, ◌and?◌}
use Rattle.modbus.specs.Bytes.{Bytes, word_at}
use Rattle.modbus.specs.Frame.{Framed}
use Rattle.modbus.specs.Decode.{Message, Silent, frame_broken_quiet, frame_check_quiet, unwrap}
use Rattle.modbus.specs.declared.ModbusProto.{ModbusProto}
use Rattle.modbus.specs.declared.ModbusProto.TheVariants.{Rtu, Ascii, TcpUdp}
use Rattle.modbus.proofs.StepLaws.{pass, fail, tested}
use Rattle.modbus.proofs.FrameLaws.{ascii_shape, ascii_check, sound, complete}
use Rattle.demands.specs.Order.{Shaped}

-- ---- shape first, then the check

shape : (p : ModbusProto) (f : List ℕ) → Shaped p f ⊎ (unwrap p f ≡ stop frame_broken_quiet)
unfolding unwrap
shape Rtu f = by_cases ((4 ≤? length f) and? (length f ≤? 256)) (λ h. inl (h.0, h.1)) (λ n. inr (fail _ _ _ n))
shape Ascii f = ascii_shape f
shape TcpUdp f =
    by_cases ((8 ≤? length f) and? (length f ≤? 260) and? (get_or f 2 0 ≟ 0) and? (get_or f 3 0 ≟ 0) and? (word_at f 4 + 6 ≟ length f))
    (λ h. inl (h.0, h.1.0, h.1.1.0, h.1.1.1.0, h.1.1.1.1))
    (λ n. inr (fail _ _ _ n))

abbrev Checked : ModbusProto → List ℕ → Type 0
Checked p f = (unwrap p f ≡ stop frame_check_quiet) ⊎ ((m : Message) × (unwrap p f ≡ go m))

-- a run whose last test is the check
by_check : {P : Type 0} (p : ModbusProto) (f : List ℕ) (d : Dec P) (m : Message) → unwrap p f ≡ (need d frame_check_quiet >> go m) → Checked p f
by_check p f d m e = tested d frame_check_quiet m (λ q. inl (e ∙ q)) (λ q. inr (m, e ∙ q))

check : (p : ModbusProto) (f : List ℕ) → Shaped p f → Checked p f
unfolding unwrap
check Rtu f h = by_check Rtu f _ _ (pass _ _ _ (h.0, h.1))
check Ascii f (l, y, low, high, e) = by_check Ascii f _ _ (ascii_check f l y low high e)
check TcpUdp f h = inr (record { tag = take 2 f; body = drop 6 f }, pass _ _ _ (h.0, (h.1, (h.2, (h.3, h.4)))))

-- ---- and so each is given exactly on its condition

module _ (p : ModbusProto) (f : List ℕ) where
  pub broken : (unwrap p f ≡ stop frame_broken_quiet) ↔ (¬ Shaped p f)
  broken = (λ e h. whole e (check p f h), λ n. elim (shape p f) [ inl h ↦ absurd (n h) | inr e ↦ e ])
    where
      whole : unwrap p f ≡ stop frame_broken_quiet → Checked p f → ⊥
      whole e (inl q) = let z : ◌≡◌ {A = ℕ} 0 1 = cc in omega arith
      whole e (inr (m, q)) = let z : ◌≡◌ {A = ℕ} 0 1 = cc in omega arith

  pub unchecked : Bytes f → (unwrap p f ≡ stop frame_check_quiet) ↔ (Shaped p f × ((tag body : List ℕ) → ¬ Framed p tag body f))
  unchecked y = (λ e. (shaped e (shape p f), λ tag body h. framed e (complete p tag body f h)), λ (h, n). none n (check p f h))
    where
      shaped : unwrap p f ≡ stop frame_check_quiet → Shaped p f ⊎ (unwrap p f ≡ stop frame_broken_quiet) → Shaped p f
      shaped e (inl h) = h
      shaped e (inr q) = let z : ◌≡◌ {A = ℕ} 0 1 = cc in absurd (omega arith)

      framed : {m : Message} → unwrap p f ≡ stop frame_check_quiet → unwrap p f ≡ go m → ⊥
      framed e q = let z : ◌≡◌ {A = ℕ} 0 1 = cc in omega arith

      none : ((tag body : List ℕ) → ¬ Framed p tag body f) → Checked p f → unwrap p f ≡ stop frame_check_quiet
      none n (inl q) = q
      none n (inr (m, q)) = absurd (n m.tag m.body (sound p f m y q))

  -- there is no other fault
  pub faults : (o : Silent) → unwrap p f ≡ stop o → (o ≡ frame_broken_quiet) ⊎ (o ≡ frame_check_quiet)
  faults o e = first (shape p f)
    where
      second : Checked p f → (o ≡ frame_broken_quiet) ⊎ (o ≡ frame_check_quiet)
      second (inl q) = inr cc
      second (inr (m, q)) = let z : ◌≡◌ {A = ℕ} 0 1 = cc in absurd (omega arith)

      first : Shaped p f ⊎ (unwrap p f ≡ stop frame_broken_quiet) → (o ≡ frame_broken_quiet) ⊎ (o ≡ frame_check_quiet)
      first (inl h) = second (check p f h)
      first (inr q) = inl cc
