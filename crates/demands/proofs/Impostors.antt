-- No impostor of document 01 meets the customer's third demand, and none that takes one of its wrong turns. Most are told from the driver by
-- one frame, since a driver that meets the demand is the driver.
-- Assumes nothing.
use mathlib.Core.Logic.{◌⊎◌, inl, inr, ◌≢◌}
use mathlib.Core.Path.{◌≡◌, ap, sym, ◌∙◌}
use mathlib.Core.List.Memᴰ
use mathlib.Core.List.{List, [], ◌∷◌}
use Prim.Native.Nat.{ℕ, ◌-◌, ◌%◌, ◌≤◌, ◌<◌}
use native.Mathlib.Omega.{arith}
use lib.ListN.{length, take, drop, get_or, length-replicate}
use Rattle.modbus.specs.Bytes.{Bytes, pack}
use Rattle.modbus.specs.Table.{bit, Tables, Tab, coils, holdings, every, part}
use Rattle.modbus.specs.Paper.{range_paper}
use Rattle.modbus.specs.Storage.{coil_at, values}
use Rattle.modbus.specs.Frame.{Framed}
use Rattle.modbus.specs.Setup.{Setup, proto, Valid, Roomy}
use Rattle.modbus.specs.Decode.{crc_bytes, unwrap, spelled_in}
use Rattle.modbus.specs.Drive.{spelled, drive}
use Rattle.modbus.specs.declared.ModbusProto.{ModbusProto}
use Rattle.modbus.specs.declared.ModbusProto.TheVariants.{Rtu}
use Rattle.modbus.proofs.StepLaws.{needed}
use Rattle.modbus.proofs.FrameLaws.{complete}
use Rattle.driver.specs.Driven.{Call, setup_of, Leaves}
use Rattle.demands.specs.Demand.{Request, Serves}
use Rattle.demands.specs.Changed.{Steady}
use Rattle.demands.specs.Order.{no_room, frame_check}
use Rattle.demands.specs.Cases.{setup, start, case_d, case_f}
use Rattle.demands.specs.Impostors.{Driver, Meets, asking, beyond, across}
use Rattle.demands.specs.Promised.{Promised}
use Rattle.demands.proofs.CellLaws.{outside}
use Rattle.demands.proofs.Exactly.{one_refusal}
use Rattle.modbus.proofs.Bounds.{computing}
use Rattle.demands.proofs.Agree.{only}

abbrev fresh : Tables
fresh = start (0x00 ∷ 0x00 ∷ [])

-- an RTU frame whose last two bytes are not the CRC of all before is a frame around nothing
unframed : (f : List ℕ) → drop (length f - 2) f ≢ crc_bytes (take (length f - 2) f) → (tag body : List ℕ) → ¬ Framed Rtu tag body f
unfolding unwrap
unframed f n tag body h = needed _ _ _ (complete Rtu tag body f h) λ p e. needed _ _ _ e λ q _. n q

module _ (D : Driver) where
  on_tcp : Meets D → (t : Tables) (f : List ℕ) → Bytes f → D (setup 2) t f ≡ drive (setup 2) t f
  on_tcp m t f y = only D m (setup 2) t f y (record { transport = omega arith; hex = omega arith; held = every _ (omega arith) })
      (omega (arith, length-replicate {A = ℕ} 511 0))

  -- ---- impostors

  -- refusing everything: a served request has its own answer
  pub refusing_everything : ((s : Setup) (t : Tables) (f : List ℕ) → 2 ≤ (D s t f).outcome) → ¬ Meets D
  unfolding computing
  refusing_everything h m =
      let e : 2 ≤ 0 = rw (on_tcp m fresh (asking 7) (omega arith)) at (h (setup 2) fresh (asking 7)) in
      omega arith

  -- replying the same always: likewise
  pub replying_the_same : (r : List ℕ) → ((s : Setup) (t : Tables) (f : List ℕ) → (D s t f).reply ≡ r) → ¬ Meets D
  unfolding computing
  replying_the_same r h m = omega (arith, numbered 7 (omega arith), numbered 8 (omega arith))
    where
      numbered : (n : ℕ) → n < 65536 → get_or r 1 0 ≡ n % 256
      numbered n small =
          ap (λ l. get_or l 1 0)
          (sym (h (setup 2) fresh (asking n)) ∙ ap (λ x. x.reply) (on_tcp m fresh (asking n) (omega arith)))

  -- touching no table: caught by the written cells
  pub touching_no_table : ((s : Setup) (t : Tables) (f : List ℕ) (tab : Tab) (i : ℕ) → (D s t f).after tab i ≡ t tab i) → ¬ Meets D
  unfolding computing
  touching_no_table h m =
      let e : ◌≡◌ {A = ℕ} 1 0 = rw (on_tcp m fresh case_d (omega arith)) at (h (setup 2) fresh case_d coils 9) in
      omega arith

  -- naming a whole table always: a served request has its own range
  pub naming_the_whole_table : ((s : Setup) (t : Tables) (f : List ℕ) → (tab : Tab) × ((D s t f).changed ≡ record { tab = tab; first = 0; count = s.cells tab } ∷ []))
      → ¬ Meets D
  unfolding computing
  naming_the_whole_table h m =
      let e : ◌≡◌ {A = ℕ} 0 9 =
      ap (λ l. (range_paper l).1) (sym (h (setup 2) fresh case_d).1 ∙ ap (λ x. x.changed) (on_tcp m fresh case_d (omega arith))) in
      omega arith

  -- naming nothing, and writing all the same: the cell outside what is named is not the same
  pub naming_nothing : (s : Setup) (t : Tables) (f : List ℕ) → (D s t f).changed ≡ [] → (tab : Tab) (i : ℕ) → (D s t f).after tab i ≢ t tab i
      → ¬ Steady t (D s t f)
  naming_nothing s t f e tab i n h = n (h tab i (rw e (λ r m _. Memᴰ.not-nil m)))

  -- ---- wrong turns

  -- checking function 16's byte count but storing up to it before testing the range
  pub storing_first : (t : Tables) (v w : ℕ) → v < 65536 → w < 65536
      → (D (setup 2) t (across v w)).after holdings 3 ≢ t holdings 3 → ¬ Meets D
  unfolding computing
  storing_first t v w low high h m = h (ap (λ x. x.after holdings 3) (on_tcp m t (across v w) (omega arith)))

  -- copying whole coil bytes and so losing neighbours (case f from FF FF)
  pub copying_whole_bytes : pack (part ((D (setup 2) (start (0xFF ∷ 0xFF ∷ [])) case_f).after coils) 0 16) ≡ 0x68 ∷ 0x0E ∷ [] → ¬ Meets D
  unfolding computing
  copying_whole_bytes h m =
      let e : ◌≡◌ {A = ℕ} 0x6F 0x68 = ap (λ l. get_or l 0 0) (rw (on_tcp m (start (0xFF ∷ 0xFF ∷ [])) case_f (omega arith)) at h) in
      omega arith

  -- the same from any tables: a coil outside 3 to 12
  pub losing_a_neighbour : (t : Tables) (i : ℕ) → ¬ ((3 ≤ i) × (i < 13)) → (D (setup 2) t case_f).after coils i ≢ t coils i → ¬ Meets D
  unfolding computing
  losing_a_neighbour t i out h m =
      let ten = outside (record { tab = coils; first = 3; count = 10 }) (values bit 10 (0xCD ∷ 0x01 ∷ [])) t coils i (λ w. out w.1) in
      h (ap (λ x. x.after coils i) (on_tcp m t case_f (omega arith)) ∙ ten)

  -- testing start + count in 16 bits, where 65,535 + 1 wraps
  pub wrapping_the_sum : (t : Tables) → (D (setup 2) t beyond).outcome < 2 → ¬ Meets D
  unfolding computing
  wrapping_the_sum t h m =
      let e : 2 < 2 = rw (on_tcp m t beyond (omega arith)) at h in
      omega arith

  -- answering a frame with a bad CRC because its function is unknown, or whatever its function
  pub answering_unchecked : (s : Setup) (t : Tables) (f : List ℕ) → Bytes f → Valid s → Roomy s → proto s ≡ Rtu
      → 4 ≤ length f → length f ≤ 256 → drop (length f - 2) f ≢ crc_bytes (take (length f - 2) f) → (D s t f).reply ≢ [] → ¬ Meets D
  answering_unchecked s t f y v r e low high n h m =
      let same : spelled s f ≡ f = ap (λ (p : ModbusProto). spelled_in p s.hex f) e in
      let bad : (tag body : List ℕ) → ¬ Framed (proto s) tag body (spelled s f) = rw (same, e) (unframed f n) in
      let none : ¬ ((q : Request) × Serves s f q) = λ (q, w). bad _ _ w.encoded.2 in
      h (one_refusal s f y ((m s t f y v r).refused none) (frame_check v r (rw (same, e) (low, high)) bad)).2

-- ---- calls on bytes, which the demand alone does not tell from the driver: it asks for a valid setup with reply room

module _ (l : Call) (g : Leaves) where
  -- refusing by its number, and storing all the same
  pub refusing_but_storing : 2 ≤ g.result.outcome → (g.coil_bytes ≢ l.tables.coil_bytes) ⊎ (g.holding_bytes ≢ l.tables.holding_bytes)
      → ¬ Promised l g
  refusing_but_storing high (inl n) p = n (p.unchanged high).0
  refusing_but_storing high (inr n) p = n (p.unchanged high).1

  -- naming nothing by its numbers, and storing all the same
  pub storing_unnamed : g.result.table ≡ 0 → (i : ℕ) → coil_at g.coil_bytes i ≢ coil_at l.tables.coil_bytes i → ¬ Promised l g
  storing_unnamed e i n p = n (p.held.bits i (λ h. let z : ◌≡◌ {A = ℕ} 0 1 = sym e ∙ h.0 in omega arith))

  -- serving where there is no room for the reply
  pub serving_without_room : Valid (setup_of l) → ¬ Roomy (setup_of l) → g.result.outcome < 2 → ¬ Promised l g
  serving_without_room v n low p =
      let e = ap (λ (x : Leaves). x.result.outcome) ((p.refused 9 0 [] (omega arith)).0 (no_room v n)) in
      omega arith
