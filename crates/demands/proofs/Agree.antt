-- The customer's third demand leaves one possible result: a driver that meets it is the driver, wherever the demand speaks.
-- Assumes nothing.
use mathlib.Core.Logic.{by_cases}
use mathlib.Core.Path.{◌≡◌, sym, ◌∙◌, fun_ext}
use mathlib.Core.List.{List}
use Prim.Native.Nat.{ℕ, suc}
use native.Mathlib.Decide.{dec_le}
use Rattle.modbus.specs.Bytes.{Bytes}
use Rattle.modbus.specs.Table.{Tables}
use Rattle.modbus.specs.Setup.{Setup, Valid, Roomy}
use Rattle.modbus.specs.Unit.{broadcast?}
use Rattle.modbus.specs.Drive.{Result, drive}
use Rattle.demands.specs.Demand.{Request, Serves, Demand3}
use Rattle.demands.specs.Impostors.{Driver, Meets}
use Rattle.demands.proofs.CellLaws.{same_cells}
use Rattle.demands.proofs.Exactly.{one_refusal}
use Rattle.demands.proofs.Third.{demand_3}

-- the fields of a result are all of it
same_result : (x z : Result) → (x.outcome ≡ z.outcome) × (x.exception_code ≡ z.exception_code) × (x.reply ≡ z.reply) → x.after ≡ z.after
    → x.changed ≡ z.changed → x ≡ z
same_result x z h e c = λ i. record { outcome = h.0 i; exception_code = h.1 i; reply = h.2 i; after = e i; changed = c i }

module _ (s : Setup) (t : Tables) (f : List ℕ) (y : Bytes f) (x z : Result) (h : Demand3 s t f x) (k : Demand3 s t f z) where
  both_served : (q : Request) → Serves s f q → x ≡ z
  both_served q v =
      let e : x.after ≡ z.after = same_cells (h.written q v) (k.written q v) in
      let n : x.changed ≡ z.changed = h.named q v ∙ sym (k.named q v) in
      by_cases (broadcast? s q.unit)
      (λ b.
      let (o, c, r) = h.silent q v b in
      let (o', c', r') = k.silent q v b in
      same_result x z (o ∙ sym o', c ∙ sym c', r ∙ sym r') e n)
      (λ own.
      let (o, c, r) = h.answered q v own in
      let (o', c', r') = k.answered q v own in
      same_result x z (o ∙ sym o', c ∙ sym c', (rw e at r) ∙ sym r') e n)

  pub agree : x ≡ z
  agree =
      by_cases (dec_le (suc x.outcome) 2)
      (λ low. let (q, v) = h.served.0 low in both_served q v)
      (λ high.
      let none : ¬ ((q : Request) × Serves s f q) = λ q. high (h.served.1 q) in
      same_result x z (one_refusal s f y (h.refused none) (k.refused none))
      (fun_ext λ tab. fun_ext λ i. h.kept none tab i ∙ sym (k.kept none tab i))
      (h.nameless none ∙ sym (k.nameless none)))

-- a driver that meets the demand is the driver
pub only : (D : Driver) → Meets D → (s : Setup) (t : Tables) (f : List ℕ) → Bytes f → Valid s → Roomy s → D s t f ≡ drive s t f
only D m s t f y v r = agree s t f y _ _ (m s t f y v r) (demand_3 s t f y v r)

pub drive_meets : Meets drive
drive_meets s t f y v r = demand_3 s t f y v r
