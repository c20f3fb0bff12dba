-- Lower-case digits (document 02, 2026-06): what an encoding in either case is, that both readings are one request, and that strict is as before.
-- Assumes nothing.
use mathlib.Core.Logic.{◌⊎◌, inl, inr, ◌↔◌}
use mathlib.Core.Path.{◌≡◌, refl, sym, ap, ◌∙◌}
use mathlib.Core.List.{List, [], ◌∷◌, map}
use Prim.Native.Nat.{ℕ, ◌+◌}
use native.Mathlib.Omega.{arith}
use Rattle.modbus.specs.Step.{◌≤?◌, ◌and?◌}
use Rattle.modbus.specs.Bytes.{All, Bytes}
use Rattle.modbus.specs.Table.{Tables}
use Rattle.modbus.specs.Hex.{raised, spell, spelt}
use Rattle.modbus.specs.Setup.{Setup, proto, Valid, Roomy}
use Rattle.modbus.specs.Decode.{spelled_in}
use Rattle.modbus.specs.Drive.{spelled, judge, drive}
use Rattle.modbus.proofs.HexLaws.{Capital, Small, raised_small, raised_other}
use Rattle.modbus.proofs.FrameLaws.{spelled_strict}
use Rattle.demands.specs.Demand.{Request, Serves}
use Rattle.demands.proofs.Third.{demand_3}

-- ---- either case in each digit

-- the same characters, where each letter of the second may be small in the first
abbrev pub EitherCase : List ℕ → List ℕ → Type 0
EitherCase [] [] = Unit {0}
EitherCase [] (d ∷ g) = ⊥
EitherCase (c ∷ f) [] = ⊥
EitherCase (c ∷ f) (d ∷ g) = ((c ≡ d) ⊎ (Capital d × (c ≡ d + 32))) × EitherCase f g

raised_either : (c d : ℕ) → raised c ≡ d → (c ≡ d) ⊎ (Capital d × (c ≡ d + 32))
raised_either c d e = by ((97 ≤? c) and? (c ≤? 102))
  where
    by : Dec (Small c) → (c ≡ d) ⊎ (Capital d × (c ≡ d + 32))
    by (yes q) = let r = raised_small c q.0 q.1 in inr ((omega (arith, q), omega (arith, q)), omega (arith, q))
    by (no n) = inl (sym (raised_other c n) ∙ e)

either_raised : (c d : ℕ) → ¬ Small d → (c ≡ d) ⊎ (Capital d × (c ≡ d + 32)) → raised c ≡ d
either_raised c d n (inl e) = rw e (raised_other d n)
either_raised c d n (inr (p, e)) =
    raised_small c (omega (arith, p)) (omega (arith, p)) ∙ omega (arith, p)

-- a lenient reading takes a frame for the encoding `g`, which has no small letter, exactly if it is that up to the case of its letters
pub either_case : (f g : List ℕ) → All (λ c. ¬ Small c) g → (spelt 1 f ≡ g) ↔ EitherCase f g
unfolding spell spelt
either_case [] [] n = (λ e. tt, λ e. refl)
either_case [] (d ∷ g) n = (λ e. let z : ◌≡◌ {A = ℕ} 0 1 = cc in absurd (omega arith), λ e. absurd e)
either_case (c ∷ f) [] n = (λ e. let z : ◌≡◌ {A = ℕ} 0 1 = cc in absurd (omega arith), λ e. absurd e)
either_case (c ∷ f) (d ∷ g) n = (
  λ e.
      let p : raised c ≡ d = cc in
      let q : map raised f ≡ g = cc in
      (raised_either c d p, (either_case f g n.1).0 q),
  λ (p, q). rw (either_raised c d n.0 p, (either_case f g n.1).1 q),
)

-- ---- both readings are one request

module _ (s : Setup) (f g : List ℕ) (e : spelled s f ≡ spelled s g) where
  -- the same outcome, code, reply and tables, whatever the setup
  pub one_request : (t : Tables) → drive s t f ≡ drive s t g
  unfolding judge drive
  one_request t = rw e

  pub serves_both : (q : Request) → Serves s f q → Serves s g q
  serves_both q h =
      record {
        permitted = h.permitted;
        encoded = (h.encoded.0, h.encoded.1, rw e at h.encoded.2);
        inside = h.inside;
        addressed = h.addressed;
      }

  pub same_both : Bytes g → Valid s → Roomy s → (p q : Request) → Serves s f p → Serves s g q → p ≡ q
  same_both y v r p q h k = (demand_3 s (λ tab i. 0) g y v r).same p q (serves_both p h) k

-- ---- strict is as before

pub strict_same : (s : Setup) (f : List ℕ) → s.hex ≡ 0 → spelled s f ≡ f
strict_same s f e = ap (λ (h : ℕ). spelled_in (proto s) h f) e ∙ spelled_strict (proto s) f
