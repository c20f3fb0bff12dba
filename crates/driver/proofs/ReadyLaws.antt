-- A verdict is ready to be carried out, and its reply's body fits every frame.
-- Assumes nothing.
use mathlib.Core.Bool.{Bool, true, false}
use mathlib.Core.Path.{◌≡◌, sym, ap, ◌∙◌}
use mathlib.Core.List.{List}
use Prim.Native.Nat.{ℕ, ◌≤◌}
use native.Mathlib.Omega.{arith}
use lib.ListN.{length, length-take}
use Rattle.std.specs.Prelude.{Option, None, Some, Ok, Err}
use Rattle.modbus.specs.Table.{Kind, word, Tab, coils, discretes, holdings, inputs, kind_of, part}
use Rattle.modbus.specs.Request.{reads, code, tab_of, octets, shown}
use Rattle.modbus.specs.Storage.{register_at}
use Rattle.modbus.proofs.StorageLaws.{length_part}
use Rattle.modbus.proofs.AnswerLaws.{length_shown}
use Rattle.tables.specs.Lent.{Lent, tables_of}
use Rattle.requests.specs.Judged.{Verdict, spoken}
use Rattle.requests.specs.declared.Request.TheVariants as request
use Rattle.requests.specs.declared.Code.{Code}
use Rattle.requests.proofs.JudgedLaws.{tab_of_law}
use Rattle.requests.proofs.FineLaws.{Told, Fine}
use Rattle.driver.specs.Driven.{Call, setup_of}
use Rattle.driver.specs.Serving.{SaysReady, Ready, swapped_by, saying, echoed, serving}
use Rattle.driver.proofs.ReadLaws.{octets_most}

read_range : (t : Tab) → (1 ≤ code (reads t)) × (code (reads t) ≤ 4)
read_range coils = omega arith
read_range discretes = omega arith
read_range holdings = omega arith
read_range inputs = omega arith

told_ready : (b : List ℕ) (o : Option Code) → Told b o → 2 ≤ length b → SaysReady b o
told_ready b None f h = tt
told_ready b (Some c) f h = (h, f)

said_brief : (b : List ℕ) (o : Option Code) → length (saying b o) ≤ 253
said_brief b None = omega arith
said_brief b (Some c) = omega arith

echo_brief : (x : Bool) (n : ℕ) (b : List ℕ) → n ≤ 253 → length (echoed x n b) ≤ 253
echo_brief true n b h = omega arith
echo_brief false n b h = simp length-take (omega arith)

module _ (lent : Call) (x : Bool) (b : List ℕ) where
  pub ready : (v : Verdict) → Fine (setup_of lent) x b v → 2 ≤ length b → Ready lent.tables b v
  ready (Ok (request.Read q)) f h =
      let e : tab_of q.function ≡ f.tab = ap tab_of f.function ∙ tab_of_law f.tab in
      let r = read_range f.tab in
      record { numbered = f.numbered ∙ sym f.function; first = rw f.function r.0; last = rw f.function r.1; most = rw e f.most; inside = rw e f.inside; whole = h }
  ready (Ok (request.WriteBits c)) f h = record { inside = f.inside; held = f.held; single = f.single; whole = f.whole }
  ready (Ok (request.WriteWords c)) f h = record { inside = f.inside; held = f.held; single = f.single; whole = f.whole }
  ready (Ok (request.Mask m)) f h = record { inside = f.inside; whole = omega (arith, f.whole) }
  ready (Ok (request.Exchange x)) f h = record { most = f.most; inside = f.inside; within = f.within; held = omega (arith, f.held) }
  ready (Err r) f h = told_ready b (spoken r) f.1 h

shown_length : (k : Kind) (s n : ℕ) (f : ℕ → ℕ) → length (shown k (part f s n)) ≡ octets k n
shown_length k s n f = length_shown k (part f s n) ∙ ap (octets k) (length_part f s n)

-- and its reply's body fits every frame
pub brief : (l : Lent) (x : Bool) (b : List ℕ) (v : Verdict) → Ready l b v → length (serving l x b v).body ≤ 253
brief l x b (Ok (request.Read q)) r =
    let t = tab_of q.function in
    omega (arith, octets_most (kind_of t) q.count r.most, shown_length (kind_of t) q.address q.count (tables_of l t))
brief l x b (Ok (request.WriteBits c)) r = echo_brief x 6 b (omega arith)
brief l x b (Ok (request.WriteWords c)) r = echo_brief x 6 b (omega arith)
brief l x b (Ok (request.Mask m)) r = echo_brief x 8 b (omega arith)
brief l x b (Ok (request.Exchange y)) r =
    omega (
      arith,
      octets_most word y.read_count r.most,
      shown_length word y.read_address y.read_count (register_at (swapped_by y b l.holding_bytes)),
    )
brief l x b (Err y) r = said_brief b (spoken y)
