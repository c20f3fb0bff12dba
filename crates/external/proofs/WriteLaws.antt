-- Each way out of what the firmware is to write.
-- Assumes nothing.
use mathlib.Core.Bool.{Bool, true, false}
use mathlib.Core.Path.{◌≡◌, refl, sym, ap, ◌∙◌}
use mathlib.Core.List.{List, [], ◌∷◌}
use Prim.Native.Nat.{ℕ, ◌+◌, ◌/◌, ◌≤◌, ◌<◌}
use native.Mathlib.Omega.{arith}
use lib.ListN.{length}
use Rattle.std.specs.Prelude.{IsErrAnd, Result, Ok, Err, ⊤}
use Rattle.modbus.specs.Step.{stop, go, choose}
use Rattle.modbus.specs.Table.{Kind, bit}
use Rattle.modbus.specs.Paper.{told, done_paper, paper}
use Rattle.modbus.specs.declared.ErrorKind.{ErrorKind}
use Rattle.modbus.specs.declared.ErrorKind.TheVariants.{OOB, FrameBroken, IllegalDataValue}
use Rattle.modbus.proofs.StepLaws.{pass, fail, follow, halt, bound, needed}
use Rattle.modbus.proofs.StepLaws.{pick_yes, pick_no, test_refuses, test_passes}
use Rattle.modbus.proofs.PaperLaws.{told_same, number_some, handed_on}
use Rattle.outgoing.specs.Grow.{largest}
use Rattle.frame.specs.State.{After, refused, left_paper}
use Rattle.frame.specs.Parse.{second_word}
use Rattle.process.specs.Process.{legal?, data_behind}
use Rattle.external.specs.External.{described, write_described, without, described_by}
use Rattle.frame.specs.Changes.{kind_number}
use Rattle.external.specs.External.{error_set}
use Rattle.external.specs.External.{indexed, value_refused, coil_described, holding_described, data_len, many_described}
use Rattle.frame.specs.declared.ModbusFrame.{ModbusFrame}
use Rattle.external.specs.declared.Write.{Write}
use Rattle.frame.proofs.ParseLaws.{leave, stay, check_refused, check_done}

-- ---- a refusal that `?` hands on

pub write_handed : (r : Result Write ErrorKind) (k : ErrorKind) (s : ModbusFrame) (out : List ℕ) → IsErrAnd r (λ e. e ≡ k)
    → write_described r s out ≡ without (refused k s out)
write_handed r k s out h = ap (λ (a : Result Write ErrorKind). write_described a s out) (handed_on r h)

-- ---- the bytes of a write

module _ (buf : List ℕ) (start a e : ℕ) where
  pub indexed_far : largest < start + a → indexed buf start a e ≡ stop OOB
  unfolding indexed
  indexed_far h = fail _ _ _ (λ k. omega arith)

  pub indexed_beyond : start + a ≤ largest → length buf < start + e → indexed buf start a e ≡ stop FrameBroken
  unfolding indexed
  indexed_beyond h i = pass _ _ _ h ∙ fail _ _ _ (λ k. omega arith)

  pub indexed_all : start + a ≤ largest → start + e ≤ length buf → indexed buf start a e ≡ go 0
  unfolding indexed
  indexed_all h i = pass _ _ _ h ∙ pass _ _ _ i

  pub index_done : (r : Result ⊤ ErrorKind) → done_paper r ≡ told (indexed buf start a e) → r ≡ (Ok tt)
      → start + e ≤ length buf
  unfolding indexed
  index_done r p q =
      needed _ _ _ (told_same (indexed buf start a e) (go 0) (sym p ∙ ap done_paper q)) λ h p₁. needed _ _ _ p₁ λ i p₂. i

-- ---- a coil's value

-- x, t and l are what the call that sets the error answered and left
module _ (a : After) (x : Result ⊤ ErrorKind) (t : ModbusFrame) (l : List ℕ) (e : left_paper x t l ≡ a) where
  pub illegal_full : (k : ErrorKind) → x ≡ Err k → value_refused a ≡ without (refused k t l)
  illegal_full k q = rw (← e, q) (pick_no _ _ _ (number_some k))

  pub illegal_set : x ≡ Ok tt → value_refused a ≡ without (refused IllegalDataValue t l)
  illegal_set q = rw (← e, q) (pick_yes _ _ _ refl)

module _ (s : ModbusFrame) (buf out : List ℕ) (r : Result ⊤ ErrorKind)
    (e : done_paper r ≡ told (indexed buf s.frame_start 4 6)) where
  pub coil_refused : (k : ErrorKind) → r ≡ Err k → coil_described s buf out ≡ without (refused k s out)
  unfolding coil_described
  coil_refused k q = ap described_by (check_refused s out _ _ r e k q)

  -- v is the value, and t whether it is value_refused
  module _ (q : r ≡ (Ok tt)) (v : ℕ) (w : v ≡ second_word s buf) (t : Bool)
      (p : t ≡ choose (legal? bit v) false true) where
    pub coil_illegal : t ≡ true → coil_described s buf out ≡ value_refused (error_set s.error 3 s out)
    unfolding coil_described
    coil_illegal z =
        ap described_by (check_done s out _ _ r e q) ∙ rw (← w) (pick_no _ _ _ (test_refuses (legal? bit v) t p z))

    pub coil_wanted : t ≡ false → coil_described s buf out ≡ described (0, 0 ∷ s.reg ∷ 1 ∷ 0 ∷ v / 0xFF00 ∷ []) s out
    unfolding coil_described
    coil_wanted z =
        ap described_by (check_done s out _ _ r e q) ∙ rw (← w) (pick_yes _ _ _ (test_passes (legal? bit v) t p z))

-- ---- the other writes

module _ (s : ModbusFrame) (buf out : List ℕ) (r : Result ⊤ ErrorKind)
    (e : done_paper r ≡ told (indexed buf s.frame_start 6 6)) where
  pub holding_refused : (k : ErrorKind) → r ≡ Err k → holding_described s buf out ≡ without (refused k s out)
  unfolding holding_described
  holding_refused k q = ap described_by (check_refused s out _ _ r e k q)

  pub holding_wanted : r ≡ Ok tt
      → holding_described s buf out ≡ described (0, 1 ∷ s.reg ∷ 1 ∷ 1 ∷ (s.frame_start + 4) ∷ 2 ∷ []) s out
  unfolding holding_described
  holding_wanted q = ap described_by (check_done s out _ _ r e q)

module _ (s : ModbusFrame) (buf : List ℕ) (r : Result ⊤ ErrorKind)
    (e : done_paper r ≡ told (indexed buf s.frame_start 6 7)) where
  pub length_refused : (k : ErrorKind) → r ≡ Err k → data_len s buf ≡ stop k
  unfolding data_len
  length_refused k q = halt _ _ (told_same _ (stop k) (sym e ∙ ap done_paper q))

  pub length_behind : r ≡ (Ok tt) → data_len s buf ≡ data_behind buf s.frame_start
  unfolding data_len
  length_behind q = follow _ _ (told_same _ (go 0) (sym e ∙ ap done_paper q))

module _ (s : ModbusFrame) (buf : List ℕ) (r : Result ℕ ErrorKind) (e : paper r ≡ told (data_len s buf)) where
  pub many_refused : (k : Kind) (out : List ℕ) (j : ErrorKind) → r ≡ Err j
      → many_described k s buf out ≡ without (refused j s out)
  unfolding many_described
  many_refused k out j q = ap described_by (leave s out _ _ (told_same _ (stop j) (sym e ∙ ap paper q)))

  module _ (n : ℕ) (q : r ≡ Ok n) where
    many_on : data_len s buf ≡ go n
    many_on = told_same _ (go n) (sym e ∙ ap paper q)

    -- the place of the data lies within the frame
    pub many_within : s.frame_start + 7 ≤ length buf
    unfolding data_len
    many_within = bound _ _ many_on λ a p p₁. needed _ _ _ p₁ λ h p₂. omega arith

    -- m is the number of the cells' kind
    pub many_wanted : (k : Kind) (out : List ℕ) (m : ℕ) → m ≡ kind_number k
        → many_described k s buf out ≡ described (0, m ∷ s.reg ∷ s.count ∷ 1 ∷ (s.frame_start + 7) ∷ n ∷ []) s out
    unfolding many_described
    many_wanted k out m x = rw x (ap described_by (stay s out _ _ many_on))
