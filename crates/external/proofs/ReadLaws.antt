-- Each way out of what the firmware is to read.
-- Assumes nothing.
use mathlib.Core.Path.{◌≡◌, refl, sym, ap, ◌∙◌}
use mathlib.Core.List.{List, [], ◌∷◌}
use Prim.Native.Nat.{ℕ, ◌+◌, ◌≤◌, ◌<◌}
use native.Mathlib.Omega.{arith}
use lib.ListN.{length}
use Rattle.std.specs.Prelude.{IsErrAnd, Result, Ok, Err}
use Rattle.modbus.specs.Step.{Step, stop, go, ◌≤?◌}
use Rattle.modbus.specs.Table.{Kind}
use Rattle.modbus.specs.declared.ErrorKind.{ErrorKind}
use Rattle.modbus.specs.declared.ErrorKind.TheVariants.{OOB}
use Rattle.modbus.proofs.StepLaws.{pick_yes, pick_no}
use Rattle.modbus.proofs.PaperLaws.{number_some, handed_on}
use Rattle.response.specs.Bounded.{resized}
use Rattle.response.proofs.BoundedLaws.{resized_long, resized_full}
use Rattle.outgoing.specs.Grow.{Response, Short, head}
use Rattle.frame.specs.State.{grown, After, refused}
use Rattle.process.specs.Process.{response_of, data_bytes}
use Rattle.external.specs.External.{described, read_described, without}
use Rattle.frame.specs.Changes.{kind_number}
use Rattle.external.specs.External.{room_sized, roomed, room_told, wanted}
use Rattle.external.specs.Answers.{room_paper}
use Rattle.frame.specs.declared.ModbusFrame.{ModbusFrame}
use Rattle.external.specs.declared.Read.{Read}

-- ---- a refusal that `?` hands on

pub read_handed : (r : Result Read ErrorKind) (k : ErrorKind) (s : ModbusFrame) (out : List ℕ) → IsErrAnd r (λ e. e ≡ k)
    → read_described r s out ≡ without (refused k s out)
read_handed r k s out h = ap (λ (a : Result Read ErrorKind). read_described a s out) (handed_on r h)

-- ---- room for a read's data

module _ (s : ModbusFrame) (out : List ℕ) (bytes : ℕ) where
  abbrev lengthened : Step ErrorKind (ℕ × List ℕ)
  lengthened = resized out s.response_len (s.response_len + bytes) 0

  abbrev room : After × ℕ
  room = room_sized s (response_of s out) lengthened

  pub room_none : length out < s.response_len + bytes → room ≡ room_paper (Err OOB) s out
  room_none h = ap (room_sized s (response_of s out)) (by (s.response_len ≤? length out))
    where
      by : Dec (s.response_len ≤ length out) → lengthened ≡ stop OOB
      by (yes p) = resized_full out _ _ 0 p h
      by (no p) = resized_long out _ _ 0 (omega arith)

-- but for its response, the state stays
abbrev kept : ModbusFrame → After × ℕ → Type 0
kept s x = x.0.frame ≡ grown x.0.frame.response_len s

sized_kept : (s : ModbusFrame) (r : Response) (m : Step ErrorKind (ℕ × List ℕ)) → kept s (room_sized s r m)
sized_kept s r (stop k) = refl
sized_kept s r (go (n, l)) = refl

roomed_kept : (bytes : ℕ) (s : ModbusFrame) (m : Step Short Response) → kept s (roomed bytes s m)
roomed_kept bytes s (stop x) = refl
roomed_kept bytes s (go r) = sized_kept s r (resized r.out r.len (r.len + bytes) 0)

-- x, t and l are what the call that makes room answered and left
module _ (k : Kind) (s : ModbusFrame) (buf out : List ℕ) (bytes : ℕ) (b : bytes ≡ data_bytes k s.count)
    (x : Result ℕ ErrorKind) (t : ModbusFrame) (l : List ℕ)
    (e : room_paper x t l ≡ roomed bytes s (head s.proto buf s.frame_start bytes (response_of s out))) where
  wanted_by : wanted k s buf out ≡ room_told k s (room_paper x t l)
  wanted_by =
      ap (λ (n : ℕ). room_told k s (roomed n s (head s.proto buf s.frame_start n (response_of s out)))) (sym b)
      ∙ ap (room_told k s) (sym e)

  pub wanted_not : (j : ErrorKind) → x ≡ Err j → without (refused j t l) ≡ wanted k s buf out
  wanted_not j q = sym (wanted_by ∙ rw q (pick_no _ _ _ (number_some j)))

  left_kept : t ≡ grown t.response_len s
  left_kept = rw (← e) at (roomed_kept bytes s (head s.proto buf s.frame_start bytes (response_of s out)))

  -- n is the number of the cells' kind
  pub wanted_at : (at : ℕ) → x ≡ Ok at → (n : ℕ) → n ≡ kind_number k
      → described (0, n ∷ t.reg ∷ t.count ∷ at ∷ bytes ∷ []) t l ≡ wanted k s buf out
  wanted_at at q n w =
      rw w
      (ap (λ (u : ModbusFrame). described (0, kind_number k ∷ u.reg ∷ u.count ∷ at ∷ bytes ∷ []) t l) left_kept
      ∙ sym (wanted_by ∙ rw (q, b) (pick_yes _ _ _ refl)))
