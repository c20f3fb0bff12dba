-- A reader that shows whatever stands behind the byte count is no reader that shows only what is its own; one that is shows what `understood` does.
-- Assumes nothing.
use mathlib.Core.Path.{◌≡◌, refl, sym, ◌∙◌}
use mathlib.Core.List.{List, [], ◌∷◌}
use Prim.Native.Nat.{ℕ}
use native.Mathlib.Omega.{arith}
use Rattle.modbus.specs.Step.{stop, go}
use Rattle.modbus.specs.Bytes.{Bytes}
use Rattle.modbus.specs.Paper.{proto_of}
use Rattle.modbus.specs.Decode.{Message, unwrap}
use Rattle.client.specs.Asking.{not_my_reply, shows, understood}
use Rattle.asking.specs.Impostors.{Reader, OnlyMine, behind_count, two_asked, one_sent}
use Rattle.asking.proofs.OnlyMine.{only_mine}
use Rattle.asking.proofs.CaseTable.{asking}

module _ (R : Reader) (h : OnlyMine R) where
  pub same_values : (n : ℕ) (f r : List ℕ) (room : ℕ) (vs : List ℕ) → Bytes f → Bytes r → R n f r room ≡ go (shows vs) → understood n f r room ≡ go (shows vs)
  same_values n f r room vs y z e = (only_mine n f r room y z vs).1 ((h n f r room vs y z).0 e)

pub the_reader : OnlyMine understood
the_reader n f r room vs y z = only_mine n f r room y z vs

refused : understood 2 two_asked one_sent 2 ≡ stop not_my_reply
unfolding asking
refused = refl

opened : unwrap (proto_of 2) one_sent ≡ go (record { tag = 0x00 ∷ 0x07 ∷ []; body = 0x01 ∷ 0x03 ∷ 0x02 ∷ 0x01 ∷ 0x02 ∷ [] })
unfolding asking
opened = refl

pub trusting_the_count : (R : Reader)
    → ((n : ℕ) (f r : List ℕ) (room : ℕ) (m : Message) → unwrap (proto_of n) r ≡ go m → R n f r room ≡ go (shows (behind_count m.body)))
    → ¬ OnlyMine R
trusting_the_count R trusts h =
    let e = same_values R h 2 two_asked one_sent 2 _ (omega arith) (omega arith) (trusts 2 two_asked one_sent 2 _ opened) in
    let w = sym refused ∙ e in
    let z : ◌≡◌ {A = ℕ} 0 1 = cc in
    omega arith
