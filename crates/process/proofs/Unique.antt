-- Each contract of module 6 leaves one possible result, and one possible content of each lent buffer.
-- Assumes nothing.
use mathlib.Core.Path.{◌≡◌, refl, sym, ap, ◌∙◌}
use mathlib.Core.List.{List}
use Prim.Native.Nat.{ℕ}
use Rattle.std.specs.Prelude.{Result, ⊤}
use Rattle.modbus.specs.declared.ErrorKind.{ErrorKind}
use Rattle.modbus.proofs.Unique.{Unique, paper_law}
use Rattle.frame.specs.State.{left_paper}
use Rattle.process.specs.Process.{Wrote, wrote}
use Rattle.frame.specs.declared.ModbusFrame.{ModbusFrame}
use Rattle.frame.proofs.Unique.{left_paper_law}
use Rattle.process.proofs.process_read.Kinds as process-read-kinds
use Rattle.process.proofs.process_read.Reads as process-read-reads
use Rattle.process.proofs.process_write.Kinds as process-write-kinds
use Rattle.process.proofs.process_write.Reads as process-write-reads
use Rattle.process.proofs.added.add_head.Kinds as add-head-kinds
use Rattle.process.proofs.added.add_head.Reads as add-head-reads
use Rattle.process.proofs.added.add_echo.Kinds as add-echo-kinds
use Rattle.process.proofs.added.add_echo.Reads as add-echo-reads
use Rattle.process.proofs.cells.data_bytes.Kinds as data-bytes-kinds
use Rattle.process.proofs.cells.data_bytes.Reads as data-bytes-reads
use Rattle.process.proofs.cells.data_behind.Kinds as data-behind-kinds
use Rattle.process.proofs.cells.data_behind.Reads as data-behind-reads
use Rattle.process.proofs.cells.illegal.Kinds as illegal-kinds
use Rattle.process.proofs.cells.illegal.Reads as illegal-reads
use Rattle.process.proofs.finalize_response.Kinds as finalize-response-kinds
use Rattle.process.proofs.finalize_response.Reads as finalize-response-reads

-- the state is the first of the parameters, the response the last
pub process_read : Unique 7 process-read-kinds.ps process-read-kinds.r process-read-reads.Post
process_read κs a x y u v p q =
    let t = u.1.1.1.1.1 in
    left_paper_law
    (λ s l. (
      s,
      (
        u.1.0,
        (
          u.1.1.0,
          (
            u.1.1.1.0,
            (
              u.1.1.1.1.0,
              (t.0, (t.1.0, (t.1.1.0, (t.1.1.1.0, (t.1.1.1.1.0, (l, t.1.1.1.1.1.1)))))),
            ),
          ),
        ),
      ),
    ))
    x y _ _ _ _ (p ∙ sym q)

-- a write's result, the state and what the three lent buffers hold at exit; `lasts` puts them in their places
wrote_apart : {U : Type 0} (lasts : ModbusFrame → List ℕ → List ℕ → List ℕ → U) (x y : Result ⊤ ErrorKind) (s t : ModbusFrame)
    (l c h m d k : List ℕ) → wrote (left_paper x s l) c h ≡ wrote (left_paper y t m) d k
    → (x ≡ y) × (lasts s c h l ≡ lasts t d k m)
wrote_apart lasts x y s t l c h m d k e = (
  (left_paper_law (λ r o. o) x y s t l m (ap (λ (w : Wrote). w.left) e)).0,
  ap (λ (w : Wrote). lasts w.left.frame w.coil_bytes w.holding_bytes w.left.out) e,
)

-- the coils are the third of the parameters, the holdings the fifth, the response the last
pub process_write : Unique 5 process-write-kinds.ps process-write-kinds.r process-write-reads.Post
process_write κs a x y u v p q =
    let t = u.1.1.1 in
    wrote_apart (λ s c h l. (s, (u.1.0, (c, (t.0, (h, (t.1.1.0, (l, t.1.1.1.1))))))))
    x y _ _ _ _ _ _ _ _ (p ∙ sym q)

pub finalize_response : Unique 2 finalize-response-kinds.ps finalize-response-kinds.r finalize-response-reads.Post
finalize_response κs a x y u v p q = left_paper_law (λ s l. (s, (l, u.1.1))) x y _ _ _ _ (p ∙ sym q)

-- ---- what module 7 uses as well

pub add_head : Unique 3 add-head-kinds.ps add-head-kinds.r add-head-reads.Post
add_head κs a x y u v p q = left_paper_law (λ s l. (s, (u.1.0, (u.1.1.0, (l, u.1.1.1.1))))) x y _ _ _ _ (p ∙ sym q)

pub add_echo : Unique 3 add-echo-kinds.ps add-echo-kinds.r add-echo-reads.Post
add_echo κs a x y u v p q = left_paper_law (λ s l. (s, (u.1.0, (l, u.1.1.1)))) x y _ _ _ _ (p ∙ sym q)

pub data_bytes_law : Unique 0 data-bytes-kinds.ps data-bytes-kinds.r data-bytes-reads.Post
data_bytes_law κs a x y u v p q = (p ∙ sym q, refl)

pub illegal : Unique 0 illegal-kinds.ps illegal-kinds.r illegal-reads.Post
illegal κs a x y u v p q = (p ∙ sym q, refl)

pub data_behind : Unique 1 data-behind-kinds.ps data-behind-kinds.r data-behind-reads.Post
data_behind κs a x y u v p q = (paper_law x y (p ∙ sym q), refl)
