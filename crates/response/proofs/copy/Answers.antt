-- `response::copy` meets its contract. The loop's invariant: k blocks are copied. Each call behind it copies more, the last up to the end.
-- Assumes nothing.
use Rattle.std.proofs.Common.{◌≡◌, ◌+◌, ◌-◌, ◌*◌, ◌/◌, length, take, drop, sym, ap, ◌∙◌, arith, length-append, length-drop}
use Rattle.std.proofs.Math.Seq.{take-append_seam, drop-append_seam}
use Rattle.std.proofs.lemmas.List.{drop-drop}
use Rattle.std.specs.Iterator.Adapters.{enumerate_source, enumerate_count}
use Rattle.std.specs.Slice.Iter.{chunks_exact_rest}
use Rattle.response.proofs.BoundedLaws.{copied_on, copied_all}
use Rattle.response.proofs.copy.Goals as goal

pub loop-k-preserved : goal.loop-k-preserved
loop-k-preserved c =
    let a = c.args in
    let t = c.in-Some.ensures.steps in
    let inv = c.loop-k.invariant in
    let i = enumerate_count c.loop-k.k-iterator in
    let b = c.in-Some.block.now in
    let rest = chunks_exact_rest (enumerate_source c.next.new.self) in
    let whole = t.0.1.1 ∙ inv.0 in
    let d = inv.1 ∙ t.0.1.0 in
    let n = simp (length-append, length-drop) at (ap length d) in
    let q : 32 * (i + 1) ≡ 32 * i + 32 = omega arith in
    let z : 32 * i + 32 - 32 * i ≡ 32 = omega arith in
    let f : take 32 (drop (32 * i) a.src.now) ≡ b = ap (take 32) d ∙ (rw whole at (take-append_seam b rest)) in (
      t.0.0 ∙ inv.0,
      rw (t.2, q) (sym (drop-drop 32 (32 * i) a.src.now) ∙ ap (drop 32) d ∙ (rw whole at (drop-append_seam b rest))),
      rw t.2 (omega arith),
      rw (t.2, q) (copied_on a.dst.now _ _ a.at a.src.now (32 * i) (32 * i + 32) inv.3 (omega arith) (omega arith)
          (rw (z, f) (rw t.1 at c.copy_block.ensures))),
    )

pub returns : goal.returns
returns c =
    let l = c.loop-k in
    let a = c.args in
    let t = c.in-None.ensures.steps in
    let inv = l.invariant in
    let n = simp length-drop at (ap length inv.1) in
    let e : 32 * enumerate_count l.k-iterator ≡ length a.src.now / 32 * 32 = omega arith in
    let on = copied_on a.dst.now in
    let e₁ = on _ _ a.at a.src.now _ c.copy_power-a.result (rw e at inv.3) (omega arith) (omega arith) c.copy_power-a.ensures.dst_after in
    let e₂ = on _ _ a.at a.src.now _ c.copy_power-b.result e₁ (omega arith) (omega arith) c.copy_power-b.ensures.dst_after in
    let e₃ = on _ _ a.at a.src.now _ c.copy_power-c.result e₂ (omega arith) (omega arith) c.copy_power-c.ensures.dst_after in
    let e₄ = on _ _ a.at a.src.now _ c.copy_power-d.result e₃ (omega arith) (omega arith) c.copy_power-d.ensures.dst_after in
    let e₅ = on _ _ a.at a.src.now _ c.copy_power.result e₄ (omega arith) (omega arith) c.copy_power.ensures.dst_after in
    copied_all _ _ a.at a.src.now c.copy_power.result e₅ (omega arith)
