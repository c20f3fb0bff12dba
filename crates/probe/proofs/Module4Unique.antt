-- Each contract of module 4's calls leaves one possible result, and one possible content of the buffer that is lent.
-- Assumes nothing.
use mathlib.Core.Path.{refl, sym, ap, ◌∙◌}
use mathlib.Core.List.{List}
use Prim.Native.Nat.{ℕ}
use Rattle.modbus.proofs.Unique.{Unique, answer_paper}
use Rattle.probe.proofs.module4.probe_push.Kinds as probe-push-kinds
use Rattle.probe.proofs.module4.probe_push.Reads as probe-push-reads
use Rattle.probe.proofs.module4.probe_extend.Kinds as probe-extend-kinds
use Rattle.probe.proofs.module4.probe_extend.Reads as probe-extend-reads
use Rattle.probe.proofs.module4.probe_resize.Kinds as probe-resize-kinds
use Rattle.probe.proofs.module4.probe_resize.Reads as probe-resize-reads
use Rattle.probe.proofs.module4.probe_cut_end.Kinds as probe-cut-end-kinds
use Rattle.probe.proofs.module4.probe_cut_end.Reads as probe-cut-end-reads
use Rattle.probe.proofs.module4.probe_clear.Kinds as probe-clear-kinds
use Rattle.probe.proofs.module4.probe_clear.Reads as probe-clear-reads
use Rattle.probe.proofs.module4.probe_get_coil.Kinds as probe-get-coil-kinds
use Rattle.probe.proofs.module4.probe_get_coil.Reads as probe-get-coil-reads
use Rattle.probe.proofs.module4.probe_set_coil.Kinds as probe-set-coil-kinds
use Rattle.probe.proofs.module4.probe_set_coil.Reads as probe-set-coil-reads
use Rattle.probe.proofs.module4.probe_get_holding.Kinds as probe-get-holding-kinds
use Rattle.probe.proofs.module4.probe_get_holding.Reads as probe-get-holding-reads
use Rattle.probe.proofs.module4.probe_set_holding.Kinds as probe-set-holding-kinds
use Rattle.probe.proofs.module4.probe_set_holding.Reads as probe-set-holding-reads
use Rattle.probe.proofs.module4.probe_get_coils_as_u8.Kinds as probe-get-coils-as-u8-kinds
use Rattle.probe.proofs.module4.probe_get_coils_as_u8.Reads as probe-get-coils-as-u8-reads
use Rattle.probe.proofs.module4.probe_get_discretes_as_u8.Kinds as probe-get-discretes-as-u8-kinds
use Rattle.probe.proofs.module4.probe_get_discretes_as_u8.Reads as probe-get-discretes-as-u8-reads
use Rattle.probe.proofs.module4.probe_get_holdings_as_u8.Kinds as probe-get-holdings-as-u8-kinds
use Rattle.probe.proofs.module4.probe_get_holdings_as_u8.Reads as probe-get-holdings-as-u8-reads
use Rattle.probe.proofs.module4.probe_get_inputs_as_u8.Kinds as probe-get-inputs-as-u8-kinds
use Rattle.probe.proofs.module4.probe_get_inputs_as_u8.Reads as probe-get-inputs-as-u8-reads
use Rattle.probe.proofs.module4.probe_set_coils_from_u8.Kinds as probe-set-coils-from-u8-kinds
use Rattle.probe.proofs.module4.probe_set_coils_from_u8.Reads as probe-set-coils-from-u8-reads
use Rattle.probe.proofs.module4.probe_set_holdings_from_u8.Kinds as probe-set-holdings-from-u8-kinds
use Rattle.probe.proofs.module4.probe_set_holdings_from_u8.Reads as probe-set-holdings-from-u8-reads

pub push : Unique 1 probe-push-kinds.ps probe-push-kinds.r probe-push-reads.Post
push κs a x y u v p q =
    let e = p ∙ sym q in
    (answer_paper x y (ap (λ (t : (ℕ × ℕ) × List ℕ). t.0) e), ap (λ (t : (ℕ × ℕ) × List ℕ). (t.1, u.1)) e)

pub extend : Unique 2 probe-extend-kinds.ps probe-extend-kinds.r probe-extend-reads.Post
extend κs a x y u v p q =
    let e = p ∙ sym q in
    (answer_paper x y (ap (λ (t : (ℕ × ℕ) × List ℕ). t.0) e), ap (λ (t : (ℕ × ℕ) × List ℕ). (t.1, u.1)) e)

pub resize : Unique 1 probe-resize-kinds.ps probe-resize-kinds.r probe-resize-reads.Post
resize κs a x y u v p q =
    let e = p ∙ sym q in
    (answer_paper x y (ap (λ (t : (ℕ × ℕ) × List ℕ). t.0) e), ap (λ (t : (ℕ × ℕ) × List ℕ). (t.1, u.1)) e)

pub cut_end : Unique 1 probe-cut-end-kinds.ps probe-cut-end-kinds.r probe-cut-end-reads.Post
cut_end κs a x y u v p q = (answer_paper x y (p ∙ sym q), refl)

pub clear : Unique 1 probe-clear-kinds.ps probe-clear-kinds.r probe-clear-reads.Post
clear κs a x y u v p q = (answer_paper x y (p ∙ sym q), refl)

pub get_coil : Unique 1 probe-get-coil-kinds.ps probe-get-coil-kinds.r probe-get-coil-reads.Post
get_coil κs a x y u v p q = (answer_paper x y (p ∙ sym q), refl)

pub set_coil : Unique 1 probe-set-coil-kinds.ps probe-set-coil-kinds.r probe-set-coil-reads.Post
set_coil κs a x y u v p q =
    let e = p ∙ sym q in
    (answer_paper x y (ap (λ (t : (ℕ × ℕ) × List ℕ). t.0) e), ap (λ (t : (ℕ × ℕ) × List ℕ). (t.1, u.1)) e)

pub get_holding : Unique 1 probe-get-holding-kinds.ps probe-get-holding-kinds.r probe-get-holding-reads.Post
get_holding κs a x y u v p q = (answer_paper x y (p ∙ sym q), refl)

pub set_holding : Unique 1 probe-set-holding-kinds.ps probe-set-holding-kinds.r probe-set-holding-reads.Post
set_holding κs a x y u v p q =
    let e = p ∙ sym q in
    (answer_paper x y (ap (λ (t : (ℕ × ℕ) × List ℕ). t.0) e), ap (λ (t : (ℕ × ℕ) × List ℕ). (t.1, u.1)) e)

pub get_coils_as_u8 : Unique 2 probe-get-coils-as-u8-kinds.ps probe-get-coils-as-u8-kinds.r probe-get-coils-as-u8-reads.Post
get_coils_as_u8 κs a x y u v p q =
    let e = p ∙ sym q in
    (answer_paper x y (ap (λ (t : (ℕ × ℕ) × List ℕ). t.0) e), ap (λ (t : (ℕ × ℕ) × List ℕ). (u.0, (u.1.0, (u.1.1.0, (u.1.1.1.0, (t.1, u.1.1.1.1.1)))))) e)

pub get_discretes_as_u8 : Unique 2 probe-get-discretes-as-u8-kinds.ps probe-get-discretes-as-u8-kinds.r probe-get-discretes-as-u8-reads.Post
get_discretes_as_u8 κs a x y u v p q =
    let e = p ∙ sym q in
    (answer_paper x y (ap (λ (t : (ℕ × ℕ) × List ℕ). t.0) e), ap (λ (t : (ℕ × ℕ) × List ℕ). (u.0, (u.1.0, (u.1.1.0, (u.1.1.1.0, (t.1, u.1.1.1.1.1)))))) e)

pub get_holdings_as_u8 : Unique 2 probe-get-holdings-as-u8-kinds.ps probe-get-holdings-as-u8-kinds.r probe-get-holdings-as-u8-reads.Post
get_holdings_as_u8 κs a x y u v p q =
    let e = p ∙ sym q in
    (answer_paper x y (ap (λ (t : (ℕ × ℕ) × List ℕ). t.0) e), ap (λ (t : (ℕ × ℕ) × List ℕ). (u.0, (u.1.0, (u.1.1.0, (u.1.1.1.0, (t.1, u.1.1.1.1.1)))))) e)

pub get_inputs_as_u8 : Unique 2 probe-get-inputs-as-u8-kinds.ps probe-get-inputs-as-u8-kinds.r probe-get-inputs-as-u8-reads.Post
get_inputs_as_u8 κs a x y u v p q =
    let e = p ∙ sym q in
    (answer_paper x y (ap (λ (t : (ℕ × ℕ) × List ℕ). t.0) e), ap (λ (t : (ℕ × ℕ) × List ℕ). (u.0, (u.1.0, (u.1.1.0, (u.1.1.1.0, (t.1, u.1.1.1.1.1)))))) e)

pub set_coils_from_u8 : Unique 2 probe-set-coils-from-u8-kinds.ps probe-set-coils-from-u8-kinds.r probe-set-coils-from-u8-reads.Post
set_coils_from_u8 κs a x y u v p q =
    let e = p ∙ sym q in
    (answer_paper x y (ap (λ (t : (ℕ × ℕ) × List ℕ). t.0) e), ap (λ (t : (ℕ × ℕ) × List ℕ). (t.1, u.1)) e)

pub set_holdings_from_u8 : Unique 2 probe-set-holdings-from-u8-kinds.ps probe-set-holdings-from-u8-kinds.r probe-set-holdings-from-u8-reads.Post
set_holdings_from_u8 κs a x y u v p q =
    let e = p ∙ sym q in
    (answer_paper x y (ap (λ (t : (ℕ × ℕ) × List ℕ). t.0) e), ap (λ (t : (ℕ × ℕ) × List ℕ). (t.1, u.1)) e)
