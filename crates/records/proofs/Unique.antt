-- Each contract leaves one possible result, and one possible content of every lent buffer; of a part of a record, what
-- it holds and where it stands. `next` reads standard input, of which no contract can speak.
-- Assumes nothing.
use Rattle.std.proofs.Common.{◌≡◌, ℕ, List, sym, refl, ap, ◌∙◌}
use contract.Lifetimes.{Lfts}
use borrow.Fn.Kinds.{Dens, res_t, ended_of}
use denote.Triple.Clauses.{Lasts, at_exit}
use Rattle.modbus.proofs.Unique.{Unique, same_truth}
use Rattle.records.specs.declared.Tally.{Tally}
use Rattle.records.proofs.reading.Reading.new.Kinds as start-kinds
use Rattle.records.proofs.reading.Reading.new.Reads as start-reads
use Rattle.records.proofs.Tally.judge.Kinds as judged-kinds
use Rattle.records.proofs.Tally.judge.Reads as judged-reads
use Rattle.records.proofs.report.Kinds as report-kinds
use Rattle.records.proofs.report.Reads as report-reads
use Rattle.records.proofs.parts.wide.Kinds as wide-kinds
use Rattle.records.proofs.parts.wide.Reads as wide-reads
use Rattle.records.proofs.parts.eight.Kinds as eight-kinds
use Rattle.records.proofs.parts.eight.Reads as eight-reads
use Rattle.records.proofs.parts.Layout.start_of.Kinds as start-of-kinds
use Rattle.records.proofs.parts.Layout.start_of.Reads as start-of-reads
use Rattle.records.proofs.parts.cut.Kinds as cut-kinds
use Rattle.records.proofs.parts.cut.Reads as cut-reads
use Rattle.records.proofs.parts.Layout.part.Kinds as part-kinds
use Rattle.records.proofs.parts.Layout.part.Reads as part-reads
use Rattle.records.proofs.parts.Layout.is_whole.Kinds as is-whole-kinds
use Rattle.records.proofs.parts.Layout.is_whole.Reads as is-whole-reads
use Rattle.records.proofs.parts.laid.Kinds as laid-kinds
use Rattle.records.proofs.parts.laid.Reads as laid-reads
use Rattle.records.proofs.parts.lay.Kinds as lay-kinds
use Rattle.records.proofs.parts.lay.Reads as lay-reads
use Rattle.records.proofs.parts.lay_counted.Kinds as lay-counted-kinds
use Rattle.records.proofs.parts.lay_counted.Reads as lay-counted-reads
use Rattle.records.proofs.parts.stands.Kinds as stands-kinds
use Rattle.records.proofs.parts.stands.Reads as stands-reads

pub start : Unique 0 start-kinds.ps start-kinds.r start-reads.Post
start κs a x y u v p q = (p ∙ sym q, refl)

pub judged : Unique 1 judged-kinds.ps judged-kinds.r judged-reads.Post
judged κs a x y u v p q = (refl, ap (λ (t : Tally). (t, u.1)) (p ∙ sym q))

pub report : Unique 2 report-kinds.ps report-kinds.r report-reads.Post
report κs a x y u v p q = (p ∙ sym q, refl)

pub wide : Unique 1 wide-kinds.ps wide-kinds.r wide-reads.Post
wide κs a x y u v p q = (p.0 ∙ sym q.0, refl)

pub eight : Unique 1 eight-kinds.ps eight-kinds.r eight-reads.Post
eight κs a x y u v p q = (p ∙ sym q, refl)

pub start_of_law : Unique 1 start-of-kinds.ps start-of-kinds.r start-of-reads.Post
start_of_law κs a x y u v p q = (p ∙ sym q, refl)

pub is_whole : Unique 1 is-whole-kinds.ps is-whole-kinds.r is-whole-reads.Post
is_whole κs a x y u v p q = (same_truth p q, refl)

pub laid : Unique 1 laid-kinds.ps laid-kinds.r laid-reads.Post
laid κs a x y u v p q = (p ∙ sym q, refl)

pub lay : Unique 2 lay-kinds.ps lay-kinds.r lay-reads.Post
lay κs a x y u v p q = (refl, ap (λ (l : List ℕ). (l, u.1)) (p ∙ sym q))

pub lay_counted : Unique 2 lay-counted-kinds.ps lay-counted-kinds.r lay-counted-reads.Post
lay_counted κs a x y u v p q = (refl, ap (λ (l : List ℕ). (l, u.1)) (p ∙ sym q))

pub stands : Unique 3 stands-kinds.ps stands-kinds.r stands-reads.Post
stands κs a x y u v p q = (p ∙ sym q, refl)

-- a reference of the logic also has a name, which no code can see
pub cut : (κs : Lfts 1) (a : Dens κs cut-kinds.ps) (x y : (res_t cut-kinds.r κs).Denot)
    (u v : Lasts (ended_of 1 cut-kinds.ps cut-kinds.r) κs a)
    → cut-reads.Post κs a x (at_exit (ended_of 1 cut-kinds.ps cut-kinds.r) κs a u)
    → cut-reads.Post κs a y (at_exit (ended_of 1 cut-kinds.ps cut-kinds.r) κs a v)
    → (◌≡◌ {A = List ℕ × (ℕ × ℕ)} (x.now, x.ref_ptr) (y.now, y.ref_ptr)) × (u ≡ v)
cut κs a x y u v p q = (p ∙ sym q, refl)

pub part : (κs : Lfts 1) (a : Dens κs part-kinds.ps) (x y : (res_t part-kinds.r κs).Denot)
    (u v : Lasts (ended_of 1 part-kinds.ps part-kinds.r) κs a)
    → part-reads.Post κs a x (at_exit (ended_of 1 part-kinds.ps part-kinds.r) κs a u)
    → part-reads.Post κs a y (at_exit (ended_of 1 part-kinds.ps part-kinds.r) κs a v)
    → (◌≡◌ {A = List ℕ × (ℕ × ℕ)} (x.now, x.ref_ptr) (y.now, y.ref_ptr)) × (u ≡ v)
part κs a x y u v p q = (p ∙ sym q, refl)
