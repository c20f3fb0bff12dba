-- Each contract leaves one possible result, and one possible content of every lent buffer; that of an opening one possible body.
-- Assumes nothing.
use Rattle.std.proofs.Common.{◌≡◌, ℕ, List, take, drop, sym, refl, ap, ◌∙◌}
use Rattle.std.specs.Prelude.{Result, Ok, Option}
use contract.Lifetimes.{Lfts}
use borrow.Fn.Kinds.{Dens, res_t, ended_of}
use denote.Triple.Clauses.{Lasts, at_exit}
use Rattle.modbus.specs.Paper.{proto_of}
use Rattle.modbus.specs.Hex.{spelt}
use Rattle.modbus.specs.Frame.{start_of}
use Rattle.modbus.specs.Decode.{spelled_in}
use Rattle.modbus.specs.declared.ModbusProto.TheVariants.{Ascii}
use Rattle.modbus.proofs.Unique.{Unique}
use Rattle.transports.specs.declared.Fault.{Fault}
use Rattle.transports.specs.Opened.{source}
use Rattle.transports.proofs.AnswerLaws.{same_body, found, same_found}
use Rattle.transports.proofs.Fault.outcome.Kinds as outcome-kinds
use Rattle.transports.proofs.Fault.outcome.Reads as outcome-reads
use Rattle.transports.proofs.open.Kinds as open-kinds
use Rattle.transports.proofs.open.Reads as open-reads
use Rattle.transports.proofs.rtu.open_rtu.Kinds as open-rtu-kinds
use Rattle.transports.proofs.rtu.open_rtu.Reads as open-rtu-reads
use Rattle.transports.proofs.lines.open_ascii.Kinds as open-ascii-kinds
use Rattle.transports.proofs.lines.open_ascii.Reads as open-ascii-reads
use Rattle.transports.proofs.tcp.open_tcp.Kinds as open-tcp-kinds
use Rattle.transports.proofs.tcp.open_tcp.Reads as open-tcp-reads
use Rattle.transports.proofs.body_of.Kinds as body-of-kinds
use Rattle.transports.proofs.body_of.Reads as body-of-reads
use Rattle.transports.proofs.start_of.Kinds as start-of-kinds
use Rattle.transports.proofs.start_of.Reads as start-of-reads
use Rattle.transports.proofs.body_source.Kinds as body-source-kinds
use Rattle.transports.proofs.body_source.Reads as body-source-reads
use Rattle.transports.proofs.seal.Kinds as seal-kinds
use Rattle.transports.proofs.seal.Reads as seal-reads

pub outcome : Unique 0 outcome-kinds.ps outcome-kinds.r outcome-reads.Post
outcome κs a x y u v p q = (p ∙ sym q, refl)

pub open_rtu : Unique 1 open-rtu-kinds.ps open-rtu-kinds.r open-rtu-reads.Post
open_rtu κs a x y u v p q = (p ∙ sym q, refl)

pub open_tcp : Unique 1 open-tcp-kinds.ps open-tcp-kinds.r open-tcp-reads.Post
open_tcp κs a x y u v p q = (p ∙ sym q, refl)

-- of `raw`, what is at the front: as many bytes as the answer says
pub open_ascii : (κs : Lfts 2) (a : Dens κs open-ascii-kinds.ps) (x y : Result ℕ Fault)
    (u v : Lasts (ended_of 2 open-ascii-kinds.ps open-ascii-kinds.r) κs a)
    → open-ascii-reads.Post κs a x (at_exit (ended_of 2 open-ascii-kinds.ps open-ascii-kinds.r) κs a u)
    → open-ascii-reads.Post κs a y (at_exit (ended_of 2 open-ascii-kinds.ps open-ascii-kinds.r) κs a v)
    → (x ≡ y) × ((n : ℕ) → x ≡ Ok n → take n u.1.1.0 ≡ take n v.1.1.0)
open_ascii κs a x y u v p q =
    (p.0 ∙ sym q.0, λ n e. same_body Ascii (spelt a.0 a.1.0.now) n (sym e ∙ p.0) u.1.1.0 v.1.1.0 p.1.0 q.1.0)

-- the same where the body stands
pub «open» : (κs : Lfts 2) (a : Dens κs open-kinds.ps) (x y : Result ℕ Fault) (u v : Lasts (ended_of 2 open-kinds.ps open-kinds.r) κs a)
    → open-reads.Post κs a x (at_exit (ended_of 2 open-kinds.ps open-kinds.r) κs a u)
    → open-reads.Post κs a y (at_exit (ended_of 2 open-kinds.ps open-kinds.r) κs a v)
    → (x ≡ y)
    × ((n : ℕ) → x ≡ Ok n
    → take n (drop (start_of (proto_of a.0)) (source (proto_of a.0) a.1.1.0.now u.1.1.1.0))
    ≡ take n (drop (start_of (proto_of a.0)) (source (proto_of a.0) a.1.1.0.now v.1.1.1.0)))
«open» κs a x y u v p q =
    (p.0 ∙ sym q.0, λ n e. same_body (proto_of a.0) (spelled_in (proto_of a.0) a.1.0 a.1.1.0.now) n (sym e ∙ p.0) _ _ p.1.0 q.1.0)

-- of the body, what it holds
pub body_of : (κs : Lfts 1) (a : Dens κs body-of-kinds.ps) (x y : (res_t body-of-kinds.r κs).Denot)
    (u v : Lasts (ended_of 1 body-of-kinds.ps body-of-kinds.r) κs a)
    → body-of-reads.Post κs a x (at_exit (ended_of 1 body-of-kinds.ps body-of-kinds.r) κs a u)
    → body-of-reads.Post κs a y (at_exit (ended_of 1 body-of-kinds.ps body-of-kinds.r) κs a v)
    → found x ≡ found y
body_of κs a x y u v p q = same_found (proto_of a.0) a.1.1.0.now _ x y p.0 p.1 q.0 q.1

pub start_of_law : Unique 0 start-of-kinds.ps start-of-kinds.r start-of-reads.Post
start_of_law κs a x y u v p q = (p ∙ sym q, refl)

-- of the part, what it holds: a reference of the logic also has a name, which no code can see
pub body_source : (κs : Lfts 1) (a : Dens κs body-source-kinds.ps) (x y : (res_t body-source-kinds.r κs).Denot)
    (u v : Lasts (ended_of 1 body-source-kinds.ps body-source-kinds.r) κs a)
    → body-source-reads.Post κs a x (at_exit (ended_of 1 body-source-kinds.ps body-source-kinds.r) κs a u)
    → body-source-reads.Post κs a y (at_exit (ended_of 1 body-source-kinds.ps body-source-kinds.r) κs a v)
    → (x.now ≡ y.now) × (u ≡ v)
body_source κs a x y u v p q = (p ∙ sym q, refl)

pub seal : Unique 1 seal-kinds.ps seal-kinds.r seal-reads.Post
seal κs a x y u v p q =
    let e = p ∙ sym q in (
      ap (λ (t : Option ℕ × List ℕ). t.0) e,
      ap (λ (t : Option ℕ × List ℕ). (u.0, (u.1.0, (u.1.1.0, (u.1.1.1.0, (t.1, u.1.1.1.1.1)))))) e,
    )
