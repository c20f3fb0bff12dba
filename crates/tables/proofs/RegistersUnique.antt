-- Each contract on registers leaves one possible result, and one possible content of every lent buffer.
-- Assumes nothing.
use mathlib.Core.Path.{◌≡◌, refl, sym, ◌∙◌}
use mathlib.Core.List.{List}
use Prim.Native.Nat.{ℕ}
use contract.Lifetimes.{Lfts}
use borrow.Fn.Kinds.{Dens, res_t, ended_of}
use denote.Triple.Clauses.{Lasts, at_exit}
use Rattle.modbus.specs.Paper.{done_paper, paper}
use Rattle.modbus.proofs.Unique.{Unique, paper_law, done_paper_law}
use Rattle.response.proofs.Unique.{told_apart}
use Rattle.tables.proofs.registers.get_holding.Kinds as get-holding-kinds
use Rattle.tables.proofs.registers.get_holding.Reads as get-holding-reads
use Rattle.tables.proofs.registers.set_holding.Kinds as set-holding-kinds
use Rattle.tables.proofs.registers.set_holding.Reads as set-holding-reads
use Rattle.tables.proofs.registers.get_holdings_as_u8.Kinds as get-holdings-kinds
use Rattle.tables.proofs.registers.get_holdings_as_u8.Reads as get-holdings-reads
use Rattle.tables.proofs.registers.get_inputs_as_u8.Kinds as get-inputs-kinds
use Rattle.tables.proofs.registers.get_inputs_as_u8.Reads as get-inputs-reads
use Rattle.tables.proofs.registers.set_holdings_from_u8.Kinds as set-holdings-kinds
use Rattle.tables.proofs.registers.set_holdings_from_u8.Reads as set-holdings-reads
use Rattle.tables.proofs.registers.read_registers.Kinds as read-registers-kinds
use Rattle.tables.proofs.registers.read_registers.Reads as read-registers-reads

pub get_holding : Unique 1 get-holding-kinds.ps get-holding-kinds.r get-holding-reads.Post
get_holding κs a x y u v p q = (paper_law x y (p ∙ sym q), refl)

pub set_holding : Unique 1 set-holding-kinds.ps set-holding-kinds.r set-holding-reads.Post
set_holding κs a x y u v p q = told_apart done_paper done_paper_law (λ l. (l, u.1)) x y _ _ (p ∙ sym q)

pub get_holdings_as_u8 : Unique 2 get-holdings-kinds.ps get-holdings-kinds.r get-holdings-reads.Post
get_holdings_as_u8 κs a x y u v p q =
    told_apart paper paper_law (λ l. (tt, (tt, (tt, (tt, (l, u.1.1.1.1.1)))))) x y _ _ (p ∙ sym q)

pub get_inputs_as_u8 : Unique 2 get-inputs-kinds.ps get-inputs-kinds.r get-inputs-reads.Post
get_inputs_as_u8 κs a x y u v p q =
    told_apart paper paper_law (λ l. (tt, (tt, (tt, (tt, (l, u.1.1.1.1.1)))))) x y _ _ (p ∙ sym q)

pub set_holdings_from_u8 : Unique 2 set-holdings-kinds.ps set-holdings-kinds.r set-holdings-reads.Post
set_holdings_from_u8 κs a x y u v p q = told_apart done_paper done_paper_law (λ l. (l, u.1)) x y _ _ (p ∙ sym q)

-- of a part: what it holds and where it stands
pub read_registers : (κs : Lfts 1) (a : Dens κs read-registers-kinds.ps) (x y : (res_t read-registers-kinds.r κs).Denot)
    (u v : Lasts (ended_of 1 read-registers-kinds.ps read-registers-kinds.r) κs a)
    → read-registers-reads.Post κs a x (at_exit (ended_of 1 read-registers-kinds.ps read-registers-kinds.r) κs a u)
    → read-registers-reads.Post κs a y (at_exit (ended_of 1 read-registers-kinds.ps read-registers-kinds.r) κs a v)
    → (◌≡◌ {A = List ℕ × (ℕ × ℕ)} (x.now, x.ref_ptr) (y.now, y.ref_ptr)) × (u ≡ v)
read_registers κs a x y u v p q = (p ∙ sym q, refl)
