-- `transports::lines::half` meets its contract.
-- Assumes nothing.
use Rattle.std.proofs.Common.{◌≡◌, ℕ, ◌+◌, ◌%◌, ◌≤◌, ⊎_elim, arith}
use Rattle.ascii.specs.Plain.{Digit, value}
use Rattle.ascii.proofs.PlainLaws.{value_figure, value_letter}
use Rattle.transports.proofs.lines.half.Goals as goal
use Rattle.transports.proofs.lines.half.Goals.{then-c-le57, else-c-le57}

-- a digit 0-9 has its value in its lower half, a letter nine less than its own
figure : (c : ℕ) → c ≤ 57 → Digit c → (c % 16 + 0) % 16 ≡ value c
figure c h d = ⊎_elim (λ p. omega (arith, p, value_figure c h)) (λ p. absurd (omega (arith, p))) d

letter : (c : ℕ) → 58 ≤ c → Digit c → (c % 16 + 9) % 16 ≡ value c
letter c h d = ⊎_elim (λ p. absurd (omega (arith, p))) (λ p. omega (arith, p, value_letter c h)) d

pub returns : goal.returns
returns c = (
  omega arith,
  elim c.if-c-le57.branch [
    | then-c-le57 w ↦ rw w.more-is (figure _ (omega (arith, w.if-c-le57.true)))
    | else-c-le57 w ↦ rw w.more-is (letter _ (omega (arith, w.if-c-le57.false)))
  ],
)
