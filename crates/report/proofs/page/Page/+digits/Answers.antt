-- The digits before the last are those of a smaller number.
use mathlib.Core.Path.{◌≡◌, ◌∙◌, ap}
use mathlib.Core.List.{[], ◌∷◌}
use Prim.Native.Nat.{ℕ, ◌+◌, ◌/◌, ◌%◌, ◌≤◌, ◌<◌}
use native.Mathlib.Omega.{arith}
use lib.ListN.{length, length-append}
use Rattle.report.specs.Text.{decimal}
use Rattle.report.specs.Steps.{Adds}
use Rattle.report.specs.declared.page.Page.{Page}
use Rattle.report.proofs.AddsLaws.{adds_then}
use Rattle.report.proofs.DecimalLaws.{decimal-one, decimal-more}
use Rattle.report.proofs.page.Page.+digits.Goals as goal
use Rattle.report.proofs.page.Page.+digits.Goals.{then-k-ge10, else-k-ge10}

long_one : (k : ℕ) → k < 10 → length (decimal k) ≡ 1
long_one k h = ap length (decimal-one k h)

long_more : (k : ℕ) → 10 ≤ k → length (decimal k) ≡ length (decimal (k / 10)) + 1
long_more k h = ap length (decimal-more k h) ∙ length-append (decimal (k / 10)) ((48 + k % 10) ∷ [])

one : {old new : Page} (k : ℕ) → k < 10 → Adds old new ((48 + k % 10) ∷ []) → Adds old new (decimal k)
one k h w = let e : k % 10 ≡ k = omega arith in rw (decimal-one k h, ← e) w

pub digits-requires : goal.digits-requires
digits-requires t c = (omega arith, omega (arith, c.requires, long_more c.args.k c.if-k-ge10.true))

pub byte-requires : goal.byte-requires
byte-requires t c = elim c.if-k-ge10.branch [
  | then-k-ge10 w ↦ omega (arith, c.requires, w.digits.ensures.next, ap (λ p. p.len) w.self-is, long_more c.args.k w.if-k-ge10.true)
  | else-k-ge10 w ↦ omega (arith, c.requires, ap (λ p. p.len) w.self-is, long_one c.args.k w.if-k-ge10.false)
]

pub returns : goal.returns
returns t c = elim c.if-k-ge10.branch [
  | then-k-ge10 w ↦ rw (decimal-more c.args.k w.if-k-ge10.true) (adds_then w.digits.ensures (rw w.self-is at c.byte.ensures))
  | else-k-ge10 w ↦ one c.args.k w.if-k-ge10.false (rw w.self-is at c.byte.ensures)
]
