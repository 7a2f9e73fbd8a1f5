-- Of two refusals the first that is due comes first.
use mathlib.Core.Path.{◌≡◌, sym, ◌∙◌}
use Prim.Native.Nat.{ℕ, ◌<◌}
use native.Mathlib.Decide.{ℕ_discrete}
use native.Mathlib.Omega.{arith}
use borrow.Author.Tests.{eq-eqb, ne_eqb}
use Rattle.refusal.specs.Answered.{first_of}

pub first_here : (a b : ℕ) → 0 < a → first_of a b ≡ a
first_here a b h = simp (ne_eqb a 0 (λ e. omega arith))

pub first_next : (a b : ℕ) → a ≡ 0 → first_of a b ≡ b
first_next a b e = simp (eq-eqb a 0 e)

-- no refusal is due exactly where neither is
pub first-none : (a b : ℕ) → first_of a b ≡ 0 → (a ≡ 0) × (b ≡ 0)
first-none a b e = go (ℕ_discrete a 0)
  where
    go : Dec (a ≡ 0) → (a ≡ 0) × (b ≡ 0)
    go (yes z) = (z, sym (first_next a b z) ∙ e)
    go (no nz) = absurd (nz (sym (first_here a b (omega arith)) ∙ e))
