-- The numbers of a list that is filled from its beginning, one place after the other.
use mathlib.Core.Path.{◌≡◌, sym, ap, ◌∙◌}
use mathlib.Core.List.{List}
use Prim.Native.Nat.{ℕ, ◌+◌, ◌<◌}
use native.Mathlib.Decide.{ℕ_discrete}
use native.Mathlib.Omega.{arith}
use lib.ListN.{length, set}
use lib.Seq.{get_or-set_same, get_or-set_other}
use lib.IntN.{ℤ, pos}
use Rattle.placing.specs.Placing.{at}

-- the first p places hold what f says
abbrev pub Holds : (ℕ → ℤ) → List ℤ → ℕ → Type 0
Holds f xs p = (k : ℕ) → k < p → at xs k ≡ f k

pub holds_more : (f : ℕ → ℤ) (xs : List ℤ) (p : ℕ) (x : ℤ) → p < length xs → Holds f xs p → x ≡ f p → Holds f (set xs p x) (p + 1)
holds_more f xs p x h w e k lt = go (ℕ_discrete k p)
  where
    go : Dec (k ≡ p) → at (set xs p x) k ≡ f k
    go (yes q) = ap (λ (j : ℕ). at (set xs p x) j) q ∙ get_or-set_same xs p x (pos 0) h ∙ e ∙ ap f (sym q)
    go (no ne) = get_or-set_other xs p k x (pos 0) ne ∙ w k (omega arith)
