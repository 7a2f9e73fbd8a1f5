-- A list that is filled from its beginning, one place after the other.
use mathlib.Core.Path.{◌≡◌, sym, ap, ◌∙◌}
use mathlib.Core.List.{List}
use Prim.Native.Nat.{ℕ, ◌+◌, ◌<◌}
use native.Mathlib.Decide.{ℕ_discrete}
use native.Mathlib.Omega.{arith}
use lib.ListN.{length, get_or, set}
use lib.Seq.{get_or-set_same, get_or-set_other}

-- the first p entries hold what f says
abbrev pub Filled : (ℕ → ℕ) → List ℕ → ℕ → Type 0
Filled f l p = (k : ℕ) → k < p → get_or l k 0 ≡ f k

pub filled_more : (f : ℕ → ℕ) (l : List ℕ) (p x : ℕ) → p < length l → Filled f l p → x ≡ f p → Filled f (set l p x) (p + 1)
filled_more f l p x h w e k lt = go (ℕ_discrete k p)
  where
    go : Dec (k ≡ p) → get_or (set l p x) k 0 ≡ f k
    go (yes q) = ap (λ (j : ℕ). get_or (set l p x) j 0) q ∙ get_or-set_same l p x 0 h ∙ e ∙ ap f (sym q)
    go (no n) = get_or-set_other l p k x 0 n ∙ w k (omega arith)
