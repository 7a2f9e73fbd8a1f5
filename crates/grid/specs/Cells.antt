-- Rules 3.1: a grid of n events is a list of sets; cell (i, j) is at place i * n + j.
use Rattle.std.specs.Prelude.{◌≡◌, Bool, List, [], ◌∷◌, ◌++◌, ℕ, zero, suc, ◌+◌, ◌*◌, ◌≤◌, ◌<◌, eqb, length, get_or, set}
use Rattle.relation.specs.Sets.{some}

-- f 0, f 1, .. up to f (k - 1)
unfoldable pub up_to : ℕ → (ℕ → ℕ) → List ℕ
up_to zero f = []
up_to (suc k) f = up_to k f ++ f k ∷ []

-- the set for i to j
unfoldable pub cell : ℕ → List ℕ → ℕ → ℕ → ℕ
cell n g i j = get_or g (i * n + j) 0

unfoldable pub put : ℕ → List ℕ → ℕ → ℕ → ℕ → List ℕ
put n g i j a = set g (i * n + j) a

-- a set for i to j, and its mirror: the set turned round, by `turn`
unfoldable pub put_both : (ℕ → ℕ) → ℕ → List ℕ → ℕ → ℕ → ℕ → List ℕ
put_both turn n g i j a = put n (put n g i j a) j i (turn a)

-- a grid of n events has its room
pub record Held (n : ℕ) (g : List ℕ) : Type 0 where
  pub few : n ≤ 32
  pub fits : n * n ≤ length g

-- some cell is empty
abbrev pub some_empty : List ℕ → Bool
some_empty g = some (length g) (λ p. eqb (get_or g p 0) 0)

-- a cell of n events is empty
abbrev pub EmptyCell : ℕ → List ℕ → Type 0
EmptyCell n g = (i : ℕ) × (j : ℕ) × (i < n) × (j < n) × (cell n g i j ≡ 0)
