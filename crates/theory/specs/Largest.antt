-- Rules 4.1: the closing of a grid, the largest closed grid inside it, as a function. It is said by its meaning and is never worked
-- out so; proofs/LargestLaws.antt shows that it is the one grid of `Closing`.
use Rattle.std.specs.Prelude.{List, [], ◌∷◌, Bool, not, ◌&&◌, ℕ, zero, suc, ◌*◌, eqb, get_or}
use Rattle.relation.specs.Sets.{member, set_of, some}
use Rattle.grid.specs.Cells.{up_to, cell}
use Rattle.theory.specs.Calculus.{Calculus}

-- every number below k passes a test
abbrev pub every : ℕ → (ℕ → Bool) → Bool
every k test = not (some k (λ i. not (test i)))

-- a lies inside b
abbrev pub is_sub : Calculus → ℕ → ℕ → Bool
is_sub A a b = eqb (A.meet a b) a

-- each cell of d lies inside that of g
abbrev pub is_within : Calculus → ℕ → List ℕ → List ℕ → Bool
is_within A n d g = every n (λ i. every n (λ j. is_sub A (cell n d i j) (cell n g i j)))

-- for all i, j, k, equal ones too, cell (i, j) lies inside the composition of cells (i, k) and (k, j)
abbrev pub is_closed : Calculus → ℕ → List ℕ → Bool
is_closed A n d = every n (λ i. every n (λ j. every n (λ k. is_sub A (cell n d i j) (A.comp i k j (cell n d i k) (cell n d k j)))))

-- some list of so many sets passes a test
unfoldable pub some_grid : ℕ → (List ℕ → Bool) → Bool
some_grid zero test = test []
some_grid (suc m) test = some 8192 (λ a. some_grid m (λ d. test (a ∷ d)))

-- the closing of g: a relation is in a cell exactly if some closed grid inside g has it there
unfoldable pub closing_of : Calculus → ℕ → List ℕ → List ℕ
closing_of A n g = up_to (n * n) (λ p. set_of (λ r. some_grid (n * n) (λ d. is_closed A n d && is_within A n d g && member r (get_or d p 0))))
