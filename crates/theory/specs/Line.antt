-- Rules 4.3: the waiting list. A pair of events has one number, smaller event first.
use Rattle.std.specs.Prelude.{List, [], ◌∷◌, ◌++◌, cond, ℕ, zero, suc, ◌+◌, ◌-◌, ◌*◌, ◌/◌, ◌%◌, ◌<◌, min, max, eqb}
use Rattle.relation.specs.Sets.{one_if}

-- the number of the pair of a and b
abbrev pub pair_of : ℕ → ℕ → ℕ
pair_of a b = min a b * 32 + max a b

-- p is the number of a pair of two of n events
abbrev pub IsPair : ℕ → ℕ → Type 0
IsPair n p = (p / 32 < p % 32) × (p % 32 < n)

-- how often p waits
unfoldable pub occurs : ℕ → List ℕ → ℕ
occurs p [] = 0
occurs p (x ∷ q) = one_if (eqb p x) + occurs p q

-- what waits are pairs of two of n events
abbrev pub Pairs : ℕ → List ℕ → Type 0
Pairs n q = (p : ℕ) → 0 < occurs p q → IsPair n p

-- p joins the end, unless it is waiting already
unfoldable pub joins : ℕ → List ℕ → List ℕ
joins p q = cond (eqb (occurs p q) 0) (q ++ (p ∷ [])) q

-- the first c pairs of row i
unfoldable pub row_to : ℕ → ℕ → List ℕ
row_to i zero = []
row_to i (suc c) = row_to i c ++ ((i * 32 + (i + 1 + c)) ∷ [])

-- the rows before row i
unfoldable pub rows_to : ℕ → ℕ → List ℕ
rows_to n zero = []
rows_to n (suc i) = rows_to n i ++ row_to i (n - suc i)

-- all pairs (i, j), i < j, row by row
unfoldable pub all_pairs : ℕ → List ℕ
all_pairs n = rows_to n n
