-- Rules 5: the search over a list of pairs, for any closing.
use Rattle.std.specs.Prelude.{◌≡◌, ◌⊎◌, ℕ, zero, suc, ◌+◌, ◌-◌, ◌<◌, List, [], ◌∷◌, ◌++◌, Bool, true, false, eqb}
use Rattle.grid.specs.Cells.{some_empty}
use Rattle.theory.specs.Calculus.{Calculus}
use Rattle.theory.specs.Largest.{closing_of}

-- a pair of events, i to j
abbrev pub Pair : Type 0
Pair = ℕ × ℕ

-- what a try leaves: a cell is empty, or the closed grid
pub data Tried : Type 0 where
  emptied : Tried
  closed : List ℕ → Tried

-- what closing a grid leaves of it
abbrev pub unless_empty : Bool → List ℕ → Tried
unless_empty true h = emptied
unless_empty false h = closed h

unfoldable pub closes_to : Calculus → ℕ → List ℕ → Tried
closes_to A n g = unless_empty (some_empty (closing_of A n g)) (closing_of A n g)

-- how a search ends, with its tries
pub data Found : Type 0 where
  placed : ℕ → List ℕ → Found
  none : ℕ → Found
  gave_up : ℕ → Found

-- what the cells after this one come to is kept, unless it is none: then the next relation has its turn, with the tries so far
abbrev pub or_next : Found → (ℕ → Found) → Found
or_next (placed t g) next = placed t g
or_next (none t) next = next t
or_next (gave_up t) next = gave_up t

-- after a try: if nothing is empty, on to the next cell; else the next relation
abbrev pub after_try : Tried → ℕ → (List ℕ → ℕ → Found) → (ℕ → Found) → Found
after_try emptied t rest next = next t
after_try (closed g) t rest next = or_next (rest g t) next

-- a further try is needed: gave up if the allowance is used (the first argument), or one try more
abbrev pub try_if : Bool → Tried → ℕ → (List ℕ → ℕ → Found) → (ℕ → Found) → Found
try_if true s t rest next = gave_up t
try_if false s t rest next = after_try s (t + 1) rest next

-- a relation that is not there is passed over
abbrev pub turn_of : Bool → Bool → Tried → ℕ → (List ℕ → ℕ → Found) → (ℕ → Found) → Found
turn_of true used s t rest next = try_if used s t rest next
turn_of false used s t rest next = next t

module _ (there : Pair → ℕ → List ℕ → Bool) (attempt : Pair → ℕ → List ℕ → Tried) (allowance : ℕ) where
  -- the relations r, r + 1, .. of which k are to come, each from the grid g as it stood; `rest` is for the cells after the pair p
  unfoldable pub relations_from : (List ℕ → ℕ → Found) → Pair → List ℕ → ℕ → ℕ → ℕ → Found
  relations_from rest p g zero r t = none t
  relations_from rest p g (suc k) r t =
      turn_of (there p r g) (eqb t allowance) (attempt p r g) t rest (λ u. relations_from rest p g k (r + 1) u)

-- past the last cell: placed, if some placing meets the grid
abbrev pub past_last : Bool → ℕ → List ℕ → Found
past_last true t g = placed t g
past_last false t g = none t

module _ (there : Pair → ℕ → List ℕ → Bool) (attempt : Pair → ℕ → List ℕ → Tried) (fits : List ℕ → Bool) (allowance : ℕ) where
  -- the cells in order, each by its thirteen relations
  unfoldable pub search_from : List Pair → List ℕ → ℕ → Found
  search_from [] g t = past_last (fits g) t g
  search_from (p ∷ ps) g t = relations_from there attempt allowance (search_from ps) p g 13 0 t

-- k cells of row i, from column j on
unfoldable pub row : ℕ → ℕ → ℕ → List Pair
row i j zero = []
row i j (suc k) = (i, j) ∷ row i (j + 1) k

-- the rows from i on, of which the first has k cells
unfoldable pub rows : ℕ → ℕ → List Pair
rows i zero = []
rows i (suc k) = row i (i + 1) (suc k) ++ rows (i + 1) k

-- the cells (i, j), i < j, of n events from (i, j) on, in row order
unfoldable pub pairs_from : ℕ → ℕ → ℕ → List Pair
pairs_from n i j = row i j (n - j) ++ rows (i + 1) (n - (i + 2))

-- ---- which scenario comes first

-- of all pairs of a list
abbrev pub All : (Pair → Type 0) → List Pair → Type 0
All P [] = Unit {0}
All P (p ∷ ps) = P p × All P ps

-- One scenario, a relation for each pair, comes no later than another: at the first of the pairs where they differ it has the smaller number.
abbrev pub NoLater : List Pair → (Pair → ℕ) → (Pair → ℕ) → Type 0
NoLater [] σ τ = Unit {0}
NoLater (p ∷ ps) σ τ = (σ p < τ p) ⊎ ((σ p ≡ τ p) × NoLater ps σ τ)
