-- Rules 5.1: the search of an accepted grid. proofs/SearchRight.antt shows what its answers mean.
use Rattle.std.specs.Prelude.{Bool, List, ℕ, ◌^◌}
use Rattle.relation.specs.Sets.{member}
use Rattle.relation.specs.Composition.{converse}
use Rattle.grid.specs.Cells.{cell, put_both}
use Rattle.theory.specs.Allen.{allen}
use Rattle.theory.specs.Search.{Pair, Tried, emptied, closed, closes_to, Found, none, search_from, pairs_from}
use Rattle.placing.specs.Settling.{settles}

-- relation r is still there in the cell of the pair
unfoldable pub there_at : ℕ → Pair → ℕ → List ℕ → Bool
there_at n p r g = member r (cell n g p.0 p.1)

-- one try: the cell and its mirror are cut to relation r, and the grid is closed
unfoldable pub try_at : ℕ → Pair → ℕ → List ℕ → Tried
try_at n p r g = closes_to allen n (put_both converse n g p.0 p.1 (2 ^ r))

-- the cells from a list on
unfoldable pub search_at : ℕ → ℕ → List Pair → List ℕ → ℕ → Found
search_at n allowance ps g t = search_from (there_at n) (try_at n) (settles n) allowance ps g t

-- from the closed grid; the first closing is no try
abbrev pub from_closed : ℕ → ℕ → Tried → Found
from_closed n allowance emptied = none 0
from_closed n allowance (closed h) = search_at n allowance (pairs_from n 0 1) h 0

unfoldable pub search_of : ℕ → ℕ → List ℕ → Found
search_of n allowance g = from_closed n allowance (closes_to allen n g)
