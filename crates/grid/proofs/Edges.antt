-- Both sides of the limits on a grid, computed from the definitions: the refusals' numbers, 0 for none.
use mathlib.Core.Path.{◌≡◌, refl}
use mathlib.Core.List.{List, [], ◌∷◌}
use Prim.Native.Nat.{ℕ}
use lib.ListN.{replicate}
use Rattle.relation.specs.Meaning.{exchanged}
use Rattle.relation.specs.Sets.{member, set_below, set_of, some, union_over}
use Rattle.relation.specs.Composition.{converse}
use Rattle.grid.specs.Cells.{cell}
use Rattle.grid.specs.Accepted.{size_refusal, cell_refusal}

-- n events and so many cells
abbrev sizes : ℕ → ℕ → ℕ
sizes n cells = size_refusal n (replicate cells 0)

-- two events, with a set between them
abbrev between : ℕ → ℕ
between a = cell_refusal 2 (4096 ∷ a ∷ a ∷ 4096 ∷ [])

unfoldable pub edges : List ℕ
edges = sizes 32 1024 ∷ sizes 33 1089 ∷ sizes 32 1023 ∷ sizes 32 1025 ∷ between 8191 ∷ between 8192 ∷ []

pub edges_shown : edges ≡ 0 ∷ 1 ∷ 2 ∷ 2 ∷ 0 ∷ 3 ∷ []
unfolding member set_below set_of some union_over exchanged converse cell size_refusal cell_refusal edges
edges_shown = refl
