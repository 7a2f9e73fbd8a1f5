-- The limits of the rules, each on both sides, as one list: the refusals' numbers, 0 for none.
use mathlib.Core.Path.{◌≡◌}
use mathlib.Core.List.{List, [], ◌∷◌, ◌++◌}
use Prim.Native.Nat.{ℕ}
use Rattle.relation.proofs.Edges.{edges as relation_edges, edges_shown as relation-shown}
use Rattle.grid.proofs.Edges.{edges as grid_edges, edges_shown as grid-shown}
use Rattle.text.proofs.Edges.{edges as text_edges, edges_shown as text-shown}
use Rattle.sheet.proofs.Edges.{edges as sheet_edges, edges_shown as sheet-shown}

-- a set; a grid's events, length and cells; a name; a sheet's bytes, events, statements and room
abbrev pub edges : List ℕ
edges = relation_edges ++ grid_edges ++ text_edges ++ sheet_edges

pub edges_shown : edges
    ≡ 0 ∷ 3 ∷ 0 ∷ 3 ∷ 3 ∷ 0 ∷ 1 ∷ 2 ∷ 2 ∷ 0 ∷ 3 ∷ 9 ∷ 0 ∷ 0 ∷ 9 ∷ 9 ∷ 8 ∷ 0 ∷ 1 ∷ 0 ∷ 9 ∷ 2 ∷ 0 ∷ 2 ∷ []
edges_shown = rw (relation-shown, grid-shown, text-shown, sheet-shown)
