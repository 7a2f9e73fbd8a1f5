-- Rules 9: the worked examples, as one list.
use mathlib.Core.List.{List, [], ◌∷◌}
use Prim.Native.Nat.{ℕ}
use lib.ListN.{length}
use Rattle.relation.specs.Composition.{converse, compose}
use Rattle.grid.specs.Cells.{cell}
use Rattle.theory.specs.Quick.{Ended, contradiction, closed, paused}
use Rattle.quick.specs.Answers.{quick_rule}
use Rattle.text.specs.Text.{bytes}
use Rattle.statements.specs.Grid.{grid_of}
use Rattle.sheet.specs.Sheet.{Outcome, refused, accepted, sheet}

-- what an example shows: a set; a cell of a closed grid and the takes; a contradiction and its takes; or something else
pub data Shown : Type 0 where
  set : ℕ → Shown
  closes : ℕ → ℕ → Shown
  contradicts : ℕ → Shown
  other : Shown

-- the cell (i, j) that a run of quick closing leaves
abbrev pub ends : ℕ → ℕ → ℕ → Ended → Shown
ends n i j (closed t g) = closes (cell n g i j) t
ends n i j (contradiction t) = contradicts t
ends n i j (paused t g) = other

abbrev pub closing : ℕ → List ℕ → ℕ → ℕ → Shown
closing n g i j = ends n i j (quick_rule n 6448 g)

abbrev pub closing_of : Outcome → ℕ → ℕ → Shown
closing_of (accepted ns cs sts) i j = closing (length ns) (grid_of (length ns) sts) i j
closing_of (refused q line) i j = other

-- the example sheet
abbrev pub mill : List ℕ
mill = bytes "3\nmill 0\nflood 1\nwedding 1\nd mill\nb,m flood\n"

-- 0 b 1, 1 b 2, 2 b 0
abbrev pub circle : List ℕ
circle = 4096 ∷ 1 ∷ 2 ∷ 2 ∷ 4096 ∷ 1 ∷ 1 ∷ 2 ∷ 4096 ∷ []

abbrev pub worked : List Shown
worked =
    set (compose 1 1) ∷ set (compose 1 2) ∷ set (compose 4 8) ∷ set (compose 64 128) ∷ set (compose 16 16) ∷ set (compose 256 16)
    ∷ set (compose 512 256) ∷ set (compose 4096 512) ∷ set (compose 0 8191) ∷ set (converse 84) ∷ closing_of (sheet mill) 0 2
    ∷ closing 3 circle 0 1 ∷ []

abbrev pub printed : List Shown
printed =
    set 1 ∷ set 8191 ∷ set 7168 ∷ set 4288 ∷ set 21 ∷ set 341 ∷ set 8176 ∷ set 512 ∷ set 0 ∷ set 168 ∷ closes 682 3 ∷ contradicts 1 ∷ []
