-- Rules 6.3: the grid of a list of statements, and when a placing meets them.
use Rattle.std.specs.Prelude.{cond, List, [], ◌∷◌, ℕ, ◌*◌, ◌/◌, ◌%◌, ◌<◌, T, eqb}
use Rattle.std.specs.Int.Bits.{bit_and}
use Rattle.relation.specs.Meaning.{Event, Holds}
use Rattle.relation.specs.Sets.{member}
use Rattle.relation.specs.Composition.{converse}
use Rattle.grid.specs.Cells.{up_to, cell, put_both}
use Rattle.statements.specs.Statements.{Statement}

-- a pair starts as any, and an event to itself as {eq}: place p is that of cell (p / n, p % n)
abbrev pub start_cell : ℕ → ℕ → ℕ
start_cell n p = cond (eqb (p / n) (p % n)) 4096 8191

-- the grid before any statement
unfoldable pub start_grid : ℕ → List ℕ
start_grid n = up_to (n * n) (start_cell n)

-- what a statement leaves of its cell
abbrev pub left_by : ℕ → List ℕ → Statement → ℕ
left_by n g t = bit_and (cell n g t.one t.two) t.set

-- a statement cuts its cell, and the mirror is turned round
unfoldable pub cut_by : ℕ → List ℕ → Statement → List ℕ
cut_by n g t = put_both converse n g t.one t.two (left_by n g t)

-- and each statement of a list cuts what those before it left
unfoldable pub cut_all : ℕ → List ℕ → List Statement → List ℕ
cut_all n g [] = g
cut_all n g (t ∷ ts) = cut_all n (cut_by n g t) ts

-- the grid of a list of statements
unfoldable pub grid_of : ℕ → List Statement → List ℕ
grid_of n sts = cut_all n (start_grid n) sts

-- a placing meets a statement: the relation of its two events is in its set
abbrev pub MeetsOne : (ℕ → Event) → Statement → Type 0
MeetsOne P t = (r : ℕ) × (r < 13) × T (member r t.set) × Holds r (P t.one) (P t.two)

-- and each statement of a list
abbrev pub MeetsEach : (ℕ → Event) → List Statement → Type 0
MeetsEach P [] = Unit {0}
MeetsEach P (t ∷ ts) = MeetsOne P t × MeetsEach P ts
