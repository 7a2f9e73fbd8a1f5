-- Rules 4.3: quick closing, as a step on grid and waiting list, over any calculus.
use Rattle.std.specs.Prelude.{List, [], ◌∷◌, cond, ℕ, zero, suc, ◌/◌, ◌%◌, eqb}
use Rattle.grid.specs.Cells.{cell, put_both}
use Rattle.theory.specs.Calculus.{Calculus}
use Rattle.theory.specs.Closing.{Cells}
use Rattle.theory.specs.Line.{joins, pair_of}

-- how a step ended: a cell became empty, or the grid and the waiting list as they are now
pub data Out : Type 0 where
  dead : Out
  going : List ℕ → List ℕ → Out

-- what a step left is handed on to the next
abbrev pub and_then : Out → (List ℕ → List ℕ → Out) → Out
and_then dead f = dead
and_then (going g q) f = f g q

-- what (a, m) with (m, b) allows of (a, b)
abbrev pub cut_to : Calculus → Cells → ℕ → ℕ → ℕ → ℕ
cut_to A G a m b = A.meet (G a b) (A.comp a m b (G a m) (G m b))

-- the new set v of (a, b): it is as it was, or empty, or it is put in the cell and, turned round, in its mirror, and the pair joins the end
unfoldable pub shrunk : Calculus → ℕ → ℕ → ℕ → ℕ → ℕ → List ℕ → List ℕ → Out
shrunk A n a b old v g q = cond (eqb v old) (going g q) (cond (eqb v 0) dead (going (put_both A.conv n g a b v) (joins (pair_of a b) q)))

-- cut (a, b) to what (a, m) with (m, b) allows
unfoldable pub cut : Calculus → ℕ → ℕ → ℕ → ℕ → List ℕ → List ℕ → Out
cut A n a m b g q = shrunk A n a b (cell n g a b) (cut_to A (cell n g) a m b) g q

-- the second cut at k: (k, j) to what (k, i) with (i, j) allows
abbrev pub cut_back : Calculus → ℕ → ℕ → ℕ → ℕ → List ℕ → List ℕ → Out
cut_back A n i j k g q = cut A n k i j g q

-- k, other than i and j: cut (i, k) to what (i, j) with (j, k) allows, and then the second cut
unfoldable pub turn : Calculus → ℕ → ℕ → ℕ → ℕ → List ℕ → List ℕ → Out
turn A n i j k g q = cond (eqb k i) (going g q) (cond (eqb k j) (going g q) (and_then (cut A n i j k g q) (cut_back A n i j k)))

-- each k in rising order: f more, from k on
unfoldable pub turns : Calculus → ℕ → ℕ → ℕ → ℕ → ℕ → List ℕ → List ℕ → Out
turns A n i j zero k g q = going g q
turns A n i j (suc f) k g q = and_then (turn A n i j k g q) (turns A n i j f (suc k))

-- one take of the pair p
unfoldable pub take : Calculus → ℕ → ℕ → List ℕ → List ℕ → Out
take A n p g q = turns A n (p / 32) (p % 32) n 0 g q

-- how a run ended, with its takes
pub data Ended : Type 0 where
  contradiction : ℕ → Ended
  closed : ℕ → List ℕ → Ended
  paused : ℕ → List ℕ → Ended

abbrev pub go_on : Out → Ended → (List ℕ → List ℕ → Ended) → Ended
go_on dead e f = e
go_on (going g q) e f = f g q

-- takes until nothing waits, at most f more; t were made before
unfoldable pub run : Calculus → ℕ → ℕ → ℕ → List ℕ → List ℕ → Ended
run A n zero t g [] = closed t g
run A n zero t g (p ∷ q) = paused t g
run A n (suc f) t g [] = closed t g
run A n (suc f) t g (p ∷ q) = go_on (take A n p g q) (contradiction (suc t)) (run A n f (suc t))
