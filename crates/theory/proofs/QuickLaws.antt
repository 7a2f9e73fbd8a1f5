-- How a cut and a turn go, case by case, and how many takes a run makes at most.
use mathlib.Core.Path.{◌≡◌, refl, ap}
use mathlib.Core.List.{List, [], ◌∷◌}
use Prim.Native.Nat.{ℕ, zero, suc, ◌+◌, ◌≤◌}
use native.Mathlib.Omega.{arith}
use borrow.Author.Tests.{eq-eqb, ne_eqb}
use Rattle.grid.specs.Cells.{cell, put_both}
use Rattle.theory.specs.Calculus.{Calculus}
use Rattle.theory.specs.Line.{joins, pair_of}
use Rattle.theory.specs.Quick.{cut_to, Out, dead, going, and_then, shrunk, cut, cut_back, turn, take, Ended, contradiction, closed, paused, go_on, run}

-- the grid of a step that goes on
pub going-grid : (g g' q q' : List ℕ) → going g q ≡ going g' q' → g ≡ g'
going-grid g g' q q' e = ap grid_of e
  where
    grid_of : Out → List ℕ
    grid_of dead = []
    grid_of (going h r) = h

module _ (A : Calculus) (n a b old v : ℕ) (g q : List ℕ) where
  pub shrunk-same : v ≡ old → shrunk A n a b old v g q ≡ going g q
  unfolding shrunk
  shrunk-same e = simp (eq-eqb v old e)

  pub shrunk-dead : (v ≡ old → ⊥) → v ≡ 0 → shrunk A n a b old v g q ≡ dead
  unfolding shrunk
  shrunk-dead ne z = simp (ne_eqb v old ne, eq-eqb v 0 z)

  pub shrunk_written : (v ≡ old → ⊥) → (v ≡ 0 → ⊥) → shrunk A n a b old v g q ≡ going (put_both A.conv n g a b v) (joins (pair_of a b) q)
  unfolding shrunk
  shrunk_written ne nz = simp (ne_eqb v old ne, ne_eqb v 0 nz)

-- a cut that leaves its cell as it is
pub cut-still : (A : Calculus) (n a m b : ℕ) (g q : List ℕ) → cut_to A (cell n g) a m b ≡ cell n g a b → cut A n a m b g q ≡ going g q
unfolding cut
cut-still A n a m b g q e = shrunk-same A n a b (cell n g a b) (cut_to A (cell n g) a m b) g q e

module _ (A : Calculus) (n i j k : ℕ) (g q : List ℕ) where
  pub turn_skip_i : k ≡ i → turn A n i j k g q ≡ going g q
  unfolding turn
  turn_skip_i e = simp (eq-eqb k i e)

  pub turn_skip_j : (k ≡ i → ⊥) → k ≡ j → turn A n i j k g q ≡ going g q
  unfolding turn
  turn_skip_j ne e = simp (ne_eqb k i ne, eq-eqb k j e)

  pub turn_is : (k ≡ i → ⊥) → (k ≡ j → ⊥) → turn A n i j k g q ≡ and_then (cut A n i j k g q) (cut_back A n i j k)
  unfolding turn
  turn_is ni nj = simp (ne_eqb k i ni, ne_eqb k j nj)

-- the takes of a run's end
abbrev pub takes_of : Ended → ℕ
takes_of (contradiction t) = t
takes_of (closed t g) = t
takes_of (paused t g) = t

module _ (A : Calculus) (n : ℕ) where
  -- where nothing waits, a run ends at once
  pub run_none : (f t : ℕ) (g : List ℕ) → run A n f t g [] ≡ closed t g
  unfolding run
  run_none zero t g = refl
  run_none (suc f) t g = refl

  -- the takes made before, and at most f more
  pub run-within : (f t : ℕ) (g q : List ℕ) → takes_of (run A n f t g q) ≤ t + f
  unfolding run
  run-within zero t g [] = omega arith
  run-within zero t g (p ∷ q) = omega arith
  run-within (suc f) t g [] = omega arith
  run-within (suc f) t g (p ∷ q) = go (take A n p g q) (run-within f (suc t))
    where
      go : (o : Out) → ((g q : List ℕ) → takes_of (run A n f (suc t) g q) ≤ suc t + f) → takes_of (go_on o (contradiction (suc t)) (run A n f (suc t))) ≤ t + suc f
      go dead r = omega arith
      go (going g q) r = omega (arith, r g q)
