-- How a closing of a given grid ends, by its meaning alone; any two ends that do not pause are the same.
use mathlib.Core.Path.{◌≡◌, refl, sym, subst}
use mathlib.Core.List.{List}
use Prim.Native.Nat.{ℕ, ◌*◌, ◌<◌}
use native.Mathlib.Omega.{arith}
use lib.ListN.{length}
use Rattle.grid.specs.Cells.{cell, EmptyCell}
use Rattle.grid.specs.Accepted.{grid_refusal}
use Rattle.grid.proofs.CellLaws.{same-cells}
use Rattle.theory.specs.Allen.{allen}
use Rattle.theory.specs.Closing.{Closing}
use Rattle.theory.proofs.AllenLaws.{lawful}
use Rattle.theory.proofs.ClosingLaws.{closing_unique}

-- an answer of a closing without its takes
pub data Kind : Type 0 where
  closes : Kind
  contradicts : Kind
  pauses : Kind
  refuses : ℕ → Kind

-- the largest closed grid inside g, as a list
pub record Largest (n : ℕ) (g h : List ℕ) : Type 0 where
  pub none : grid_refusal n g ≡ 0
  pub long : length h ≡ n * n
  pub closing : Closing allen n (cell n g) (cell n h)

-- a closing of g that does not pause answers so and leaves the cells h
pub data EndsAs (n : ℕ) (g : List ℕ) : Kind → List ℕ → Type 0 where
  refusing : 0 < grid_refusal n g → EndsAs n g (refuses (grid_refusal n g)) g
  full : {h : List ℕ} → Largest n g h → (EmptyCell n h → ⊥) → EndsAs n g closes h
  emptied : {h : List ℕ} → Largest n g h → EmptyCell n h → EndsAs n g contradicts h

module _ (n : ℕ) (g : List ℕ) where
  pub largest_unique : (h k : List ℕ) → Largest n g h → Largest n g k → h ≡ k
  largest_unique h k p q =
      same-cells n h k p.long q.long (closing_unique allen lawful n (cell n g) (cell n h) (cell n k) p.closing q.closing)

  pub ends_unique : {a b : Kind} {h k : List ℕ} → EndsAs n g a h → EndsAs n g b k → (a ≡ b) × (h ≡ k)
  ends_unique (refusing p) (refusing q) = (refl, refl)
  ends_unique (refusing p) (full q f) = absurd (omega (arith, p, q.none))
  ends_unique (refusing p) (emptied q e) = absurd (omega (arith, p, q.none))
  ends_unique (full p f) (refusing q) = absurd (omega (arith, q, p.none))
  ends_unique {h = h} {k = k} (full p f) (full q f') = (refl, largest_unique h k p q)
  ends_unique {h = h} {k = k} (full p f) (emptied q e) = absurd (f (subst (EmptyCell n) (sym (largest_unique h k p q)) e))
  ends_unique (emptied p e) (refusing q) = absurd (omega (arith, q, p.none))
  ends_unique {h = h} {k = k} (emptied p e) (full q f) = absurd (f (subst (EmptyCell n) (largest_unique h k p q) e))
  ends_unique {h = h} {k = k} (emptied p e) (emptied q e') = (refl, largest_unique h k p q)
