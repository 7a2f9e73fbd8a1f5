-- Parts of a sweep of plain closing, over any calculus. Inner functions cite this; the public statement does not.
use Rattle.std.specs.Prelude.{◌≡◌, List, [], ◌∷◌, Bool, true, false, ℕ, ◌+◌, ◌/◌, ◌%◌, ◌<◌}
use Rattle.grid.specs.Cells.{cell, put_both}
use Rattle.theory.specs.Calculus.{Calculus}
use Rattle.theory.specs.Line.{all_pairs}
use Rattle.theory.specs.Quick.{cut_to}

-- three different events: a route from a to b over c
pub record Distinct (n a b c : ℕ) : Type 0 where
  pub ha : a < n
  pub hb : b < n
  pub hc : c < n
  pub ab : a ≡ b → ⊥
  pub bc : b ≡ c → ⊥
  pub ac : a ≡ c → ⊥

-- one cut of a cell (a, b), a < b, that shrinks it and leaves something
pub record Shrinks (A : Calculus) (n : ℕ) (g g' : List ℕ) : Type 0 where
  pub a : ℕ
  pub m : ℕ
  pub b : ℕ
  pub low : a < b
  pub route : Distinct n a b m
  pub less : cut_to A (cell n g) a m b ≡ cell n g a b → ⊥
  pub some : cut_to A (cell n g) a m b ≡ 0 → ⊥
  pub is : g' ≡ put_both A.conv n g a b (cut_to A (cell n g) a m b)

pub data Cuts (A : Calculus) (n : ℕ) (g : List ℕ) : List ℕ → Type 0 where
  none : Cuts A n g g
  more : {g₁ g₂ : List ℕ} → Cuts A n g g₁ → Shrinks A n g₁ g₂ → Cuts A n g g₂

-- cuts lead to a grid with a route that leaves nothing
pub record DeadEnd (A : Calculus) (n : ℕ) (g : List ℕ) : Type 0 where
  pub at : List ℕ
  pub cuts : Cuts A n g at
  pub a : ℕ
  pub m : ℕ
  pub b : ℕ
  pub route : Distinct n a b m
  pub empty : cut_to A (cell n at) a m b ≡ 0

-- the sum of f over a list
unfoldable pub sum : (ℕ → ℕ) → List ℕ → ℕ
sum f [] = 0
sum f (p ∷ ps) = f p + sum f ps

-- the relations that the cells of the pairs still have
abbrev pub weight : (ℕ → ℕ) → ℕ → List ℕ → ℕ
weight size n g = sum (λ p. size (cell n g (p / 32) (p % 32))) (all_pairs n)

-- a part of a sweep: from g to g', over the routes S, with or without a change
pub record Progress (A : Calculus) (size : ℕ → ℕ) (n : ℕ) (S : ℕ → ℕ → ℕ → Type 0) (g g' : List ℕ) (c : Bool) : Type 0 where
  pub cuts : Cuts A n g g'
  pub moved : c ≡ true → weight size n g' < weight size n g
  pub still : c ≡ false → (g' ≡ g) × ((a m b : ℕ) → S a m b → cut_to A (cell n g) a m b ≡ cell n g a b)
