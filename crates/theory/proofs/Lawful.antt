-- The laws of a calculus that closing uses, and no others.
use mathlib.Core.Path.{◌≡◌}
use Prim.Native.Nat.{ℕ, ◌<◌}
use Rattle.relation.specs.Sets.{Inside}
use Rattle.theory.specs.Calculus.{Calculus, Sub}

pub record Lawful (A : Calculus) : Type 0 where
  pub meet_comm : (a b : ℕ) → A.meet a b ≡ A.meet b a
  pub meet_assoc : (a b c : ℕ) → A.meet (A.meet a b) c ≡ A.meet a (A.meet b c)
  pub meet_self : (a : ℕ) → A.meet a a ≡ a
  pub meet_zero : (a : ℕ) → A.meet a 0 ≡ 0
  pub conv_zero : A.conv 0 ≡ 0
  pub conv-meet : (a b : ℕ) → A.conv (A.meet a b) ≡ A.meet (A.conv a) (A.conv b)
  pub comp_mono : (i k j a b a' b' : ℕ) → Sub A a a' → Sub A b b' → Sub A (A.comp i k j a b) (A.comp i k j a' b')
  pub comp_zero_l : (i k j b : ℕ) → A.comp i k j 0 b ≡ 0
  pub comp_zero_r : (i k j a : ℕ) → A.comp i k j a 0 ≡ 0
  pub conv-comp : (i k j a b : ℕ) → A.conv (A.comp i k j a b) ≡ A.comp j k i (A.conv b) (A.conv a)

-- its sets are sets of the thirteen relations
pub record OfSets (A : Calculus) : Type 0 where
  pub members : (a b : ℕ) → Sub A a b → Inside a b
  pub inside : (a b : ℕ) → a < 8192 → Inside a b → Sub A a b
  pub small : (a b : ℕ) → Sub A a b → b < 8192 → a < 8192

-- the laws of eq, used only where a grid without empty cells and without waiting pairs is shown closed
pub record EqLawful (A : Calculus) : Type 0 where
  pub eq_l : (i j a : ℕ) → Sub A a (A.top i j) → Sub A a (A.comp i i j A.eq a)
  pub eq_r : (i j a : ℕ) → Sub A a (A.top i j) → Sub A a (A.comp i j j a A.eq)
  pub eq_in : (i j a : ℕ) → Sub A a (A.top i j) → (a ≡ 0 → ⊥) → Sub A A.eq (A.comp i j i a (A.conv a))
