-- Rules 6.1: what a statement is, and which statements are about two different events of n.
use Rattle.std.specs.Prelude.{◌≡◌, ◌⊎◌, List, [], ◌∷◌, ℕ, ◌<◌}

-- event one to event two, with a set
pub record Statement : Type 0 where
  pub one : ℕ
  pub set : ℕ
  pub two : ℕ

-- a statement is about two different events of n
pub record Fits (n : ℕ) (t : Statement) : Type 0 where
  pub one_in : t.one < n
  pub two_in : t.two < n
  pub apart : t.one ≡ t.two → ⊥

-- and so is each statement of a list
abbrev pub AllFit : ℕ → List Statement → Type 0
AllFit n [] = Unit
AllFit n (t ∷ ts) = Fits n t × AllFit n ts

-- a statement stands in a list
abbrev pub In : Statement → List Statement → Type 0
In t [] = ⊥
In t (u ∷ us) = (t ≡ u) ⊎ In t us

-- each statement of a list stands in another
abbrev pub AllIn : List Statement → List Statement → Type 0
AllIn ts us = (t : Statement) → In t ts → In t us
