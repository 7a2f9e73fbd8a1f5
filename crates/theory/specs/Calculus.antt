-- What a calculus of sets brings: that of the thirteen relations is one, and composition may depend on the three events.
use Rattle.std.specs.Prelude.{◌≡◌, ℕ}

-- `comp i k j a b`: what i to j can be where i to k is in a and k to j is in b. `top i j`: all that i to j can be.
pub record Calculus : Type 0 where
  pub meet : ℕ → ℕ → ℕ
  pub conv : ℕ → ℕ
  pub comp : ℕ → ℕ → ℕ → ℕ → ℕ → ℕ
  pub eq : ℕ
  pub top : ℕ → ℕ → ℕ

-- a lies inside b
abbrev pub Sub : Calculus → ℕ → ℕ → Type 0
Sub A a b = A.meet a b ≡ a
