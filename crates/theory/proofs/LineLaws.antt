-- The waiting list: joining loses nobody and brings in one; a pair and its number.
use mathlib.Core.Path.{◌≡◌, refl, ap, ap₂, sym, ◌∙◌}
use mathlib.Core.List.{List, [], ◌∷◌, ◌++◌}
use mathlib.Core.Bool.{Bool}
use mathlib.Core.Logic.{◌⊎◌, inl, inr}
use Prim.Native.Nat.{ℕ, ◌+◌, ◌/◌, ◌%◌, ◌≤◌, ◌<◌}
use native.Mathlib.Omega.{arith}
use native.Mathlib.Decide.{ℕ_discrete}
use borrow.Author.Tests.{eq-eqb, ne_eqb}
use lib.ListN.{length, length-append}
use Rattle.relation.specs.Sets.{one_if}
use Rattle.theory.specs.Line.{IsPair, Pairs, pair_of, occurs, joins}

pub occurs-append : (p : ℕ) (q r : List ℕ) → occurs p (q ++ r) ≡ occurs p q + occurs p r
unfolding occurs
occurs-append p [] r = omega arith
occurs-append p (x ∷ q) r = omega (arith, occurs-append p q r)

pub occurs-cons-same : (p : ℕ) (q : List ℕ) → occurs p (p ∷ q) ≡ 1 + occurs p q
unfolding occurs
occurs-cons-same p q = ap (λ (b : Bool). one_if b + occurs p q) (eq-eqb p p refl)

pub occurs-cons-other : (c p : ℕ) (q : List ℕ) → (c ≡ p → ⊥) → occurs c (p ∷ q) ≡ occurs c q
unfolding occurs
occurs-cons-other c p q ne = rw (ne_eqb c p ne) (omega arith)

pub occurs_nil : (p : ℕ) → occurs p [] ≡ 0
unfolding occurs
occurs_nil p = refl

-- joining loses nobody, brings in p, and nobody else
module _ (p : ℕ) (q : List ℕ) where
  joins_cases : Dec (occurs p q ≡ 0) → (P : List ℕ → Type 0) → (occurs p q ≡ 0 → P (q ++ (p ∷ []))) → ((occurs p q ≡ 0 → ⊥) → P q) → P (joins p q)
  unfolding joins
  joins_cases (yes e) P a b = rw (eq-eqb (occurs p q) 0 e) (a e)
  joins_cases (no ne) P a b = rw (ne_eqb (occurs p q) 0 ne) (b ne)

  pub joins-keeps : (c : ℕ) → 0 < occurs c q → 0 < occurs c (joins p q)
  joins-keeps c h = joins_cases (ℕ_discrete (occurs p q) 0) (λ r. 0 < occurs c r) (λ e. omega (arith, occurs-append c q (p ∷ []))) (λ ne. h)

  pub joins_here : 0 < occurs p (joins p q)
  joins_here = joins_cases (ℕ_discrete (occurs p q) 0) (λ r. 0 < occurs p r) (λ e. omega (arith, occurs-append p q (p ∷ []), occurs-cons-same p [])) (λ ne. omega arith)

  pub joins_only : (c : ℕ) → (c ≡ p → ⊥) → occurs c (joins p q) ≡ occurs c q
  joins_only c ne =
      joins_cases (ℕ_discrete (occurs p q) 0) (λ r. occurs c r ≡ occurs c q)
      (λ e. omega (arith, occurs-append c q (p ∷ []), occurs-cons-other c p [] ne, occurs_nil c)) (λ n. refl)

-- pairs wait, and one more that joins
pub pairs-joins : (n p : ℕ) (q : List ℕ) → IsPair n p → Pairs n q → Pairs n (joins p q)
pairs-joins n p q ok Q c h = go (ℕ_discrete c p)
  where
    go : Dec (c ≡ p) → IsPair n c
    go (yes e) = rw e ok
    go (no ne) = Q c (rw (joins_only p q c ne) at h)

-- a pair's number and its two events
pub pair_comm : (a b : ℕ) → pair_of a b ≡ pair_of b a
pair_comm a b = omega arith

pub pair_same : {a b x y : ℕ} → a ≡ x → b ≡ y → pair_of a b ≡ pair_of x y
pair_same p q = ap₂ pair_of p q

pub pair_swap : {a b x y : ℕ} → a ≡ y → b ≡ x → pair_of a b ≡ pair_of x y
pair_swap {a} {b} p q = pair_comm a b ∙ ap₂ pair_of q p

-- pairs with one event in common
pub pair-second : (a b y : ℕ) → a < 32 → b < 32 → y < 32 → pair_of a b ≡ pair_of a y → b ≡ y
pair-second a b y ha hb hy e = omega arith

pub pair-events : (a b x y : ℕ) → a < 32 → b < 32 → x < 32 → y < 32 → pair_of a b ≡ pair_of x y → ((a ≡ x) × (b ≡ y)) ⊎ ((a ≡ y) × (b ≡ x))
pair-events a b x y ha hb hx hy e = go (ℕ_discrete a x) (ℕ_discrete a y)
  where
    none : (a ≡ x → ⊥) → (a ≡ y → ⊥) → ⊥
    none p q = omega arith

    go : Dec (a ≡ x) → Dec (a ≡ y) → ((a ≡ x) × (b ≡ y)) ⊎ ((a ≡ y) × (b ≡ x))
    go (yes p) d = inl (p, pair-second a b y ha hb hy (e ∙ pair_same (sym p) refl))
    go (no p) (yes q) = inr (q, pair-second a b x ha hb hx (e ∙ pair_swap refl (sym q)))
    go (no p) (no q) = absurd (none p q)

pub pair_ok : (n x y : ℕ) → n ≤ 32 → x < n → y < n → (x ≡ y → ⊥) → IsPair n (pair_of x y)
pair_ok n x y few hx hy ne = (omega arith, omega arith)

pub length-joins : (p : ℕ) (q : List ℕ) → length (joins p q) ≤ length q + 1
length-joins p q = joins_cases p q (ℕ_discrete (occurs p q) 0) (λ r. length r ≤ length q + 1) (λ e. omega (arith, length-append q (p ∷ []))) (λ ne. omega arith)

pub pair_number : (n p : ℕ) → IsPair n p → pair_of (p / 32) (p % 32) ≡ p
pair_number n p ok = omega arith

pub pair-low : (n p : ℕ) → IsPair n p → p / 32 < n
pair-low n p ok = omega arith
