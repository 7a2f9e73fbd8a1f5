-- The rank of a thing in a list, which keeps every comparison of a weak order.
use mathlib.Core.Path.{◌≡◌, refl, sym, ap}
use mathlib.Core.Bool.{Bool, true, false}
use mathlib.Core.List.{List, [], ◌∷◌}
use Prim.Native.Nat.{ℕ, ◌+◌, ◌≤◌, ◌<◌}
use native.Mathlib.Nat.{le_of_lt}
use native.Mathlib.Omega.{arith}
use lib.Dec.{T, ltb}
use lib.ListN.{length}
use borrow.Author.Tests.{lt-ltb, le-ltb}
use Rattle.relation.specs.Sets.{one_if}
use Rattle.relation.proofs.Tested.{T_of, of_T, false_of}

pub data In {A : Type 0} (x : A) : List A → Type 0 where
  here : {ys : List A} → In x (x ∷ ys)
  there : {y : A} {ys : List A} → In x ys → In x (y ∷ ys)

-- a strict order in which those that do not compare are as one
pub record Weak {A : Type 0} (lt : A → A → Bool) : Type 0 where
  pub asym : (x y : A) → T (lt x y) → T (lt y x) → ⊥
  pub trans : (x y z : A) → T (lt x y) → T (lt y z) → T (lt x z)
  pub split : (x y z : A) → T (lt x z) → lt y z ≡ false → T (lt x y)

digit_le : (p q : Bool) → (T p → T q) → one_if p ≤ one_if q
digit_le true true h = omega arith
digit_le true false h = absurd (h tt)
digit_le false true h = omega arith
digit_le false false h = omega arith

pub digit_le_one : (p : Bool) → one_if p ≤ 1
digit_le_one true = omega arith
digit_le_one false = omega arith

-- how many of the list are below x
unfoldable pub rank : {A : Type 0} → (A → A → Bool) → List A → A → ℕ
rank lt [] x = 0
rank lt (y ∷ ys) x = one_if (lt y x) + rank lt ys x

module _ {A : Type 0} (lt : A → A → Bool) (W : Weak lt) where
  irrefl : (x : A) → lt x x ≡ false
  irrefl x = false_of (lt x x) (λ t. W.asym x x t t)

  -- what is below x is below y
  rank_le : (L : List A) (x y : A) → ((z : A) → T (lt z x) → T (lt z y)) → rank lt L x ≤ rank lt L y
  unfolding rank
  rank_le [] x y h = omega arith
  rank_le (z ∷ zs) x y h = omega (arith, digit_le (lt z x) (lt z y) (h z), rank_le zs x y h)

  rank_less : (L : List A) (x y : A) → In x L → T (lt x y) → rank lt L x < rank lt L y
  unfolding rank
  rank_less [] x y i h = elim i [ ]
  rank_less (z ∷ zs) x y here h =
      let e : one_if (lt x x) ≡ 0 = ap one_if (irrefl x) in
      let f : one_if (lt x y) ≡ 1 = ap one_if (of_T (lt x y) h) in
      omega (arith, rank_le zs x y (λ w k. W.trans w x y k h))
  rank_less (z ∷ zs) x y (there i) h =
      omega (arith, digit_le (lt z x) (lt z y) (λ k. W.trans z x y k h), rank_less zs x y i h)

  rank_all : (L : List A) (x : A) → rank lt L x ≤ length L
  unfolding rank
  rank_all [] x = omega arith
  rank_all (w ∷ ws) x = omega (arith, digit_le_one (lt w x), rank_all ws x)

  -- a rank is below the list's length
  pub rank_lt : (L : List A) (x : A) → In x L → rank lt L x < length L
  unfolding rank
  rank_lt [] x i = elim i [ ]
  rank_lt (z ∷ zs) x here =
      let e : one_if (lt x x) ≡ 0 = ap one_if (irrefl x) in
      omega (arith, rank_all zs x)
  rank_lt (z ∷ zs) x (there i) = omega (arith, digit_le_one (lt z x), rank_lt zs x i)

  -- ranks compare as the things do
  pub rank_keeps : (L : List A) (x y : A) → In x L → In y L → lt x y ≡ ltb (rank lt L x) (rank lt L y)
  rank_keeps L x y i j = go (lt x y) (lt y x) refl refl
    where
      go : (p q : Bool) → lt x y ≡ p → lt y x ≡ q → p ≡ ltb (rank lt L x) (rank lt L y)
      go true q e f = sym (lt-ltb (rank lt L x) (rank lt L y) (rank_less L x y i (T_of e)))
      go false true e f = sym (le-ltb (rank lt L x) (rank lt L y) (le_of_lt (rank_less L y x j (T_of f))))
      go false false e f = sym (le-ltb (rank lt L x) (rank lt L y) (rank_le L y x (λ z h. W.split z x y h e)))
