-- Tests that antt computes over all small numbers, and what a passed test says of each.
use mathlib.Core.Path.{◌≡◌, refl, sym, ap, ◌∙◌, subst}
use mathlib.Core.Bool.{Bool, true, false, ◌&&◌, ◌||◌}
use Prim.Native.Nat.{ℕ, zero, suc, ◌+◌, ◌<◌}
use native.Mathlib.Nat.{not-suc-le-zero, le_refl}
use native.Mathlib.Numerals.{add-one}
use native.Mathlib.Decide.{ℕ_discrete}
use native.Mathlib.Omega.{arith}
use lib.Dec.{T, ltb, ltb→lt, lt→ltb}
use Rattle.relation.specs.Sets.{some}

-- ---- a test that is passed

pub T_of : {x : Bool} → x ≡ true → T x
T_of e = subst T (sym e) tt

pub of_T : (x : Bool) → T x → x ≡ true
of_T true t = refl
of_T false t = absurd t

pub false_of : (x : Bool) → (T x → ⊥) → x ≡ false
false_of true n = absurd (n tt)
false_of false n = refl

pub and_left : (p q : Bool) → T (p && q) → T p
and_left true q t = tt
and_left false q t = t

pub and_right : (p q : Bool) → T (p && q) → T q
and_right true q t = t
and_right false q t = absurd t

pub and_both : (p q : Bool) → T p → T q → T (p && q)
and_both true q t u = u
and_both false q t u = t

-- where p passes, q does: as the test `elim p [ false ↦ true | true ↦ q ]`
pub when_at : (p q : Bool) → T (elim p [ false ↦ true | true ↦ q ]) → T p → T q
when_at true q t h = t
when_at false q t h = absurd h

pub also_at : (p : Bool) (q : Bool) → T (elim p [ false ↦ false | true ↦ q ]) → T p × T q
also_at true q t = (tt, t)
also_at false q t = absurd t

pub or_cases : (p q : Bool) → T (p || q) → (X : Type 0) → (T p → X) → (T q → X) → X
or_cases true q t X f g = f tt
or_cases false q t X f g = g t

pub or_left : (p q : Bool) → T p → T (p || q)
or_left true q t = tt
or_left false q t = absurd t

pub or_right : (p q : Bool) → T q → T (p || q)
or_right true q t = tt
or_right false q t = t

pub or_assoc : (p q r : Bool) → (p || (q || r)) ≡ ((p || q) || r)
or_assoc true q r = refl
or_assoc false q r = refl

-- two tests agree
unfoldable pub same_test : Bool → Bool → Bool
same_test true q = q
same_test false true = false
same_test false false = true

pub same_test_eq : (p q : Bool) → T (same_test p q) → p ≡ q
unfolding same_test
same_test_eq true true t = refl
same_test_eq true false t = absurd t
same_test_eq false true t = absurd t
same_test_eq false false t = refl

-- every number below k
abbrev pub all : ℕ → (ℕ → Bool) → Bool
all zero p = true
all (suc k) p = p k && all k p

pub all-at : (k : ℕ) (p : ℕ → Bool) → T (all k p) → (i : ℕ) → i < k → T (p i)
all-at zero p t i h = absurd (not-suc-le-zero h)
all-at (suc k) p t i h = go (ℕ_discrete i k) (all-at k p (and_right (p k) (all k p) t) i)
  where
    go : Dec (i ≡ k) → (i < k → T (p i)) → T (p i)
    go (yes e) f = subst (λ (j : ℕ). T (p j)) (sym e) (and_left (p k) (all k p) t)
    go (no n) f = f (omega arith)

-- some number below k
pub some_at : (k : ℕ) (p : ℕ → Bool) → T (some k p) → (i : ℕ) × (i < k) × T (p i)
unfolding some
some_at zero p t = absurd t
some_at (suc k) p t = go (p k) refl t (some_at k p)
  where
    go : (x : Bool) → p k ≡ x → T (elim x [ true ↦ true | false ↦ some k p ]) → (T (some k p) → (i : ℕ) × (i < k) × T (p i))
        → (i : ℕ) × (i < suc k) × T (p i)
    go true e u f = (k, le_refl (suc k), subst T (sym e) tt)
    go false e u f = let r = f u in (r.0, omega arith, r.2)

pub some_in : (k : ℕ) (p : ℕ → Bool) (i : ℕ) → i < k → T (p i) → T (some k p)
unfolding some
some_in zero p i h t = absurd (not-suc-le-zero h)
some_in (suc k) p i h t = go (p k) refl (ℕ_discrete i k) (some_in k p i)
  where
    go : (x : Bool) → p k ≡ x → Dec (i ≡ k) → (i < k → T (p i) → T (some k p)) → T (elim x [ true ↦ true | false ↦ some k p ])
    go true e d f = tt
    go false e (yes q) f = absurd (subst T (ap p q ∙ e) t)
    go false e (no n) f = f (omega arith) t

-- one more number
pub some_next : (k : ℕ) (p : ℕ → Bool) → (some k p || p k) ≡ some (k + 1) p
unfolding some
some_next k p = rw (add-one) (go (some k p) (p k))
  where
    go : (x y : Bool) → (x || y) ≡ elim y [ true ↦ true | false ↦ x ]
    go true true = refl
    go true false = refl
    go false true = refl
    go false false = refl

-- two tests that pass together are equal
pub both_ways : (p q : Bool) → (T p → T q) → (T q → T p) → p ≡ q
both_ways true true f g = refl
both_ways true false f g = absurd (f tt)
both_ways false true f g = absurd (g tt)
both_ways false false f g = refl

-- ---- looking for a number that passes, from 0 on

-- none below k passes
abbrev pub NoneBelow : (ℕ → Bool) → ℕ → Type 0
NoneBelow p k = (i : ℕ) → i < k → p i ≡ false

pub some_yes : (k : ℕ) (p : ℕ → Bool) (i : ℕ) → i < k → p i ≡ true → some k p ≡ true
some_yes k p i h e = of_T (some k p) (some_in k p i h (subst T (sym e) tt))

pub some_no : (k : ℕ) (p : ℕ → Bool) → NoneBelow p k → some k p ≡ false
some_no k p f = false_of (some k p) (λ t. let w = some_at k p t in absurd (subst T (f w.0 w.1) w.2))

-- every pair a < b < k
abbrev pub all_pairs : ℕ → (ℕ → ℕ → Bool) → Bool
all_pairs k p = all k (λ a. all k (λ b. elim (ltb a b) [ false ↦ true | true ↦ p a b ]))

pub all_pairs-at : (k : ℕ) (p : ℕ → ℕ → Bool) → T (all_pairs k p) → (a b : ℕ) → a < b → b < k → T (p a b)
all_pairs-at k p t a b h l =
    when_at (ltb a b) (p a b)
    (all-at k (λ b. elim (ltb a b) [ false ↦ true | true ↦ p a b ])
    (all-at k (λ a. all k (λ b. elim (ltb a b) [ false ↦ true | true ↦ p a b ])) t a (omega arith)) b l)
    (lt→ltb a b h)

-- some pair a < b < k
abbrev pub any_pair : ℕ → (ℕ → ℕ → Bool) → Bool
unfolding some
any_pair k p = some k (λ a. some k (λ b. elim (ltb a b) [ false ↦ false | true ↦ p a b ]))

pub any_pair_at : (k : ℕ) (p : ℕ → ℕ → Bool) → T (any_pair k p) → (a : ℕ) × (b : ℕ) × (a < b) × T (p a b)
unfolding some
any_pair_at k p t =
    let x = some_at k (λ a. some k (λ b. elim (ltb a b) [ false ↦ false | true ↦ p a b ])) t in
    let y = some_at k (λ b. elim (ltb x.0 b) [ false ↦ false | true ↦ p x.0 b ]) x.2 in
    let z = also_at (ltb x.0 y.0) (p x.0 y.0) y.2 in
    (x.0, y.0, ltb→lt x.0 y.0 z.0, z.1)
