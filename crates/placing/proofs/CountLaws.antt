-- How many numbers pass a test: laws of counting, and that a count of what is below keeps a weak order.
use mathlib.Core.Path.{◌≡◌, refl, sym, ap, ap₂, ◌∙◌, subst}
use mathlib.Core.Bool.{Bool, true, false}
use mathlib.Core.List.{List, [], ◌∷◌}
use Prim.Native.Nat.{ℕ, zero, suc, ◌+◌, ◌≤◌, ◌<◌}
use native.Mathlib.Nat.{not-suc-le-zero, le_of_eq}
use native.Mathlib.Decide.{dec_lt, ℕ_discrete}
use native.Mathlib.Numerals.{add-one}
use native.Mathlib.Omega.{arith}
use lib.Arith.{le-zero}
use lib.Dec.{T, ltb}
use Rattle.relation.specs.Sets.{one_if, some}
use Rattle.relation.proofs.Tested.{both_ways, some_at, some_in}
use Rattle.relation.proofs.Rank.{In, here, there, Weak, rank, rank_keeps, digit_le_one}
use Rattle.placing.specs.Settling.{count}

-- ---- tests that agree

pub some_same : (k : ℕ) (s t : ℕ → Bool) → ((i : ℕ) → i < k → s i ≡ t i) → some k s ≡ some k t
some_same k s t h =
    both_ways (some k s) (some k t)
    (λ w. let x = some_at k s w in some_in k t x.0 x.1 (subst T (h x.0 x.1) x.2))
    (λ w. let x = some_at k t w in some_in k s x.0 x.1 (subst T (sym (h x.0 x.1)) x.2))

pub count_same : (k : ℕ) (s t : ℕ → Bool) → ((i : ℕ) → i < k → s i ≡ t i) → count k s ≡ count k t
unfolding count
count_same zero s t h = refl
count_same (suc k) s t h =
    ap₂ (λ (x : Bool) (y : ℕ). one_if x + y) (h k (omega arith)) (count_same k s t (λ i l. h i (omega arith)))

-- ---- one test, counted further and further

module _ (t : ℕ → Bool) where
  pub count_none : count 0 t ≡ 0
  unfolding count
  count_none = refl

  count-more : (k : ℕ) → count (k + 1) t ≡ one_if (t k) + count k t
  unfolding count
  count-more k = rw add-one

  -- one turn of a loop that counts
  pub count-step : (k found next : ℕ) (b x : Bool) → found ≡ count k t → b ≡ t k → b ≡ x → next ≡ found + one_if x → next ≡ count (k + 1) t
  count-step k found next b x e f g h =
      let q : one_if x ≡ one_if (t k) = ap one_if (sym g ∙ f) in
      omega (arith, count-more k)

  pub count_le : (k : ℕ) → count k t ≤ k
  unfolding count
  count_le zero = omega arith
  count_le (suc k) = omega (arith, digit_le_one (t k), count_le k)

  pub count_up : (v w : ℕ) → v ≤ w → count v t ≤ count w t
  unfolding count
  count_up v zero h = le_of_eq (ap (λ (k : ℕ). count k t) (le-zero h))
  count_up v (suc w) h = go (ℕ_discrete v (suc w)) (count_up v w)
    where
      go : Dec (v ≡ suc w) → (v ≤ w → count v t ≤ count w t) → count v t ≤ one_if (t w) + count w t
      go (yes e) f = le_of_eq (ap (λ (k : ℕ). count k t) e)
      go (no n) f = omega (arith, f (omega arith))

  -- past one that passes the count is more
  pub count_less : (v w : ℕ) → t v ≡ true → v < w → count v t < count w t
  count_less v w e h =
      let d : one_if (t v) ≡ 1 = ap one_if e in
      omega (arith, count-more v, count_up (v + 1) w (omega arith))

  -- each smaller number is the count at one that passes
  pub count-onto : (v w : ℕ) → w < count v t → (u : ℕ) × (t u ≡ true) × (count u t ≡ w)
  unfolding count
  count-onto zero w h = absurd (not-suc-le-zero h)
  count-onto (suc v) w h = go (t v) refl h (count-onto v w) (dec_lt w (count v t))
    where
      go : (x : Bool) → t v ≡ x → w < one_if x + count v t → (w < count v t → (u : ℕ) × (t u ≡ true) × (count u t ≡ w))
          → Dec (w < count v t) → (u : ℕ) × (t u ≡ true) × (count u t ≡ w)
      go x e l f (yes p) = f p
      go true e l f (no n) = (v, e, omega arith)
      go false e l f (no n) = absurd (n (omega arith))

-- ---- how many are below, in a weak order

upto : ℕ → List ℕ
upto zero = []
upto (suc k) = k ∷ upto k

in_upto : (k i : ℕ) → i < k → In i (upto k)
unfolding upto
in_upto zero i h = absurd (not-suc-le-zero h)
in_upto (suc k) i h = go (ℕ_discrete i k) (in_upto k i)
  where
    go : Dec (i ≡ k) → (i < k → In i (upto k)) → In i (k ∷ upto k)
    go (yes e) f = subst (λ (j : ℕ). In j (k ∷ upto k)) (sym e) here
    go (no n) f = there (f (omega arith))

module _ (lt : ℕ → ℕ → Bool) where
  count_rank : (m p : ℕ) → count m (λ q. lt q p) ≡ rank lt (upto m) p
  unfolding count rank upto
  count_rank zero p = refl
  count_rank (suc m) p = ap (λ (x : ℕ). one_if (lt m p) + x) (count_rank m p)

  -- counts compare as the things do
  pub count-keeps : Weak lt → (m p q : ℕ) → p < m → q < m → lt p q ≡ ltb (count m (λ z. lt z p)) (count m (λ z. lt z q))
  count-keeps W m p q hp hq =
      rank_keeps lt W (upto m) p q (in_upto m p hp) (in_upto m q hq)
      ∙ ap₂ (λ (x y : ℕ). ltb x y) (sym (count_rank m p)) (sym (count_rank m q))
