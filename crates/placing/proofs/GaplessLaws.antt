-- Numbering without gaps: how many different values are below one. It keeps every comparison, leaves no gap, and is the only numbering that does both.
use mathlib.Core.Path.{◌≡◌, refl, sym, ap, ◌∙◌}
use mathlib.Core.Bool.{Bool, true, false}
use Prim.Native.Nat.{ℕ, zero, suc, ◌+◌, ◌≤◌, ◌<◌}
use native.Mathlib.Nat.{add_comm, le_antisymm}
use native.Mathlib.Omega.{arith}
use lib.Dec.{eqb, ltb}
use borrow.Author.Tests.{lt-ltb, le-ltb, eq-eqb, ltb-true, ltb-false, eqb-true}
use Rattle.relation.specs.Sets.{one_if}
use Rattle.relation.proofs.Tested.{T_of, of_T, some_at, some_yes}
use Rattle.placing.specs.Settling.{is_value, values_below}
use Rattle.placing.proofs.CountLaws.{some_same, count_same, count_none, count-step, count_le, count_up, count_less, count-onto}

module _ (f : ℕ → ℕ) (m : ℕ) where
  pub values_none : values_below f m 0 ≡ 0
  unfolding values_below
  values_none = count_none (is_value f m)

  pub values_le : (v : ℕ) → values_below f m v ≤ v
  unfolding values_below
  values_le v = count_le (is_value f m) v

  -- one turn of a loop that goes up
  pub values_step : (v here next : ℕ) (b x : Bool) → here ≡ values_below f m v → b ≡ is_value f m v → b ≡ x → next ≡ one_if x + here
      → next ≡ values_below f m (v + 1)
  unfolding values_below
  values_step v here next b x e h g q = count-step (is_value f m) v here next b x e h g (q ∙ add_comm (one_if x) here)

  values_less : (p w : ℕ) → p < m → f p < w → values_below f m (f p) < values_below f m w
  unfolding values_below
  values_less p w h l = count_less (is_value f m) (f p) w (some_yes m (λ q. eqb (f q) (f p)) p h (eq-eqb (f p) (f p) refl)) l

  -- every comparison is kept
  pub values_keep : (p q : ℕ) → p < m → q < m → ltb (f p) (f q) ≡ ltb (values_below f m (f p)) (values_below f m (f q))
  unfolding values_below
  values_keep p q hp hq = go (ltb (f p) (f q)) refl
    where
      go : (x : Bool) → ltb (f p) (f q) ≡ x → x ≡ ltb (values_below f m (f p)) (values_below f m (f q))
      go true e = sym (lt-ltb (values_below f m (f p)) (values_below f m (f q)) (values_less p (f q) hp (ltb-true (f p) (f q) e)))
      go false e = sym (le-ltb (values_below f m (f p)) (values_below f m (f q)) (count_up (is_value f m) (f q) (f p) (ltb-false (f p) (f q) e)))

  -- no gap: each smaller number is that of some place
  pub values_onto : (v w : ℕ) → w < values_below f m v → (p : ℕ) × (p < m) × (values_below f m (f p) ≡ w)
  unfolding values_below
  values_onto v w h =
      let d = count-onto (is_value f m) v w h in
      let s = some_at m (λ p. eqb (f p) d.0) (T_of d.1) in
      (s.0, s.1, ap (λ (u : ℕ). values_below f m u) (eqb-true (f s.0) d.0 (of_T (eqb (f s.0) d.0) s.2)) ∙ d.2)

-- the same values at the places below m
pub values_same : (m : ℕ) (f g : ℕ → ℕ) → ((p : ℕ) → p < m → f p ≡ g p) → (v : ℕ) → values_below f m v ≡ values_below g m v
unfolding values_below
values_same m f g h v =
    count_same v (is_value f m) (is_value g m)
    (λ u l. some_same m (λ p. eqb (f p) u) (λ p. eqb (g p) u) (λ p k. ap (λ (x : ℕ). eqb x u) (h p k)))

-- ---- the only one

-- at the places below m, g is larger where f is, and f has no gap
module _ (m : ℕ) (f g : ℕ → ℕ) (follows : (p q : ℕ) → p < m → q < m → f p < f q → g p < g q)
    (down : (p w : ℕ) → p < m → w < f p → (q : ℕ) × (q < m) × (f q ≡ w)) where
  gapless_le : (v p : ℕ) → p < m → f p ≡ v → v ≤ g p
  gapless_le zero p h e = omega arith
  gapless_le (suc v) p h e =
      let q = down p v h (omega arith) in
      let r = gapless_le v q.0 q.1 q.2 in
      let s = follows q.0 p q.1 h (omega (arith, q.2)) in
      omega arith

-- two numberings without gaps that compare alike are equal
pub gapless_only : (m : ℕ) (f g : ℕ → ℕ) → ((p q : ℕ) → p < m → q < m → ltb (f p) (f q) ≡ ltb (g p) (g q))
    → ((p w : ℕ) → p < m → w < f p → (q : ℕ) × (q < m) × (f q ≡ w)) → ((p w : ℕ) → p < m → w < g p → (q : ℕ) × (q < m) × (g q ≡ w))
    → (p : ℕ) → p < m → f p ≡ g p
gapless_only m f g alike df dg p h =
    le_antisymm (gapless_le m f g (λ p q hp hq l. ltb-true (g p) (g q) (sym (alike p q hp hq) ∙ lt-ltb (f p) (f q) l)) df (f p) p h refl)
    (gapless_le m g f (λ p q hp hq l. ltb-true (f p) (f q) (alike p q hp hq ∙ lt-ltb (g p) (g q) l)) dg (g p) p h refl)
