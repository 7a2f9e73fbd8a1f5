-- A cell that is not the converse of its mirror is found above the diagonal, where the other cells are all right.
use mathlib.Core.Path.{◌≡◌, sym, ap, ap₂, ◌∙◌, subst}
use mathlib.Core.Bool.{Bool, false, not, ◌&&◌}
use mathlib.Core.List.{List}
use Prim.Native.Nat.{ℕ, ◌+◌, ◌*◌, ◌≤◌, ◌<◌}
use native.Mathlib.Decide.{ℕ_discrete, dec_lt}
use native.Mathlib.Omega.{arith}
use borrow.Author.Tests.{lt-ltb, ltb-false, eqb-true, eq-eqb, ne_eqb, not-false}
use lib.Arith.{digits_lt}
use lib.Dec.{T, eqb, ltb}
use lib.ListN.{length, get_or}
use Rattle.relation.specs.Sets.{some}
use Rattle.relation.specs.Composition.{converse}
use Rattle.relation.proofs.Tested.{T_of, and_right, and_both, some_at, some_in, both_ways}
use Rattle.relation.proofs.ExchangeLaws.{converse-all, converse-eq, converse_twice}
use Rattle.grid.specs.Cells.{cell}
use Rattle.grid.specs.Accepted.{some_large, not_eq, some_not_eq, unlike, row_unlike, some_unlike}
use Rattle.grid.specs.Steps.{above_unlike}
use Rattle.grid.proofs.AcceptedLaws.{none_passes}

-- one pair, from the two cells read
pub unlike-all : (n : ℕ) (g : List ℕ) (i j set mirror : ℕ) → set ≡ cell n g i j → mirror ≡ cell n g j i → set ≡ 8191 → not (eqb mirror 8191) ≡ unlike n g i j
unlike-all n g i j set mirror e f a =
    ap₂ (λ (x y : ℕ). not (eqb x y)) f (sym converse-all ∙ ap converse (sym a ∙ e))

pub unlike-is : (n : ℕ) (g : List ℕ) (i j set mirror turned : ℕ) → set ≡ cell n g i j → mirror ≡ cell n g j i → turned ≡ converse set → not (eqb mirror turned) ≡ unlike n g i j
unlike-is n g i j set mirror turned e f t = ap₂ (λ (x y : ℕ). not (eqb x y)) f (t ∙ ap converse e)

-- ---- one row

abbrev pub above : ℕ → List ℕ → ℕ → ℕ → Bool
above n g i j = ltb i j && unlike n g i j

-- ---- all rows

module _ (n : ℕ) (g : List ℕ) (fits : n * n ≤ length g) (small : some_large g ≡ false) (diagonal : some_not_eq n g ≡ false) where
  set_lt : (i j : ℕ) → i < n → j < n → cell n g i j < 8192
  unfolding cell
  set_lt i j hi hj =
      omega (arith, ltb-false 8191 (get_or g (i * n + j) 0) (none_passes (length g) (λ p. ltb 8191 (get_or g p 0)) small (i * n + j) (omega (arith, digits_lt hi hj, fits))))

  -- an unlike pair is unlike the other way round too
  unlike-back : (i j : ℕ) → i < n → j < n → T (unlike n g i j) → T (unlike n g j i)
  unlike-back i j hi hj t =
      T_of
      (ap not
      (ne_eqb (cell n g i j) (converse (cell n g j i))
      (λ e. subst T (ap not (eq-eqb (cell n g j i) (converse (cell n g i j)) (sym (converse_twice (cell n g j i) (set_lt j i hj hi)) ∙ ap converse (sym e)))) t)))

  -- the diagonal is like itself
  like_itself : (i : ℕ) → i < n → T (unlike n g i i) → ⊥
  like_itself i hi t =
      let e : cell n g i i ≡ 4096 = eqb-true (cell n g i i) 4096 (not-false (eqb (cell n g i i) 4096) (none_passes n (not_eq n g) diagonal i hi)) in
      subst T (ap not (eq-eqb (cell n g i i) (converse (cell n g i i)) (e ∙ sym converse-eq ∙ ap converse (sym e)))) t

  pub above_enough : some n (above_unlike n g) ≡ some_unlike n g
  above_enough = both_ways (some n (above_unlike n g)) (some_unlike n g) there back
    where
      there : T (some n (above_unlike n g)) → T (some_unlike n g)
      there t =
          let a = some_at n (above_unlike n g) t in
          let b = some_at n (above n g a.0) a.2 in
          some_in n (row_unlike n g) a.0 a.1 (some_in n (unlike n g a.0) b.0 b.1 (and_right (ltb a.0 b.0) (unlike n g a.0 b.0) b.2))

      above_in : (i j : ℕ) → i < j → j < n → T (unlike n g i j) → T (some n (above_unlike n g))
      above_in i j h hj u =
          some_in n (above_unlike n g) i (omega arith) (some_in n (above n g i) j hj (and_both (ltb i j) (unlike n g i j) (T_of (lt-ltb i j h)) u))

      from : (i j : ℕ) → i < n → j < n → T (unlike n g i j) → Dec (i < j) → Dec (i ≡ j) → T (some n (above_unlike n g))
      from i j hi hj u (yes l) d = above_in i j l hj u
      from i j hi hj u (no l) (yes e) = absurd (like_itself i hi (subst (λ (x : ℕ). T (unlike n g i x)) (sym e) u))
      from i j hi hj u (no l) (no e) = above_in j i (omega arith) hi (unlike-back i j hi hj u)

      back : T (some_unlike n g) → T (some n (above_unlike n g))
      back t =
          let a = some_at n (row_unlike n g) t in
          let b = some_at n (unlike n g a.0) a.2 in
          from a.0 b.0 a.1 b.1 b.2 (dec_lt a.0 b.0) (ℕ_discrete a.0 b.0)
