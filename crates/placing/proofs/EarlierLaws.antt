-- The four sets of relations under which an end of X is before an end of Y agree with the meaning: one computed test over ranks.
use mathlib.Core.Path.{◌≡◌, refl, sym, ap, ap₂, ◌∙◌, subst}
use mathlib.Core.Bool.{Bool, true, false, not, ◌&&◌}
use mathlib.Core.List.{List, [], ◌∷◌}
use Prim.Native.Nat.{ℕ, zero, suc, ◌^◌, ◌<◌}
use native.Mathlib.Omega.{arith}
use borrow.Author.Tests.{eq-eqb, ne_eqb}
use lib.Bits.{bit_and, and_le_l}
use lib.Dec.{T, eqb, ltb, eqb→eq, eqb_refl, lit<}
use lib.IntN.{ℤ}
use lib.Signed.{lt_z}
use Rattle.relation.specs.Comparing.{rel_by}
use Rattle.relation.specs.Meaning.{Event, Holds}
use Rattle.relation.specs.Sets.{member}
use Rattle.relation.proofs.Tested.{of_T, false_of, and_left, and_right, all, all-at, all_pairs, all_pairs-at, same_test, same_test_eq}
use Rattle.relation.proofs.Rank.{In, here, there, rank, rank_lt, rank_keeps}
use Rattle.relation.proofs.Order.{whole}
use Rattle.relation.proofs.Relations.{exactly_one}
use Rattle.relation.proofs.SetLaws.{member_and, member-none, member-mark, mark_lt, same}
use Rattle.relation.proofs.TableLaws.{rel_keeps, rank_lasts}
use Rattle.placing.specs.Settling.{earlier}

-- the start (0) or end of an event
abbrev pub end_of : ℕ → Event → ℤ
end_of zero X = X.start
end_of (suc e) X = X.end

-- the number of the start (0) or end
abbrev pick : ℕ → ℕ → ℕ → ℕ
pick zero a b = a
pick (suc e) a b = b

-- ---- the test

abbrev right : ℕ → ℕ → Bool
unfolding member same_test earlier
right e f =
    all_pairs 4 (λ a b. all_pairs 4 (λ c d. same_test (member (rel_by ltb a b c d) (earlier e f)) (ltb (pick e a b) (pick f c d))))

tested : T (all 2 (λ e. all 2 (λ f. right e f)))
unfolding member same_test earlier
tested = tt

module _ (e f : ℕ) (he : e < 2) (hf : f < 2) where
  -- a relation says which ends are before which
  pub earlier-is : (t : ℕ) (X Y : Event) → Holds t X Y → member t (earlier e f) ≡ lt_z (end_of e X) (end_of f Y)
  unfolding same_test right
  earlier-is t X Y h =
      ap (λ (r : ℕ). member r (earlier e f)) (sym ((exactly_one t X Y).0 h) ∙ rel_keeps L X Y x₀ x₁ y₀ y₁)
      ∙ same_test_eq (member (rel_by ltb (k X.start) (k X.end) (k Y.start) (k Y.end)) (earlier e f))
      (ltb (pick e (k X.start) (k X.end)) (pick f (k Y.start) (k Y.end)))
      (all_pairs-at 4
      (λ c d. same_test (member (rel_by ltb (k X.start) (k X.end) c d) (earlier e f)) (ltb (pick e (k X.start) (k X.end)) (pick f c d)))
      (all_pairs-at 4 (λ a b. all_pairs 4 (λ c d. same_test (member (rel_by ltb a b c d) (earlier e f)) (ltb (pick e a b) (pick f c d))))
      (all-at 2 (right e) (all-at 2 (λ e. all 2 (right e)) tested e he) f hf) (k X.start) (k X.end) (rank_lasts L X x₀ x₁)
      (rank_lt lt_z whole L X.end x₁))
      (k Y.start) (k Y.end) (rank_lasts L Y y₀ y₁) (rank_lt lt_z whole L Y.end y₁))
      ∙ back e f
    where
      L : List ℤ
      L = X.start ∷ X.end ∷ Y.start ∷ Y.end ∷ []

      k : ℤ → ℕ
      k = rank lt_z L

      x₀ : In X.start L
      x₀ = here

      x₁ : In X.end L
      x₁ = there here

      y₀ : In Y.start L
      y₀ = there (there here)

      y₁ : In Y.end L
      y₁ = there (there (there here))

      back : (e f : ℕ) → ltb (pick e (k X.start) (k X.end)) (pick f (k Y.start) (k Y.end)) ≡ lt_z (end_of e X) (end_of f Y)
      back zero zero = sym (rank_keeps lt_z whole L X.start Y.start x₀ y₀)
      back zero (suc f) = sym (rank_keeps lt_z whole L X.start Y.end x₀ y₁)
      back (suc e) zero = sym (rank_keeps lt_z whole L X.end Y.start x₁ y₀)
      back (suc e) (suc f) = sym (rank_keeps lt_z whole L X.end Y.end x₁ y₁)

-- ---- one relation, cut with a set

-- something is left exactly if the relation is in the set
pub mark-cut : (t a : ℕ) → t < 13 → not (eqb (bit_and (2 ^ t) a) 0) ≡ member t a
mark-cut t a h = go (member t a) refl
  where
    own : member t (2 ^ t) ≡ true
    own = member-mark t t h h ∙ of_T (eqb t t) (eqb_refl t)

    there-is : (u : ℕ) → u < 13 → member t a ≡ false → T (member u (2 ^ t)) → T (member u a) → ⊥
    there-is u l e v w =
        let q : u ≡ t = eqb→eq u t (subst T (member-mark t u h l) v) in
        subst T (ap (λ (x : ℕ). member x a) q ∙ e) w

    nothing : member t a ≡ false → (u : ℕ) → u < 13 → member u (bit_and (2 ^ t) a) ≡ member u 0
    nothing e u l =
        false_of (member u (bit_and (2 ^ t) a))
        (λ w. let v = subst T (member_and u (2 ^ t) a) w in
        there-is u l e (and_left (member u (2 ^ t)) (member u a) v) (and_right (member u (2 ^ t)) (member u a) v))
        ∙ sym (member-none u)

    go : (x : Bool) → member t a ≡ x → not (eqb (bit_and (2 ^ t) a) 0) ≡ x
    go true e =
        ap not
        (ne_eqb (bit_and (2 ^ t) a) 0
        (λ z. subst T (sym (member_and t (2 ^ t) a ∙ ap₂ (λ (x y : Bool). x && y) own e) ∙ ap (member t) z ∙ member-none t) tt))
    go false e =
        let l : bit_and (2 ^ t) a < 8192 = omega (arith, and_le_l (2 ^ t) a, mark_lt t h) in
        ap not (eq-eqb (bit_and (2 ^ t) a) 0 (same (bit_and (2 ^ t) a) 0 l (lit< tt) (nothing e)))
