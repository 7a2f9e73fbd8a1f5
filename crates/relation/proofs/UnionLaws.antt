-- The union of sets f r over the members r of a set: what its members are, and how a loop over the relations gathers it.
use mathlib.Core.Path.{◌≡◌, sym, ap, ◌∙◌, subst}
use mathlib.Core.Bool.{◌&&◌, cond}
use Prim.Native.Nat.{ℕ, zero, suc, ◌+◌, ◌*◌, ◌/◌, ◌%◌, ◌^◌, ◌<◌}
use native.Mathlib.Omega.{arith}
use lib.Dec.{T, eqb, eqb→eq, eqb_refl, lit<}
use native.Mathlib.Nat.{add_comm, mod-lt}
use lib.Bits.{bit_or, or_lt, or_shifted_r}
use lib.Pow.{pow_pos, mod-pow-add}
use Rattle.relation.specs.Sets.{member, some, union_over, Inside}
use Rattle.relation.proofs.Tested.{T_of, of_T, and_left, and_right, and_both, or_cases, some_at, some_in}
use Rattle.relation.proofs.SetLaws.{member_or, member-low_marks, member-none, member-mark, set_of_lt, member-set_of, same-inside, inside_or_left, inside_or_right, or_inside}

-- ---- the members of a union

pub union_lt : (f : ℕ → ℕ) (a : ℕ) → union_over f a < 8192
unfolding union_over
union_lt f a = set_of_lt (λ t. some 13 (λ r. member r a && member t (f r)))

-- where a member of the union comes from
pub record Given (f : ℕ → ℕ) (a t : ℕ) : Type 0 where
  pub by : ℕ
  pub by_lt : by < 13
  pub by_in : T (member by a)
  pub gives : T (member t (f by))

pub union-from : (f : ℕ → ℕ) (a t : ℕ) → t < 13 → T (member t (union_over f a)) → Given f a t
unfolding union_over
union-from f a t h w =
    let x =
    some_at 13 (λ r. member r a && member t (f r))
    (subst T (member-set_of (λ t. some 13 (λ r. member r a && member t (f r))) t h) w) in
    record {
      by = x.0;
      by_lt = x.1;
      by_in = and_left (member x.0 a) (member t (f x.0)) x.2;
      gives = and_right (member x.0 a) (member t (f x.0)) x.2;
    }

pub union-to : (f : ℕ → ℕ) (a t : ℕ) → t < 13 → Given f a t → T (member t (union_over f a))
unfolding union_over
union-to f a t h g =
    subst T (sym (member-set_of (λ t. some 13 (λ r. member r a && member t (f r))) t h))
    (some_in 13 (λ r. member r a && member t (f r)) g.by g.by_lt
    (and_both (member g.by a) (member t (f g.by)) g.by_in g.gives))

-- ---- unions of more and of less

module _ (f : ℕ → ℕ) where
  pub union_mono : (a b : ℕ) → Inside a b → Inside (union_over f a) (union_over f b)
  union_mono a b i =
      record {
        each = λ t h w.
            let g = union-from f a t h w in
            union-to f b t h (record { by = g.by; by_lt = g.by_lt; by_in = i.each g.by g.by_lt g.by_in; gives = g.gives });
      }

  -- marks above the thirteen count for nothing
  pub union-small : (a : ℕ) → union_over f (a % 8192) ≡ union_over f a
  union-small a =
      same-inside (union_over f (a % 8192)) (union_over f a) (union_lt f (a % 8192)) (union_lt f a)
      (union_mono (a % 8192) a (record { each = λ r h w. subst T (member-low_marks r a h) w }))
      (union_mono a (a % 8192) (record { each = λ r h w. subst T (sym (member-low_marks r a h)) w }))

  pub union-none : union_over f 0 ≡ 0
  union-none =
      same-inside (union_over f 0) 0 (union_lt f 0) (lit< tt)
      (record { each = λ t h w. let g = union-from f 0 t h w in absurd (subst T (member-none g.by) g.by_in) })
      (record { each = λ t h w. absurd (subst T (member-none t) w) })

  pub union-mark : (r : ℕ) → r < 13 → f r < 8192 → union_over f (2 ^ r) ≡ f r
  union-mark r h l =
      same-inside (union_over f (2 ^ r)) (f r) (union_lt f (2 ^ r)) l
      (record {
        each = λ t k w.
            let g = union-from f (2 ^ r) t k w in
            let e : g.by ≡ r = eqb→eq g.by r (subst T (member-mark r g.by h g.by_lt) g.by_in) in
            subst (λ (x : ℕ). T (member t (f x))) e g.gives;
      })
      (record {
        each = λ t k w.
            union-to f (2 ^ r) t k
            (record { by = r; by_lt = h; by_in = T_of (member-mark r r h h ∙ of_T (eqb r r) (eqb_refl r)); gives = w });
      })

-- a union over a union
module _ (f : ℕ → ℕ) (a b : ℕ) where
  pub union_or : union_over f (bit_or a b) ≡ bit_or (union_over f a) (union_over f b)
  union_or =
      same-inside (union_over f (bit_or a b)) (bit_or (union_over f a) (union_over f b)) (union_lt f (bit_or a b))
      (or_lt 13 (union_over f a) (union_over f b) (union_lt f a) (union_lt f b))
      (record { each = λ t h w. one t h (union-from f (bit_or a b) t h w) })
      (or_inside (union_over f a) (union_over f b) (union_over f (bit_or a b)) (union_mono f a (bit_or a b) (inside_or_left a b))
      (union_mono f b (bit_or a b) (inside_or_right a b)))
    where
      one : (t : ℕ) → t < 13 → Given f (bit_or a b) t → T (member t (bit_or (union_over f a) (union_over f b)))
      one t h g =
          or_cases (member g.by a) (member g.by b) (subst T (member_or g.by a b) g.by_in)
          (T (member t (bit_or (union_over f a) (union_over f b))))
          (λ u. (inside_or_left (union_over f a) (union_over f b)).each t h
          (union-to f a t h (record { by = g.by; by_lt = g.by_lt; by_in = u; gives = g.gives })))
          (λ u. (inside_or_right (union_over f a) (union_over f b)).each t h
          (union-to f b t h (record { by = g.by; by_lt = g.by_lt; by_in = u; gives = g.gives })))

-- ---- one relation after the other: the union over the members below r, and then over r too

module _ (f : ℕ → ℕ) (a : ℕ) where
  pub below_first : 0 ≡ union_over f (a % 2 ^ 0)
  below_first = let e : a % 1 ≡ 0 = omega arith in sym (ap (union_over f) e ∙ union-none f)

  pub below_next : (r : ℕ) → r < 13 → f r < 8192
      → bit_or (union_over f (a % 2 ^ r)) (cond (member r a) (f r) 0) ≡ union_over f (a % 2 ^ (r + 1))
  unfolding member
  below_next r h l =
      ap (bit_or (union_over f (a % 2 ^ r))) (mark_of (a / 2 ^ r % 2) (omega arith)) ∙ sym (union_or f (a % 2 ^ r) (a / 2 ^ r % 2 * 2 ^ r))
      ∙ ap (union_over f) (or_shifted_r (a / 2 ^ r % 2) r (a % 2 ^ r) (mod-lt a (pow_pos r)) ∙ sym (mod-pow-add a 1 r) ∙ ap (λ (k : ℕ). a % 2 ^ k) (add_comm 1 r))
    where
      mark_of : (x : ℕ) → x < 2 → cond (eqb x 1) (f r) 0 ≡ union_over f (x * 2 ^ r)
      mark_of zero k = let z : 0 * 2 ^ r ≡ 0 = omega arith in sym (ap (union_over f) z ∙ union-none f)
      mark_of (suc zero) k = let z : 1 * 2 ^ r ≡ 2 ^ r = omega arith in sym (ap (union_over f) z ∙ union-mark f r h l)
      mark_of (suc (suc x)) k = absurd (omega arith)
