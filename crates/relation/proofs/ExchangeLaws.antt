-- Exchanging the two events: of a relation, and of a set (its converse).
use mathlib.Core.Path.{◌≡◌, refl, sym, ap, ap₂, ◌∙◌, subst}
use mathlib.Core.Bool.{Bool, ◌&&◌}
use Prim.Native.Nat.{ℕ, ◌^◌, ◌<◌}
use native.Mathlib.Omega.{arith}
use lib.Dec.{T, eqb, ltb, eqb→eq, eqb_refl, ltb→lt}
use lib.Bits.{bit_and, bit_or, and_le_l}
use Rattle.relation.specs.Comparing.{rel_of}
use Rattle.relation.specs.Meaning.{Event, exchanged}
use Rattle.relation.specs.Sets.{member, set_below, set_of, some, union_over, Inside}
use Rattle.relation.specs.Composition.{converse}
use Rattle.relation.proofs.Tested.{T_of, of_T, and_left, and_right, all, all-at, both_ways}
use Rattle.relation.proofs.Relations.{rel_of_lt, exactly_one, exchanged-holds}
use Rattle.relation.proofs.SetLaws.{member_and, member-mark, mark_lt, same}
use Rattle.relation.proofs.UnionLaws.{union_lt, union-from, union-to, union-none, union-mark, union_or}

-- ---- of a relation

exchanged_test : T (all 13 (λ r. ltb (exchanged r) 13 && eqb (exchanged (exchanged r)) r))
unfolding exchanged
exchanged_test = tt

module _ (r : ℕ) (h : r < 13) where
  at_r : T (ltb (exchanged r) 13 && eqb (exchanged (exchanged r)) r)
  at_r = all-at 13 (λ r. ltb (exchanged r) 13 && eqb (exchanged (exchanged r)) r) exchanged_test r h

  pub exchanged_lt : exchanged r < 13
  exchanged_lt = ltb→lt (exchanged r) 13 (and_left (ltb (exchanged r) 13) (eqb (exchanged (exchanged r)) r) at_r)

  pub exchanged_twice : exchanged (exchanged r) ≡ r
  exchanged_twice = eqb→eq (exchanged (exchanged r)) r (and_right (ltb (exchanged r) 13) (eqb (exchanged (exchanged r)) r) at_r)

-- the relation from Y to X is the one from X to Y, exchanged
pub rel_of-back : (X Y : Event) → rel_of Y X ≡ exchanged (rel_of X Y)
rel_of-back X Y =
    (exactly_one (exchanged (rel_of X Y)) Y X).0 (exchanged-holds X Y (rel_of X Y) ((exactly_one (rel_of X Y) X Y).1 refl))

-- ---- of a set

pub converse_lt : (a : ℕ) → converse a < 8192
unfolding converse
converse_lt a = union_lt (λ r. 2 ^ exchanged r) a

pub member-converse : (a t : ℕ) → t < 13 → member t (converse a) ≡ member (exchanged t) a
unfolding converse
member-converse a t h = both_ways (member t (converse a)) (member (exchanged t) a) there back
  where
    there : T (member t (converse a)) → T (member (exchanged t) a)
    there w =
        let g = union-from (λ r. 2 ^ exchanged r) a t h w in
        let e : t ≡ exchanged g.by =
        eqb→eq t (exchanged g.by) (subst T (member-mark (exchanged g.by) t (exchanged_lt g.by g.by_lt) h) g.gives) in
        subst (λ (u : ℕ). T (member u a)) (sym (ap exchanged e ∙ exchanged_twice g.by g.by_lt)) g.by_in

    back : T (member (exchanged t) a) → T (member t (converse a))
    back w =
        union-to (λ r. 2 ^ exchanged r) a t h
        (record {
          by = exchanged t;
          by_lt = exchanged_lt t h;
          by_in = w;
          gives = T_of (ap (λ (v : ℕ). member t (2 ^ v)) (exchanged_twice t h) ∙ member-mark t t h h ∙ of_T (eqb t t) (eqb_refl t));
        })

-- the converse means exchanging the two events
pub converse-means : (a : ℕ) (X Y : Event) → member (rel_of Y X) (converse a) ≡ member (rel_of X Y) a
converse-means a X Y =
    member-converse a (rel_of Y X) (rel_of_lt Y X)
    ∙ ap (λ (r : ℕ). member r a) (ap exchanged (rel_of-back X Y) ∙ exchanged_twice (rel_of X Y) (rel_of_lt X Y))

pub converse_twice : (a : ℕ) → a < 8192 → converse (converse a) ≡ a
converse_twice a h =
    same (converse (converse a)) a (converse_lt (converse a)) h
    (λ t l. member-converse (converse a) t l ∙ member-converse a (exchanged t) (exchanged_lt t l)
    ∙ ap (λ (u : ℕ). member u a) (exchanged_twice t l))

-- all relations, turned round, are all relations
pub converse-all : converse 8191 ≡ 8191
unfolding member set_below set_of some union_over exchanged converse
converse-all = refl

pub converse-eq : converse 4096 ≡ 4096
unfolding member set_below set_of some union_over exchanged converse
converse-eq = refl

pub converse-none : converse 0 ≡ 0
unfolding converse
converse-none = union-none (λ r. 2 ^ exchanged r)

pub converse-mark : (r : ℕ) → r < 13 → converse (2 ^ r) ≡ 2 ^ exchanged r
unfolding converse
converse-mark r h = union-mark (λ r. 2 ^ exchanged r) r h (mark_lt (exchanged r) (exchanged_lt r h))

pub converse_and : (a b : ℕ) → converse (bit_and a b) ≡ bit_and (converse a) (converse b)
converse_and a b =
    let l = converse_lt a in
    same (converse (bit_and a b)) (bit_and (converse a) (converse b)) (converse_lt (bit_and a b))
    (omega (arith, and_le_l (converse a) (converse b)))
    (λ t h. member-converse (bit_and a b) t h ∙ member_and (exchanged t) a b
    ∙ sym (member_and t (converse a) (converse b) ∙ ap₂ (λ (x y : Bool). x && y) (member-converse a t h) (member-converse b t h)))

pub converse_or : (a b : ℕ) → converse (bit_or a b) ≡ bit_or (converse a) (converse b)
unfolding converse
converse_or a b = union_or (λ r. 2 ^ exchanged r) a b

pub converse-inside : (a b : ℕ) → Inside a b → Inside (converse a) (converse b)
converse-inside a b i =
    record {
      each = λ t h w.
          subst T (sym (member-converse b t h)) (i.each (exchanged t) (exchanged_lt t h) (subst T (member-converse a t h) w));
    }
