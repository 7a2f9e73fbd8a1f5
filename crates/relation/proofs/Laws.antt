-- The laws of composition of sets, from its meaning.
use mathlib.Core.Path.{◌≡◌, refl, sym, ap, ◌∙◌, subst}
use mathlib.Core.Logic.{◌↔◌}
use Prim.Native.Nat.{ℕ, ◌≤◌, ◌<◌}
use native.Mathlib.Omega.{arith}
use native.Mathlib.Decide.{dec_lt}
use lib.Dec.{T, eqb→eq, ltb, ltb→lt, lit<}
use mathlib.Core.List.{List, []}
use lib.ListN.{get_or, get_or-eq_default}
use lib.Bits.{bit_or, or_lt}
use Rattle.relation.specs.Comparing.{rel_of}
use Rattle.relation.specs.Meaning.{Event, Holds, exchanged}
use Rattle.relation.specs.Sets.{member, Inside}
use Rattle.relation.specs.Composition.{Composed, table, entry, converse, compose_row, compose}
use Rattle.relation.proofs.Tested.{T_of, all, all-at}
use Rattle.relation.proofs.Relations.{rel_of_lt, exactly_one, exchanged-holds}
use Rattle.relation.proofs.TableLaws.{agrees, stands, middle, beside}
use Rattle.relation.proofs.SetLaws.{member-none, member-mark, same-inside}
use Rattle.relation.proofs.LowestLaws.{some-member}
use Rattle.relation.proofs.UnionLaws.{union_lt, union-from, union-to, union-none, union_or}
use Rattle.relation.proofs.ExchangeLaws.{exchanged_lt, exchanged_twice, member-converse, converse_lt, converse_twice, converse_or}

-- ---- the table

entry_test : T (all 13 (λ r. all 13 (λ s. ltb (entry r s) 8192)))
unfolding entry
entry_test = tt

pub entry_lt : (r s : ℕ) → r < 13 → s < 13 → entry r s < 8192
entry_lt r s h k =
    ltb→lt (entry r s) 8192
    (all-at 13 (λ s. ltb (entry r s) 8192) (all-at 13 (λ r. all 13 (λ s. ltb (entry r s) 8192)) entry_test r h) s k)

-- past the last row there is nothing
pub entry_beyond : (r s : ℕ) → 13 ≤ r → entry r s ≡ 0
unfolding entry
entry_beyond r s h = ap (λ (l : List ℕ). get_or l s 0) (get_or-eq_default table [] h)

pub entry-small : (r s : ℕ) → s < 13 → entry r s < 8192
entry-small r s k = go (dec_lt r 13)
  where
    go : Dec (r < 13) → entry r s < 8192
    go (yes h) = entry_lt r s h k
    go (no n) = let e = entry_beyond r s (omega arith) in omega arith

-- ---- the members of a composition

pub row_lt : (r b : ℕ) → compose_row r b < 8192
unfolding compose_row
row_lt r b = union_lt (entry r) b

pub compose_lt : (a b : ℕ) → compose a b < 8192
unfolding compose
compose_lt a b = union_lt (λ r. compose_row r b) a

-- the two members that a member of a composition comes from
pub record From (a b t : ℕ) : Type 0 where
  pub r : ℕ
  pub s : ℕ
  pub r_lt : r < 13
  pub s_lt : s < 13
  pub r_in : T (member r a)
  pub s_in : T (member s b)
  pub stood : T (member t (entry r s))

pub compose-from : (a b t : ℕ) → t < 13 → T (member t (compose a b)) → From a b t
unfolding compose compose_row
compose-from a b t h w =
    let x = union-from (λ r. compose_row r b) a t h w in
    let y = union-from (entry x.by) b t h x.gives in
    record { r = x.by; s = y.by; r_lt = x.by_lt; s_lt = y.by_lt; r_in = x.by_in; s_in = y.by_in; stood = y.gives }

pub compose-to : (a b t : ℕ) → t < 13 → From a b t → T (member t (compose a b))
unfolding compose compose_row
compose-to a b t h f =
    union-to (λ r. compose_row r b) a t h
    (record {
      by = f.r;
      by_lt = f.r_lt;
      by_in = f.r_in;
      gives = union-to (entry f.r) b t h (record { by = f.s; by_lt = f.s_lt; by_in = f.s_in; gives = f.stood });
    })

-- ---- what composition means

pub compose-means : (a b t : ℕ) → t < 13
    → T (member t (compose a b)) ↔ ((r : ℕ) × (s : ℕ) × (r < 13) × (s < 13) × T (member r a) × T (member s b) × Composed r s t)
compose-means a b t h = (
  λ w. let f = compose-from a b t h w in
      (f.r, f.s, f.r_lt, f.s_lt, f.r_in, f.s_in, (agrees f.r f.s t f.r_lt f.s_lt h).0 f.stood),
  λ w. compose-to a b t h
      (record {
        r = w.0;
        s = w.1;
        r_lt = w.2;
        s_lt = w.3;
        r_in = w.4;
        s_in = w.5;
        stood = (agrees w.0 w.1 t w.2 w.3 h).1 w.6;
      }),
)

-- three placed events: what holds of X to Z is in the composition of what X to Y and Y to Z may be
pub compose-placed : (X Y Z : Event) (a b : ℕ) → T (member (rel_of X Y) a) → T (member (rel_of Y Z) b)
    → T (member (rel_of X Z) (compose a b))
compose-placed X Y Z a b h k =
    compose-to a b (rel_of X Z) (rel_of_lt X Z)
    (record { r = rel_of X Y; s = rel_of Y Z; r_lt = rel_of_lt X Y; s_lt = rel_of_lt Y Z; r_in = h; s_in = k; stood = stands X Y Z })

-- ---- monotone, and over unions

pub compose_mono : (a a' b b' : ℕ) → Inside a a' → Inside b b' → Inside (compose a b) (compose a' b')
compose_mono a a' b b' i j =
    record {
      each = λ t h w.
          let f = compose-from a b t h w in
          compose-to a' b' t h
          (record {
            r = f.r;
            s = f.s;
            r_lt = f.r_lt;
            s_lt = f.s_lt;
            r_in = i.each f.r f.r_lt f.r_in;
            s_in = j.each f.s f.s_lt f.s_in;
            stood = f.stood;
          });
    }

pub compose_or_left : (a a' b : ℕ) → compose (bit_or a a') b ≡ bit_or (compose a b) (compose a' b)
unfolding compose
compose_or_left a a' b = union_or (λ r. compose_row r b) a a'

-- ---- the converse of a composition

turned : (r s t : ℕ) → r < 13 → s < 13 → t < 13 → T (member (exchanged t) (entry r s))
    → T (member t (entry (exchanged s) (exchanged r)))
turned r s t hr hs ht w =
    let c : Composed r s (exchanged t) = (agrees r s (exchanged t) hr hs (exchanged_lt t ht)).0 w in
    (agrees (exchanged s) (exchanged r) t (exchanged_lt s hs) (exchanged_lt r hr) ht).1
    (record {
      X = c.Z;
      Y = c.Y;
      Z = c.X;
      first = exchanged-holds c.Y c.Z s c.second;
      second = exchanged-holds c.X c.Y r c.first;
      whole = subst (λ (u : ℕ). Holds u c.Z c.X) (exchanged_twice t ht) (exchanged-holds c.X c.Z (exchanged t) c.whole);
    })

member_turned : (c v : ℕ) → v < 13 → T (member v c) → T (member (exchanged v) (converse c))
member_turned c v h w =
    subst T (sym (member-converse c (exchanged v) (exchanged_lt v h))) (subst (λ (u : ℕ). T (member u c)) (sym (exchanged_twice v h)) w)

pub compose-converse : (a b : ℕ) → converse (compose a b) ≡ compose (converse b) (converse a)
compose-converse a b =
    same-inside (converse (compose a b)) (compose (converse b) (converse a)) (converse_lt (compose a b))
    (compose_lt (converse b) (converse a)) (record { each = there }) (record { each = back })
  where
    there : (t : ℕ) → t < 13 → T (member t (converse (compose a b))) → T (member t (compose (converse b) (converse a)))
    there t h w =
        let f = compose-from a b (exchanged t) (exchanged_lt t h) (subst T (member-converse (compose a b) t h) w) in
        compose-to (converse b) (converse a) t h
        (record {
          r = exchanged f.s;
          s = exchanged f.r;
          r_lt = exchanged_lt f.s f.s_lt;
          s_lt = exchanged_lt f.r f.r_lt;
          r_in = member_turned b f.s f.s_lt f.s_in;
          s_in = member_turned a f.r f.r_lt f.r_in;
          stood = turned f.r f.s t f.r_lt f.s_lt h f.stood;
        })

    back : (t : ℕ) → t < 13 → T (member t (compose (converse b) (converse a))) → T (member t (converse (compose a b)))
    back t h w =
        let f = compose-from (converse b) (converse a) t h w in
        subst T (sym (member-converse (compose a b) t h))
        (compose-to a b (exchanged t) (exchanged_lt t h)
        (record {
          r = exchanged f.s;
          s = exchanged f.r;
          r_lt = exchanged_lt f.s f.s_lt;
          s_lt = exchanged_lt f.r f.r_lt;
          r_in = subst T (member-converse a f.s f.s_lt) f.s_in;
          s_in = subst T (member-converse b f.r f.r_lt) f.r_in;
          stood =
              turned f.r f.s (exchanged t) f.r_lt f.s_lt (exchanged_lt t h)
              (subst (λ (u : ℕ). T (member u (entry f.r f.s))) (sym (exchanged_twice t h)) f.stood);
        }))

pub compose_or_right : (a b b' : ℕ) → compose a (bit_or b b') ≡ bit_or (compose a b) (compose a b')
compose_or_right a b b' =
    sym (converse_twice (compose a (bit_or b b')) (compose_lt a (bit_or b b'))) ∙ ap converse turned_round
    ∙ converse_twice (bit_or (compose a b) (compose a b')) (or_lt 13 (compose a b) (compose a b') (compose_lt a b) (compose_lt a b'))
  where
    turned_round : converse (compose a (bit_or b b')) ≡ converse (bit_or (compose a b) (compose a b'))
    turned_round =
        cc (compose-converse a (bit_or b b'), converse_or b b', compose_or_left (converse b) (converse b') (converse a), compose-converse a b, compose-converse a b', converse_or (compose a b) (compose a b'))

-- ---- nothing, and eq

pub compose-none-left : (b : ℕ) → compose 0 b ≡ 0
unfolding compose
compose-none-left b = union-none (λ r. compose_row r b)

pub compose-none-right : (a : ℕ) → compose a 0 ≡ 0
compose-none-right a =
    same-inside (compose a 0) 0 (compose_lt a 0) (lit< tt)
    (record { each = λ t h w. let f = compose-from a 0 t h w in absurd (subst T (member-none f.s) f.s_in) })
    (record { each = λ t h w. absurd (subst T (member-none t) w) })

-- X and Y at the same place: a third event has to both the same relation
same_place : (X Y Z : Event) → Holds 12 X Y → rel_of X Z ≡ rel_of Y Z
unfolding rel_of
same_place X Y Z e = cc (e.0, e.1)

same_place_back : (X Y Z : Event) → Holds 12 X Y → rel_of Z X ≡ rel_of Z Y
unfolding rel_of
same_place_back X Y Z e = cc (e.0, e.1)

eq-first : (s t : ℕ) → s < 13 → t < 13 → T (member t (entry 12 s)) → t ≡ s
eq-first s t hs ht w =
    let c = (agrees 12 s t (lit< tt) hs ht).0 w in
    sym ((exactly_one t c.X c.Z).0 c.whole) ∙ same_place c.X c.Y c.Z c.first ∙ (exactly_one s c.Y c.Z).0 c.second

eq-second : (r t : ℕ) → r < 13 → t < 13 → T (member t (entry r 12)) → t ≡ r
eq-second r t hr ht w =
    let c = (agrees r 12 t hr (lit< tt) ht).0 w in
    sym ((exactly_one t c.X c.Z).0 c.whole) ∙ sym (same_place_back c.Y c.Z c.X c.second)
    ∙ (exactly_one r c.X c.Y).0 c.first

eq-first_in : (s : ℕ) → s < 13 → T (member s (entry 12 s))
eq-first_in s h =
    let p = beside s h in
    (agrees 12 s s (lit< tt) h h).1
    (record { X = p.X; Y = p.X; Z = middle; first = (refl, refl); second = p.is; whole = p.is })

eq-second_in : (r : ℕ) → r < 13 → T (member r (entry r 12))
eq-second_in r h =
    let p = beside r h in
    (agrees r 12 r h (lit< tt) h).1
    (record { X = p.X; Y = middle; Z = middle; first = p.is; second = (refl, refl); whole = p.is })

-- X r Y and back again
eq_between : (r : ℕ) → r < 13 → T (member 12 (entry r (exchanged r)))
eq_between r h =
    let p = beside r h in
    (agrees r (exchanged r) 12 h (exchanged_lt r h) (lit< tt)).1
    (record {
      X = p.X;
      Y = middle;
      Z = p.X;
      first = p.is;
      second = exchanged-holds p.X middle r p.is;
      whole = (refl, refl);
    })

is_eq : (r : ℕ) → r < 13 → T (member r 4096) → r ≡ 12
is_eq r h w = eqb→eq r 12 (subst T (member-mark 12 r (lit< tt) h) w)

eq_is : T (member 12 4096)
eq_is = T_of (member-mark 12 12 (lit< tt) (lit< tt))

-- eq is the identity
pub compose-eq-left : (b : ℕ) → b < 8192 → compose 4096 b ≡ b
compose-eq-left b l =
    same-inside (compose 4096 b) b (compose_lt 4096 b) l (record { each = λ t h w. there t h (compose-from 4096 b t h w) })
    (record {
      each = λ t h w.
          compose-to 4096 b t h
          (record { r = 12; s = t; r_lt = lit< tt; s_lt = h; r_in = eq_is; s_in = w; stood = eq-first_in t h });
    })
  where
    there : (t : ℕ) → t < 13 → From 4096 b t → T (member t b)
    there t h f =
        let e = eq-first f.s t f.s_lt h (subst (λ (r : ℕ). T (member t (entry r f.s))) (is_eq f.r f.r_lt f.r_in) f.stood) in
        subst (λ (u : ℕ). T (member u b)) (sym e) f.s_in

pub compose-eq-right : (a : ℕ) → a < 8192 → compose a 4096 ≡ a
compose-eq-right a l =
    same-inside (compose a 4096) a (compose_lt a 4096) l (record { each = λ t h w. there t h (compose-from a 4096 t h w) })
    (record {
      each = λ t h w.
          compose-to a 4096 t h
          (record { r = t; s = 12; r_lt = h; s_lt = lit< tt; r_in = w; s_in = eq_is; stood = eq-second_in t h });
    })
  where
    there : (t : ℕ) → t < 13 → From a 4096 t → T (member t a)
    there t h f =
        let e = eq-second f.r t f.r_lt h (subst (λ (s : ℕ). T (member t (entry f.r s))) (is_eq f.s f.s_lt f.s_in) f.stood) in
        subst (λ (u : ℕ). T (member u a)) (sym e) f.r_in

-- any two relations hold of two events to one: so each is allowed by some relation with the other
allowed_left : (m t : ℕ) → m < 13 → t < 13 → (r : ℕ) × (r < 13) × T (member t (entry r m))
allowed_left m t hm ht =
    let Y = beside m hm in
    let X = beside t ht in
    let r = rel_of X.X Y.X in (
      r,
      rel_of_lt X.X Y.X,
      (agrees r m t (rel_of_lt X.X Y.X) hm ht).1
          (record { X = X.X; Y = Y.X; Z = middle; first = (exactly_one r X.X Y.X).1 refl; second = Y.is; whole = X.is }),
    )

-- and turned round
allowed_right : (m t : ℕ) → m < 13 → t < 13 → (s : ℕ) × (s < 13) × T (member t (entry m s))
allowed_right m t hm ht =
    let w = allowed_left (exchanged m) (exchanged t) (exchanged_lt m hm) (exchanged_lt t ht) in (
      exchanged w.0,
      exchanged_lt w.0 w.1,
      subst (λ (k : ℕ). T (member t (entry k (exchanged w.0)))) (exchanged_twice m hm)
          (turned w.0 (exchanged m) t w.1 (exchanged_lt m hm) ht w.2),
    )

all_test : T (all 13 (λ t. member t 8191))
unfolding member
all_test = tt

all_there : (t : ℕ) → t < 13 → T (member t 8191)
all_there = all-at 13 (λ t. member t 8191) all_test

-- all relations with a set that has a member allow all
pub compose-all-left : (b : ℕ) → (b ≡ 0 → ⊥) → b < 8192 → compose 8191 b ≡ 8191
compose-all-left b nz l =
    same-inside (compose 8191 b) 8191 (compose_lt 8191 b) (lit< tt) (record { each = λ t h w. all_there t h })
    (record {
      each = λ t h w.
          let m = some-member b (omega (arith, nz)) l in
          let r = allowed_left m.0 t m.1 h in
          compose-to 8191 b t h (record { r = r.0; s = m.0; r_lt = r.1; s_lt = m.1; r_in = all_there r.0 r.1; s_in = m.2; stood = r.2 });
    })

pub compose-all-right : (a : ℕ) → (a ≡ 0 → ⊥) → a < 8192 → compose a 8191 ≡ 8191
compose-all-right a nz l =
    same-inside (compose a 8191) 8191 (compose_lt a 8191) (lit< tt) (record { each = λ t h w. all_there t h })
    (record {
      each = λ t h w.
          let m = some-member a (omega (arith, nz)) l in
          let s = allowed_right m.0 t m.1 h in
          compose-to a 8191 t h (record { r = m.0; s = s.0; r_lt = m.1; s_lt = s.1; r_in = m.2; s_in = all_there s.0 s.1; stood = s.2 });
    })

-- eq is in the composition of a set that has a member with its converse
pub eq-inside : (a : ℕ) → (a ≡ 0 → ⊥) → a < 8192 → Inside 4096 (compose a (converse a))
eq-inside a nz l =
    let m = some-member a (omega arith) l in
    record {
      each = λ t h w.
          subst (λ (u : ℕ). T (member u (compose a (converse a)))) (sym (is_eq t h w))
          (compose-to a (converse a) 12 (lit< tt)
          (record {
            r = m.0;
            s = exchanged m.0;
            r_lt = m.1;
            s_lt = exchanged_lt m.0 m.1;
            r_in = m.2;
            s_in = member_turned a m.0 m.1 m.2;
            stood = eq_between m.0 m.1;
          }));
    }
