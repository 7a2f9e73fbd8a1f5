-- Between two placed events exactly one of the thirteen relations holds.
use mathlib.Core.Path.{◌≡◌, refl, sym, ap, ap₂, ◌∙◌, subst}
use mathlib.Core.Logic.{◌↔◌}
use mathlib.Core.Bool.{Bool}
use Prim.Native.Nat.{ℕ, zero, suc, ◌<◌}
use lib.Dec.{T, lit<}
use lib.IntN.{ℤ}
use lib.Signed.{lt_z, ◌<ℤ◌}
use Rattle.relation.specs.Comparing.{Order, less, same, more, order, rel_from, rel_by, rel_of}
use Rattle.relation.specs.Meaning.{Event, Holds, exchanged}
use Rattle.relation.specs.Sets.{member}
use Rattle.relation.proofs.Order.{Means, cmp, cmp_means, cmp_is, <ℤ_trans}

-- a statement of each number, by the thirteen and the rest
pub thirteen : (P : ℕ → Type 0) → P 0 → P 1 → P 2 → P 3 → P 4 → P 5 → P 6 → P 7 → P 8 → P 9 → P 10 → P 11 → P 12
    → ((t : ℕ) → P (suc (suc (suc (suc (suc (suc (suc (suc (suc (suc (suc (suc (suc t)))))))))))))) → (t : ℕ) → P t
thirteen P a b c d e f g h i j k l m n zero = a
thirteen P a b c d e f g h i j k l m n (suc zero) = b
thirteen P a b c d e f g h i j k l m n (suc (suc zero)) = c
thirteen P a b c d e f g h i j k l m n (suc (suc (suc zero))) = d
thirteen P a b c d e f g h i j k l m n (suc (suc (suc (suc zero)))) = e
thirteen P a b c d e f g h i j k l m n (suc (suc (suc (suc (suc zero))))) = f
thirteen P a b c d e f g h i j k l m n (suc (suc (suc (suc (suc (suc zero)))))) = g
thirteen P a b c d e f g h i j k l m n (suc (suc (suc (suc (suc (suc (suc zero))))))) = h
thirteen P a b c d e f g h i j k l m n (suc (suc (suc (suc (suc (suc (suc (suc zero)))))))) = i
thirteen P a b c d e f g h i j k l m n (suc (suc (suc (suc (suc (suc (suc (suc (suc zero))))))))) = j
thirteen P a b c d e f g h i j k l m n (suc (suc (suc (suc (suc (suc (suc (suc (suc (suc zero)))))))))) = k
thirteen P a b c d e f g h i j k l m n (suc (suc (suc (suc (suc (suc (suc (suc (suc (suc (suc zero))))))))))) = l
thirteen P a b c d e f g h i j k l m n (suc (suc (suc (suc (suc (suc (suc (suc (suc (suc (suc (suc zero)))))))))))) = m
thirteen P a b c d e f g h i j k l m n (suc (suc (suc (suc (suc (suc (suc (suc (suc (suc (suc (suc (suc t))))))))))))) = n t

-- ---- the relation found holds

found : (p q u v : Order) (X Y : Event) → Means p X.end Y.start → Means q Y.end X.start
    → Means u X.start Y.start → Means v X.end Y.end → Holds (rel_from p q u v) X Y
found less q u v X Y h k l m = h
found same q u v X Y h k l m = h
found more less u v X Y h k l m = k
found more same u v X Y h k l m = k
found more more less less X Y h k l m = (l, h, m)
found more more less same X Y h k l m = (l, sym m)
found more more less more X Y h k l m = (l, m)
found more more same less X Y h k l m = (l, m)
found more more same same X Y h k l m = (l, m)
found more more same more X Y h k l m = (sym l, m)
found more more more less X Y h k l m = (l, m)
found more more more same X Y h k l m = (l, m)
found more more more more X Y h k l m = (l, k, m)

pub holds_found : (X Y : Event) → Holds (rel_of X Y) X Y
unfolding rel_of
holds_found X Y =
    found (cmp X.end Y.start) (cmp Y.end X.start) (cmp X.start Y.start) (cmp X.end Y.end) X Y
    (cmp_means X.end Y.start) (cmp_means Y.end X.start) (cmp_means X.start Y.start)
    (cmp_means X.end Y.end)

rel_from_lt : (p q u v : Order) → rel_from p q u v < 13
rel_from_lt less q u v = lit< tt
rel_from_lt same q u v = lit< tt
rel_from_lt more less u v = lit< tt
rel_from_lt more same u v = lit< tt
rel_from_lt more more less less = lit< tt
rel_from_lt more more less same = lit< tt
rel_from_lt more more less more = lit< tt
rel_from_lt more more same less = lit< tt
rel_from_lt more more same same = lit< tt
rel_from_lt more more same more = lit< tt
rel_from_lt more more more less = lit< tt
rel_from_lt more more more same = lit< tt
rel_from_lt more more more more = lit< tt

pub rel_by_lt : {A : Type 0} (lt : A → A → Bool) (a b c d : A) → rel_by lt a b c d < 13
rel_by_lt lt a b c d = rel_from_lt (order (lt b c) (lt c b)) (order (lt d a) (lt a d)) (order (lt a c) (lt c a)) (order (lt b d) (lt d b))

pub rel_of_lt : (X Y : Event) → rel_of X Y < 13
unfolding rel_of
rel_of_lt X Y = rel_by_lt lt_z X.start X.end Y.start Y.end

-- ---- a relation that holds is the one found

module _ (X Y : Event) where
  finds : (p q u v : Order) → Means p X.end Y.start → Means q Y.end X.start → Means u X.start Y.start
      → Means v X.end Y.end → rel_of X Y ≡ rel_from p q u v
  unfolding rel_of
  finds p q u v h k l m =
      ap₂ (λ (a b : Order). rel_from a b (cmp X.start Y.start) (cmp X.end Y.end))
      (cmp_is p X.end Y.start h) (cmp_is q Y.end X.start k)
      ∙ ap₂ (λ (a b : Order). rel_from p q a b) (cmp_is u X.start Y.start l) (cmp_is v X.end Y.end m)

  finds₁ : (p : Order) → Means p X.end Y.start
      → rel_of X Y ≡ rel_from p (cmp Y.end X.start) (cmp X.start Y.start) (cmp X.end Y.end)
  unfolding rel_of
  finds₁ p h =
      ap (λ (a : Order). rel_from a (cmp Y.end X.start) (cmp X.start Y.start) (cmp X.end Y.end))
      (cmp_is p X.end Y.start h)

  finds₂ : (p q : Order) → Means p X.end Y.start → Means q Y.end X.start
      → rel_of X Y ≡ rel_from p q (cmp X.start Y.start) (cmp X.end Y.end)
  unfolding rel_of
  finds₂ p q h k =
      ap₂ (λ (a b : Order). rel_from a b (cmp X.start Y.start) (cmp X.end Y.end))
      (cmp_is p X.end Y.start h) (cmp_is q Y.end X.start k)

  lt_eq : {x y z : ℤ} → x <ℤ y → y ≡ z → x <ℤ z
  lt_eq {x} h e = subst (λ (w : ℤ). x <ℤ w) e h

  eq_lt : {x y z : ℤ} → x ≡ y → y <ℤ z → x <ℤ z
  eq_lt {z = z} e h = subst (λ (w : ℤ). w <ℤ z) (sym e) h

  holds_is' : (t : ℕ) → Holds t X Y → rel_of X Y ≡ t
  holds_is' =
      thirteen (λ (t : ℕ). Holds t X Y → rel_of X Y ≡ t)
      (λ h. finds₁ less h)
      (λ h. finds₂ more less (<ℤ_trans Y.lasts (<ℤ_trans h X.lasts)) h)
      (λ h. finds₁ same h)
      (λ h. finds₂ more same (<ℤ_trans (lt_eq Y.lasts h) X.lasts) h)
      (λ h. finds more more less less h.1 (<ℤ_trans h.0 Y.lasts) h.0 h.2)
      (λ h. finds more more more more (<ℤ_trans h.0 X.lasts) h.1 h.0 h.2)
      (λ h. finds more more same less (eq_lt (sym h.0) X.lasts) (<ℤ_trans X.lasts h.1) h.0 h.1)
      (λ h. finds more more same more (<ℤ_trans Y.lasts h.1) (eq_lt (sym h.0) Y.lasts) (sym h.0) h.1)
      (λ h. finds more more more less (<ℤ_trans h.0 X.lasts) (<ℤ_trans X.lasts h.1) h.0 h.1)
      (λ h. finds more more less more (<ℤ_trans Y.lasts h.1) (<ℤ_trans h.0 Y.lasts) h.0 h.1)
      (λ h. finds more more more same (<ℤ_trans h.0 X.lasts) (lt_eq X.lasts h.1) h.0 h.1)
      (λ h. finds more more less same (lt_eq Y.lasts h.1) (<ℤ_trans h.0 Y.lasts) h.0 (sym h.1))
      (λ h. finds more more same same (eq_lt (sym h.0) X.lasts) (lt_eq X.lasts h.1) h.0 h.1)
      (λ t h. absurd h)

-- exactly one of the thirteen holds
pub exactly_one : (t : ℕ) (X Y : Event) → Holds t X Y ↔ (rel_of X Y ≡ t)
exactly_one t X Y = (holds_is' X Y t, λ e. subst (λ (r : ℕ). Holds r X Y) e (holds_found X Y))

-- some relation of a set holds exactly if the one that is found is in the set
module _ (a : ℕ) (X Y : Event) where
  pub one-within : (r : ℕ) × (r < 13) × T (member r a) × Holds r X Y → T (member (rel_of X Y) a)
  one-within w = subst (λ (r : ℕ). T (member r a)) (sym ((exactly_one w.0 X Y).0 w.3)) w.2

  pub within-one : T (member (rel_of X Y) a) → (r : ℕ) × (r < 13) × T (member r a) × Holds r X Y
  within-one w = (rel_of X Y, rel_of_lt X Y, w, holds_found X Y)

-- an event to itself is eq
pub rel_of_self : (X : Event) → rel_of X X ≡ 12
rel_of_self X = (exactly_one 12 X X).0 (refl, refl)

-- ---- exchanged

pub exchanged-holds : (X Y : Event) (t : ℕ) → Holds t X Y → Holds (exchanged t) Y X
unfolding exchanged
exchanged-holds X Y =
    thirteen (λ (t : ℕ). Holds t X Y → Holds (exchanged t) Y X) (λ h. h) (λ h. h) (λ h. h) (λ h. h) (λ h. h) (λ h. h) (λ h. h)
    (λ h. h) (λ h. h) (λ h. h) (λ h. h) (λ h. h) (λ h. (sym h.0, sym h.1)) (λ t h. absurd h)
