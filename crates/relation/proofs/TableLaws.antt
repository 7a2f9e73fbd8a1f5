-- The table of 169 sets agrees with the meaning of composition: one computed test over the table.
use mathlib.Core.Path.{◌≡◌, refl, sym, ap₂, ◌∙◌, subst, subst₃}
use mathlib.Core.Logic.{◌↔◌}
use mathlib.Core.Bool.{Bool, true, false, ◌&&◌}
use mathlib.Core.List.{List, [], ◌∷◌}
use Prim.Native.Nat.{ℕ, ◌<◌}
use lib.Dec.{T, ltb, eqb, eqb→eq, ltb→lt, lt→ltb, lit<}
use lib.IntN.{ℤ, pos}
use lib.Signed.{lt_z}
use Rattle.relation.specs.Comparing.{order, rel_by, rel_of}
use Rattle.relation.specs.Sets.{member, some}
use Rattle.relation.specs.Meaning.{Event, Holds}
use Rattle.relation.specs.Composition.{Composed, entry}
use Rattle.relation.proofs.Order.{whole}
use Rattle.relation.proofs.Rank.{rank, rank_lt, rank_keeps, In, here, there}
use Rattle.relation.proofs.Relations.{exactly_one}
use Rattle.relation.proofs.Tested.{and_left, and_right, when_at, also_at, all, all-at, all_pairs, all_pairs-at, any_pair, any_pair_at}

-- ---- the test

-- what three events with their ends below 6 show stands in the table
kept : ℕ → ℕ → ℕ → ℕ → ℕ → ℕ → Bool
unfolding member entry
kept a b c d e f = member (rel_by ltb a b e f) (entry (rel_by ltb a b c d) (rel_by ltb c d e f))

abbrev all-kept : Bool
unfolding kept
all-kept = all_pairs 6 (λ a b. all_pairs 6 (λ c d. all_pairs 6 (λ e f. kept a b c d e f)))

-- what stands in the table is shown by three such events
shown : ℕ → ℕ → ℕ → Bool
unfolding some
shown r s t =
    any_pair 6 (λ a b. any_pair 6 (λ c d. elim (eqb (rel_by ltb a b c d) r) [
      | false ↦ false
      | true ↦ any_pair 6 (λ e f. eqb (rel_by ltb c d e f) s && eqb (rel_by ltb a b e f) t)
    ]))

abbrev all_shown : Bool
unfolding member entry shown
all_shown =
    all 13 (λ r. all 13 (λ s. all 13 (λ t. elim (member t (entry r s)) [ false ↦ true | true ↦ shown r s t ])))

tested : T (all-kept && all_shown)
unfolding kept shown member entry some
tested = tt

-- ---- from the whole numbers to ranks

module _ (L : List ℤ) where
  order-keeps : (x y : ℤ) → In x L → In y L
      → order (lt_z x y) (lt_z y x) ≡ order (ltb (rank lt_z L x) (rank lt_z L y)) (ltb (rank lt_z L y) (rank lt_z L x))
  order-keeps x y i j = ap₂ (λ (p q : Bool). order p q) {x = lt_z x y} {u = lt_z y x} (rank_keeps lt_z whole L x y i j) (rank_keeps lt_z whole L y x j i)

  pub rel_keeps : (X Y : Event) → In X.start L → In X.end L → In Y.start L → In Y.end L
      → rel_of X Y ≡ rel_by ltb (rank lt_z L X.start) (rank lt_z L X.end) (rank lt_z L Y.start) (rank lt_z L Y.end)
  unfolding rel_of
  rel_keeps X Y a b c d =
      cc (order-keeps X.end Y.start b c, order-keeps Y.end X.start d a, order-keeps X.start Y.start a c, order-keeps X.end Y.end b d)

  pub rank_lasts : (X : Event) → In X.start L → In X.end L → rank lt_z L X.start < rank lt_z L X.end
  rank_lasts X a b =
      ltb→lt (rank lt_z L X.start) (rank lt_z L X.end) (subst T (rank_keeps lt_z whole L X.start X.end a b) X.lasts.lt)

pub stands : (X Y Z : Event) → T (member (rel_of X Z) (entry (rel_of X Y) (rel_of Y Z)))
unfolding kept
stands X Y Z =
    subst₃ (λ (t r s : ℕ). T (member t (entry r s))) (sym (rel_keeps L X Z x₀ x₁ z₀ z₁)) (sym (rel_keeps L X Y x₀ x₁ y₀ y₁))
    (sym (rel_keeps L Y Z y₀ y₁ z₀ z₁))
    (all_pairs-at 6 (λ e f. kept (k X.start) (k X.end) (k Y.start) (k Y.end) e f)
    (all_pairs-at 6 (λ c d. all_pairs 6 (λ e f. kept (k X.start) (k X.end) c d e f))
    (all_pairs-at 6 (λ a b. all_pairs 6 (λ c d. all_pairs 6 (λ e f. kept a b c d e f))) (and_left all-kept all_shown tested)
    (k X.start) (k X.end) (rank_lasts L X x₀ x₁) (rank_lt lt_z whole L X.end x₁))
    (k Y.start) (k Y.end) (rank_lasts L Y y₀ y₁) (rank_lt lt_z whole L Y.end y₁))
    (k Z.start) (k Z.end) (rank_lasts L Z z₀ z₁) (rank_lt lt_z whole L Z.end z₁))
  where
    L : List ℤ
    L = X.start ∷ X.end ∷ Y.start ∷ Y.end ∷ Z.start ∷ Z.end ∷ []

    k : ℤ → ℕ
    k = rank lt_z L

    x₀ : In X.start L
    x₀ = here

    x₁ : In X.end L
    x₁ = there here

    y₀ : In Y.start L
    y₀ = there (there here)

    y₁ : In Y.end L
    y₁ = there (there (there here))

    z₀ : In Z.start L
    z₀ = there (there (there (there here)))

    z₁ : In Z.end L
    z₁ = there (there (there (there (there here))))

-- ---- from small numbers to events

event : (a b : ℕ) → a < b → Event
event a b h = record { start = pos a; end = pos b; lasts = record { lt = lt→ltb a b h } }

small : (a b c d : ℕ) (h : a < b) (k : c < d) → rel_of (event a b h) (event c d k) ≡ rel_by ltb a b c d
unfolding rel_of event
small a b c d h k = refl

three : (r s t a b c d e f : ℕ) → a < b → c < d → e < f → T (eqb (rel_by ltb a b c d) r)
    → T (eqb (rel_by ltb c d e f) s && eqb (rel_by ltb a b e f) t) → Composed r s t
three r s t a b c d e f h k l u v =
    let p = eqb (rel_by ltb c d e f) s in
    let q = eqb (rel_by ltb a b e f) t in
    record {
      X = event a b h;
      Y = event c d k;
      Z = event e f l;
      first = (exactly_one r (event a b h) (event c d k)).1 (small a b c d h k ∙ eqb→eq (rel_by ltb a b c d) r u);
      second = (exactly_one s (event c d k) (event e f l)).1 (small c d e f k l ∙ eqb→eq (rel_by ltb c d e f) s (and_left p q v));
      whole = (exactly_one t (event a b h) (event e f l)).1 (small a b e f h l ∙ eqb→eq (rel_by ltb a b e f) t (and_right p q v));
    }

module _ (r s t : ℕ) where
  third : ℕ → ℕ → ℕ → ℕ → Bool
  third a b c d = any_pair 6 (λ e f. eqb (rel_by ltb c d e f) s && eqb (rel_by ltb a b e f) t)

  second : ℕ → ℕ → Bool
  unfolding third
  second a b = any_pair 6 (λ c d. elim (eqb (rel_by ltb a b c d) r) [ false ↦ false | true ↦ third a b c d ])

  events : T (shown r s t) → Composed r s t
  unfolding shown second third
  events u =
      let x = any_pair_at 6 second u in
      let y = any_pair_at 6 (λ c d. elim (eqb (rel_by ltb x.0 x.1 c d) r) [ false ↦ false | true ↦ third x.0 x.1 c d ]) x.3 in
      let m = also_at (eqb (rel_by ltb x.0 x.1 y.0 y.1) r) (third x.0 x.1 y.0 y.1) y.3 in
      let z = any_pair_at 6 (λ e f. eqb (rel_by ltb y.0 y.1 e f) s && eqb (rel_by ltb x.0 x.1 e f) t) m.1 in
      three r s t x.0 x.1 y.0 y.1 z.0 z.1 x.2 y.2 z.2 m.0 z.3

-- ---- the table agrees with the meaning

pub agrees : (r s t : ℕ) → r < 13 → s < 13 → t < 13 → T (member t (entry r s)) ↔ Composed r s t
unfolding shown all_shown
agrees r s t hr hs ht = (
  λ u. events r s t
      (when_at (member t (entry r s)) (shown r s t)
      (all-at 13 (λ t. elim (member t (entry r s)) [ false ↦ true | true ↦ shown r s t ])
      (all-at 13 (λ s. all 13 (λ t. elim (member t (entry r s)) [ false ↦ true | true ↦ shown r s t ]))
      (all-at 13 (λ r. all 13 (λ s. all 13 (λ t. elim (member t (entry r s)) [ false ↦ true | true ↦ shown r s t ])))
      (and_right all-kept all_shown tested) r hr) s hs) t ht) u),
  λ w. subst₃ (λ (t r s : ℕ). T (member t (entry r s))) ((exactly_one t w.X w.Z).0 w.whole)
      ((exactly_one r w.X w.Y).0 w.first) ((exactly_one s w.Y w.Z).0 w.second) (stands w.X w.Y w.Z),
)

-- ---- one event to which each relation holds of some event

abbrev between : ℕ → ℕ → ℕ → Bool
between r a b = eqb (rel_by ltb a b 2 5) r

beside_test : T (all 13 (λ r. any_pair 8 (between r)))
unfolding some
beside_test = tt

pub middle : Event
middle = event 2 5 (lit< tt)

pub record Beside (r : ℕ) : Type 0 where
  pub X : Event
  pub is : Holds r X middle

pub beside : (r : ℕ) → r < 13 → Beside r
unfolding middle
beside r h =
    let x = any_pair_at 8 (between r) (all-at 13 (λ r. any_pair 8 (between r)) beside_test r h) in
    let X = event x.0 x.1 x.2 in
    record { X = X; is = (exactly_one r X middle).1 (small x.0 x.1 2 5 x.2 (lit< tt) ∙ eqb→eq (rel_by ltb x.0 x.1 2 5) r x.3) }
