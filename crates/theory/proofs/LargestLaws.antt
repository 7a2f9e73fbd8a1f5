-- The closing that is said by its meaning is closed, lies inside the given grid and is the largest such; so every other way to the largest
-- closed grid inside leads to it.
use mathlib.Core.Path.{◌≡◌, refl, sym, ap, subst, ◌∙◌}
use mathlib.Core.Bool.{Bool, true, false, not, ◌&&◌}
use mathlib.Core.List.{List, [], ◌∷◌}
use Prim.Native.Nat.{ℕ, zero, suc, ◌+◌, ◌*◌, ◌/◌, ◌%◌, ◌<◌}
use native.Mathlib.Decide.{dec_lt}
use native.Mathlib.Omega.{arith}
use borrow.Author.Tests.{eq-eqb, ne_eqb}
use lib.Arith.{digits_lt, digits_div, digits_mod}
use lib.Dec.{T, eqb, eqb→eq, eqb_refl}
use lib.ListN.{length, get_or, replicate, length-replicate, get_or-eq_default}
use Rattle.relation.specs.Sets.{member, set_of, some}
use Rattle.relation.proofs.Tested.{of_T, and_left, and_right, and_both, some_at, some_in, some_yes, some_no}
use Rattle.relation.proofs.SetLaws.{member-set_of, set_of_lt}
use Rattle.grid.specs.Cells.{up_to, cell, some_empty}
use Rattle.grid.proofs.CellLaws.{up_to-length, up_to-at, zeros, cell_cleared, located, same-cells}
use Rattle.theory.specs.Calculus.{Calculus, Sub}
use Rattle.theory.specs.Closing.{Cells, Within, Closed, Closing}
use Rattle.theory.specs.Fair.{Full}
use Rattle.theory.specs.Search.{emptied, closed, unless_empty, closes_to}
use Rattle.theory.specs.Largest.{every, is_sub, is_within, is_closed, some_grid, closing_of}
use Rattle.theory.proofs.Lawful.{Lawful, OfSets}
use Rattle.theory.proofs.ClosingLaws.{closing_unique, closing_same}
use Rattle.theory.proofs.AgainLaws.{closing_own}

-- ---- tests

every-at : (k : ℕ) (test : ℕ → Bool) → T (every k test) → (i : ℕ) → i < k → T (test i)
every-at k test t i h = go (test i) refl
  where
    go : (b : Bool) → test i ≡ b → T b
    go true e = tt
    go false e = absurd (subst (λ (b : Bool). T (not b)) (of_T (some k (λ i. not (test i))) (some_in k (λ i. not (test i)) i h (subst (λ (b : Bool). T (not b)) (sym e) tt))) t)

every_of : (k : ℕ) (test : ℕ → Bool) → ((i : ℕ) → i < k → T (test i)) → T (every k test)
every_of k test f =
    subst (λ (b : Bool). T (not b)) (sym (some_no k (λ i. not (test i)) (λ i h. ap not (of_T (test i) (f i h))))) tt

-- of all pairs, and of all triples
every-two-at : (k : ℕ) (test : ℕ → ℕ → Bool) → T (every k (λ i. every k (test i))) → (i j : ℕ) → i < k → j < k → T (test i j)
every-two-at k test t i j hi hj = every-at k (test i) (every-at k (λ i. every k (test i)) t i hi) j hj

every-two_of : (k : ℕ) (test : ℕ → ℕ → Bool) → ((i j : ℕ) → i < k → j < k → T (test i j)) → T (every k (λ i. every k (test i)))
every-two_of k test f = every_of k (λ i. every k (test i)) (λ i hi. every_of k (test i) (λ j hj. f i j hi hj))

-- some list of m sets, each below 8192, passes the test
pub record Passing (m : ℕ) (test : List ℕ → Bool) : Type 0 where
  pub grid : List ℕ
  pub long : length grid ≡ m
  pub small : (p : ℕ) → get_or grid p 0 < 8192
  pub passes : T (test grid)

some-grid-at : (m : ℕ) (test : List ℕ → Bool) → T (some_grid m test) → Passing m test
unfolding some_grid
some-grid-at zero test t = record { grid = []; long = refl; small = λ p. omega arith; passes = t }
some-grid-at (suc m) test t =
    let w = some_at 8192 (λ a. some_grid m (λ d. test (a ∷ d))) t in
    let d = some-grid-at m (λ d. test (w.0 ∷ d)) w.2 in
    record { grid = w.0 ∷ d.grid; long = ap suc d.long; small = λ p. each w.0 d.grid w.1 d.small p; passes = d.passes }
  where
    each : (a : ℕ) (d : List ℕ) → a < 8192 → ((p : ℕ) → get_or d p 0 < 8192) → (p : ℕ) → get_or (a ∷ d) p 0 < 8192
    each a d h f zero = h
    each a d h f (suc p) = f p

some-grid_in : (m : ℕ) (test : List ℕ → Bool) (d : List ℕ) → length d ≡ m → ((p : ℕ) → get_or d p 0 < 8192) → T (test d) → T (some_grid m test)
unfolding some_grid
some-grid_in zero test [] l s t = t
some-grid_in zero test (a ∷ d) l s t = absurd (omega arith)
some-grid_in (suc m) test [] l s t = absurd (omega arith)
some-grid_in (suc m) test (a ∷ d) l s t =
    some_in 8192 (λ a. some_grid m (λ d. test (a ∷ d))) a (s zero)
    (some-grid_in m (λ d. test (a ∷ d)) d (omega arith) (λ p. s (suc p)) t)

-- ---- empty cells

full-none : (n : ℕ) (h : List ℕ) → length h ≡ n * n → Full n h → some_empty h ≡ false
unfolding cell
full-none n h l full =
    some_no (length h) (λ p. eqb (get_or h p 0) 0)
    (λ p lt. let f = located n p (omega arith) in
    ne_eqb (get_or h p 0) 0 (λ z. full (p / n) (p % n) f.row f.column (ap (λ (x : ℕ). get_or h x 0) f.back ∙ z)))

zeros-empty : (n : ℕ) → 0 < n → some_empty (replicate (n * n) 0) ≡ true
zeros-empty n h =
    let z : List ℕ = replicate (n * n) 0 in
    let l = mul_pos n n h h in
    some_yes (length z) (λ p. eqb (get_or z p 0) 0) 0 (omega (arith, length-replicate {A = ℕ} (n * n) 0)) (eq-eqb (get_or z 0 0) 0 (zeros (n * n) 0))
  where
    mul_pos : (a b : ℕ) → 0 < a → 0 < b → 0 < a * b
    mul_pos (suc a) (suc b) x y = omega arith
    mul_pos zero b x y = absurd (omega arith)
    mul_pos (suc a) zero x y = absurd (omega arith)

-- ---- the closing

module _ (A : Calculus) (L : Lawful A) (S : OfSets A) (n : ℕ) where
  sub_of : (a b : ℕ) → T (is_sub A a b) → Sub A a b
  sub_of a b t = eqb→eq (A.meet a b) a t

  is_sub_lem : (a b : ℕ) → Sub A a b → T (is_sub A a b)
  is_sub_lem a b e = subst (λ (x : ℕ). T (eqb x a)) (sym e) (eqb_refl a)

  -- a route leaves its cell as it is
  abbrev route : List ℕ → ℕ → ℕ → ℕ → Bool
  route d i j k = is_sub A (cell n d i j) (A.comp i k j (cell n d i k) (cell n d k j))

  closed_of : (d : List ℕ) → T (is_closed A n d) → Closed A n (cell n d)
  closed_of d t i j k hi hj hk =
      sub_of (cell n d i j) (A.comp i k j (cell n d i k) (cell n d k j))
      (every-at n (route d i j) (every-two-at n (λ i j. every n (route d i j)) t i j hi hj) k hk)

  is-closed : (d : List ℕ) → Closed A n (cell n d) → T (is_closed A n d)
  is-closed d c =
      every-two_of n (λ i j. every n (route d i j))
      (λ i j hi hj. every_of n (route d i j) (λ k hk. is_sub_lem (cell n d i j) (A.comp i k j (cell n d i k) (cell n d k j)) (c i j k hi hj hk)))

  within_of : (d g : List ℕ) → T (is_within A n d g) → Within A n (cell n d) (cell n g)
  within_of d g t i j hi hj =
      sub_of (cell n d i j) (cell n g i j) (every-two-at n (λ i j. is_sub A (cell n d i j) (cell n g i j)) t i j hi hj)

  is_within_lem : (d g : List ℕ) → Within A n (cell n d) (cell n g) → T (is_within A n d g)
  is_within_lem d g w =
      every-two_of n (λ i j. is_sub A (cell n d i j) (cell n g i j)) (λ i j hi hj. is_sub_lem (cell n d i j) (cell n g i j) (w i j hi hj))

  -- a closed grid inside g
  record Inner (g d : List ℕ) : Type 0 where
    small : (p : ℕ) → get_or d p 0 < 8192
    long : length d ≡ n * n
    closed : Closed A n (cell n d)
    within : Within A n (cell n d) (cell n g)

  module _ (g : List ℕ) where
    abbrev C : Cells
    C = cell n (closing_of A n g)

    abbrev test : ℕ → ℕ → List ℕ → Bool
    test p r d = is_closed A n d && is_within A n d g && member r (get_or d p 0)

    pub closing_long : length (closing_of A n g) ≡ n * n
    unfolding closing_of
    closing_long = up_to-length (n * n) _

    cell-is : (i j : ℕ) → i < n → j < n → C i j ≡ set_of (λ r. some_grid (n * n) (test (i * n + j) r))
    unfolding closing_of cell
    cell-is i j hi hj = up_to-at (n * n) (λ p. set_of (λ r. some_grid (n * n) (test p r))) (i * n + j) (digits_lt hi hj)

    closing_small : (i j : ℕ) → i < n → j < n → C i j < 8192
    closing_small i j hi hj = subst (λ (a : ℕ). a < 8192) (sym (cell-is i j hi hj)) (set_of_lt _)

    -- what is in the closing is in some closed grid inside
    from : (i j r : ℕ) → i < n → j < n → r < 13 → T (member r (C i j)) → (d : List ℕ) × Inner g d × T (member r (cell n d i j))
    unfolding cell
    from i j r hi hj h t =
        let w = some-grid-at (n * n) (test (i * n + j) r) (subst T (ap (member r) (cell-is i j hi hj) ∙ member-set_of (λ r. some_grid (n * n) (test (i * n + j) r)) r h) t) in
        let d = w.grid in
        let both = and_left (is_closed A n d && is_within A n d g) (member r (get_or d (i * n + j) 0)) w.passes in (
          d,
          record {
            small = w.small;
            long = w.long;
            closed = closed_of d (and_left (is_closed A n d) (is_within A n d g) both);
            within = within_of d g (and_right (is_closed A n d) (is_within A n d g) both);
          },
          and_right (is_closed A n d && is_within A n d g) (member r (get_or d (i * n + j) 0)) w.passes,
        )

    -- and the other way
    into : (d : List ℕ) → Inner g d → Within A n (cell n d) C
    unfolding cell
    into d D i j hi hj =
        S.inside (cell n d i j) (C i j) (D.small (i * n + j))
        (record {
          each = λ r h t.
              subst T (sym (ap (member r) (cell-is i j hi hj) ∙ member-set_of (λ r. some_grid (n * n) (test (i * n + j) r)) r h))
              (some-grid_in (n * n) (test (i * n + j) r) d D.long D.small
              (and_both (is_closed A n d && is_within A n d g) (member r (get_or d (i * n + j) 0))
              (and_both (is_closed A n d) (is_within A n d g) (is-closed d D.closed) (is_within_lem d g D.within)) t));
        })

    -- the cells of a closed grid inside, as a list
    module _ (small : (i j : ℕ) → i < n → j < n → cell n g i j < 8192) (D : Cells) (cl : Closed A n D) (w : Within A n D (cell n g)) where
      abbrev listed : List ℕ
      listed = up_to (n * n) (λ p. D (p / n) (p % n))

      listed_at : (i j : ℕ) → i < n → j < n → cell n listed i j ≡ D i j
      unfolding cell
      listed_at i j hi hj = up_to-at (n * n) (λ p. D (p / n) (p % n)) (i * n + j) (digits_lt hi hj) ∙ rw (digits_div i hj, digits_mod i hj)

      listed_small : (p : ℕ) → get_or listed p 0 < 8192
      listed_small p = go (dec_lt p (n * n))
        where
          go : Dec (p < n * n) → get_or listed p 0 < 8192
          go (yes h) =
              let f = located n p h in
              subst (λ (a : ℕ). a < 8192) (sym (up_to-at (n * n) (λ p. D (p / n) (p % n)) p h))
              (S.small (D (p / n) (p % n)) (cell n g (p / n) (p % n)) (w (p / n) (p % n) f.row f.column) (small (p / n) (p % n) f.row f.column))
          go (no h) = subst (λ (a : ℕ). a < 8192) (sym (get_or-eq_default listed 0 (omega (arith, up_to-length (n * n) (λ p. D (p / n) (p % n)))))) (omega arith)

      listed_inner : Inner g listed
      listed_inner =
          record {
            small = listed_small;
            long = up_to-length (n * n) (λ p. D (p / n) (p % n));
            closed = λ i j k hi hj hk. rw (listed_at i j hi hj, listed_at i k hi hk, listed_at k j hk hj) (cl i j k hi hj hk);
            within = λ i j hi hj. rw (listed_at i j hi hj) (w i j hi hj);
          }

      is-largest : Within A n D C
      is-largest i j hi hj = subst (λ (a : ℕ). Sub A a (C i j)) (listed_at i j hi hj) (into listed listed_inner i j hi hj)

    -- the closing is the largest closed grid inside
    pub closing_right : ((i j : ℕ) → i < n → j < n → cell n g i j < 8192) → Closing A n (cell n g) C
    closing_right small =
        record {
          closed = λ i j k hi hj hk.
              S.inside (C i j) (A.comp i k j (C i k) (C k j)) (closing_small i j hi hj)
              (record {
                each = λ r h t.
                    let d = from i j r hi hj h t in
                    (S.members _ _
                    (L.comp_mono i k j (cell n d.0 i k) (cell n d.0 k j) (C i k) (C k j) (into d.0 d.1 i k hi hk) (into d.0 d.1 k j hk hj))).each r h
                    ((S.members (cell n d.0 i j) (A.comp i k j (cell n d.0 i k) (cell n d.0 k j)) (d.1.closed i j k hi hj hk)).each r h d.2);
              });
          inside = λ i j hi hj.
              S.inside (C i j) (cell n g i j) (closing_small i j hi hj)
              (record {
                each = λ r h t.
                    let d = from i j r hi hj h t in
                    (S.members (cell n d.0 i j) (cell n g i j) (d.1.within i j hi hj)).each r h d.2;
              });
          largest = λ D cl w. is-largest small D cl w;
        }

    -- and any grid that is the largest closed one inside is the closing
    pub closing_is : ((i j : ℕ) → i < n → j < n → cell n g i j < 8192) → (h : List ℕ) → length h ≡ n * n → Closing A n (cell n g) (cell n h) → closing_of A n g ≡ h
    closing_is small h l c =
        same-cells n (closing_of A n g) h closing_long l (closing_unique A L n (cell n g) C (cell n h) (closing_right small) c)

    -- ---- what closing leaves: known wherever the largest closed grid inside is

    module _ (small : (i j : ℕ) → i < n → j < n → cell n g i j < 8192) where
      pub closes_closed : (h : List ℕ) → length h ≡ n * n → Full n h → Closing A n (cell n g) (cell n h) → closes_to A n g ≡ closed h
      unfolding closes_to
      closes_closed h l full c =
          ap (λ (x : List ℕ). unless_empty (some_empty x) x) (closing_is small h l c) ∙ ap (λ (b : Bool). unless_empty b h) (full-none n h l full)

      pub closes_emptied : 0 < n → Closing A n (cell n g) (λ i j. 0) → closes_to A n g ≡ emptied
      unfolding closes_to
      closes_emptied some_event c =
          let zero-grid : List ℕ = replicate (n * n) 0 in
          let cleared = closing_same A L n (cell n g) (λ i j. 0) (cell n zero-grid) (λ i j hi hj. sym (cell_cleared n (n * n) i j)) c in
          ap (λ (x : List ℕ). unless_empty (some_empty x) x) (closing_is small zero-grid (length-replicate {A = ℕ} (n * n) 0) cleared)
          ∙ ap (λ (b : Bool). unless_empty b zero-grid) (zeros-empty n some_event)

      -- a closed grid without an empty cell is left as it is
      pub closes_same : length g ≡ n * n → Full n g → Closed A n (cell n g) → closes_to A n g ≡ closed g
      closes_same l full cl =
          closes_closed g l full (closing_own A L n (cell n g) cl)
