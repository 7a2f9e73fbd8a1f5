-- The grid of a list of statements: the start, what a cut leaves of each cell, that the grid is accepted by every function on grids,
-- and that it stands in the front of a longer room.
use mathlib.Core.Path.{◌≡◌, refl, sym, ◌∙◌, ap}
use mathlib.Core.Bool.{cond}
use mathlib.Core.List.{List, [], ◌∷◌, ◌++◌}
use Prim.Native.Nat.{ℕ, ◌+◌, ◌*◌, ◌≤◌, ◌<◌}
use native.Mathlib.Omega.{arith}
use native.Mathlib.Decide.{ℕ_discrete}
use lib.Arith.{digits_lt, digits_div, digits_mod}
use lib.Bits.{and_le_l}
use lib.Dec.{eqb}
use lib.ListN.{length, take, replicate, get_or, length-append, length-replicate, get_or-append}
use Rattle.std.proofs.lemmas.List.{get_or-replicate, length-take-le}
use lib.Seq.{get_or-take, take-set-lt}
use borrow.Author.Tests.{eq-eqb, ne_eqb}
use Rattle.relation.specs.Composition.{converse}
use Rattle.relation.proofs.ExchangeLaws.{converse_lt, converse_twice, converse-eq, converse-all}
use Rattle.grid.specs.Cells.{cell, put, put_both}
use Rattle.grid.specs.Accepted.{Accepted}
use Rattle.grid.proofs.CellLaws.{up_to-length, up_to-at, put-length, cell-put-same, cell-put-other, same-cells, put_both-length, cell_both_here, cell_both_mirror, cell_both_other}
use Rattle.statements.specs.Statements.{Statement, Fits, AllFit}
use Rattle.statements.specs.Grid.{start_cell, start_grid, left_by, cut_by, cut_all, grid_of}

-- ---- the front of a room

module _ (n : ℕ) (g : List ℕ) (i j : ℕ) (hi : i < n) (hj : j < n) where
  take_put : (a : ℕ) → take (n * n) (put n g i j a) ≡ put n (take (n * n) g) i j a
  unfolding put
  take_put a = take-set-lt (n * n) g (i * n + j) a (digits_lt hi hj)

  take-cell : cell n (take (n * n) g) i j ≡ cell n g i j
  unfolding cell
  take-cell = get_or-take (n * n) g (i * n + j) 0 (digits_lt hi hj)

-- ---- the start

start-length : (n : ℕ) → length (start_grid n) ≡ n * n
unfolding start_grid
start-length n = up_to-length (n * n) (start_cell n)

module _ (n i j : ℕ) (hi : i < n) (hj : j < n) where
  start-at : cell n (start_grid n) i j ≡ cond (eqb i j) 4096 8191
  unfolding start_grid cell
  start-at = up_to-at (n * n) (start_cell n) (i * n + j) (digits_lt hi hj) ∙ rw (digits_div i hj, digits_mod i hj)

  pub start-same : i ≡ j → cell n (start_grid n) i j ≡ 4096
  start-same e = start-at ∙ rw (eq-eqb i j e)

  pub start-other : (i ≡ j → ⊥) → cell n (start_grid n) i j ≡ 8191
  start-other e = start-at ∙ rw (ne_eqb i j e)

-- a grid that is filled: any in each cell, and eq in those of the diagonal before k
pub record Filled (n k : ℕ) (g : List ℕ) : Type 0 where
  pub fits : n * n ≤ length g
  pub eq : (x : ℕ) → x < k → cell n g x x ≡ 4096
  pub any : (x y : ℕ) → x < n → y < n → (x ≡ y → k ≤ x) → cell n g x y ≡ 8191

pub filled_none : (n : ℕ) (front back : List ℕ) → front ≡ replicate (n * n) 8191 → Filled n 0 (front ++ back)
unfolding cell
filled_none n front back is =
    let long : length front ≡ n * n = ap length is ∙ length-replicate {A = ℕ} (n * n) 8191 in
    record {
      fits = omega (arith, length-append front back, long);
      eq = λ x h. absurd (omega (arith, h));
      any = λ x y hx hy h.
          let inside : x * n + y < n * n = digits_lt hx hy in
          get_or-append front back 0 (x * n + y) (rw long inside)
          ∙ ap (λ (l : List ℕ). get_or l (x * n + y) 0) is ∙ get_or-replicate {A = ℕ} (n * n) (x * n + y) 8191 0 inside;
    }

pub filled-more : (n k : ℕ) (g : List ℕ) → Filled n k g → k < n → Filled n (k + 1) (put n g k k 4096)
filled-more n k g f hk =
    record {
      fits = omega (arith, f.fits, put-length n g k k 4096);
      eq = λ x h. elim (ℕ_discrete x k) [
        | yes e ↦ rw e (cell-put-same n g f.fits k k 4096 hk hk)
        | no e ↦ cell-put-other n g f.fits k k 4096 hk hk x x (omega (arith, h, hk)) (λ w. e w.0) ∙ f.eq x (omega (arith, h, e))
      ];
      any = λ x y hx hy h.
          cell-put-other n g f.fits k k 4096 hk hk x y hy (λ w. omega (arith, w.0, h (w.0 ∙ sym w.1)))
          ∙ f.any x y hx hy (λ e. omega (arith, h e));
    }

pub filled_all : (n : ℕ) (g : List ℕ) → Filled n n g → take (n * n) g ≡ start_grid n
filled_all n g f =
    same-cells n (take (n * n) g) (start_grid n) (length-take-le (n * n) g f.fits) (start-length n)
    (λ i j hi hj. take-cell n g i j hi hj ∙ elim (ℕ_discrete i j) [
      | yes e ↦ rw (← e) (f.eq i hi) ∙ sym (start-same n i j hi hj e)
      | no e ↦ f.any i j hi hj (λ d. absurd (e d)) ∙ sym (start-other n i j hi hj e)
    ])

pub start-accepted : (n : ℕ) → n ≤ 32 → Accepted n (start_grid n)
start-accepted n h =
    record {
      few = h;
      long = start-length n;
      small = λ i j hi hj. elim (ℕ_discrete i j) [
        | yes e ↦ omega (arith, start-same n i j hi hj e)
        | no e ↦ omega (arith, start-other n i j hi hj e)
      ];
      diagonal = λ i hi. start-same n i i hi hi refl;
      mirrored = λ i j hi hj. elim (ℕ_discrete i j) [
        | yes e ↦ start-same n j i hj hi (sym e) ∙ sym (ap converse (start-same n i j hi hj e) ∙ converse-eq)
        | no e ↦ start-other n j i hj hi (λ d. e (sym d)) ∙ sym (ap converse (start-other n i j hi hj e) ∙ converse-all)
      ];
    }

-- ---- a cut

-- a cell is the one that a statement names, its mirror, or another
pub data Side (i j x y : ℕ) : Type 0 where
  here : x ≡ i → y ≡ j → Side i j x y
  mirror : x ≡ j → y ≡ i → Side i j x y
  other : ((x ≡ i) × (y ≡ j) → ⊥) → ((x ≡ j) × (y ≡ i) → ⊥) → Side i j x y

pub side : (i j x y : ℕ) → Side i j x y
side i j x y = at (ℕ_discrete x i) (ℕ_discrete y j) (ℕ_discrete x j) (ℕ_discrete y i)
  where
    at : Dec (x ≡ i) → Dec (y ≡ j) → Dec (x ≡ j) → Dec (y ≡ i) → Side i j x y
    at (yes a) (yes b) c d = here a b
    at (yes a) (no b) (yes c) (yes d) = mirror c d
    at (yes a) (no b) (yes c) (no d) = other (λ w. b w.1) (λ w. d w.1)
    at (yes a) (no b) (no c) d = other (λ w. b w.1) (λ w. c w.0)
    at (no a) b (yes c) (yes d) = mirror c d
    at (no a) b (yes c) (no d) = other (λ w. a w.0) (λ w. d w.1)
    at (no a) b (no c) d = other (λ w. a w.0) (λ w. c w.0)

module _ (n : ℕ) (g : List ℕ) (has : n * n ≤ length g) (t : Statement) (f : Fits n t) where
  pub cut_here : cell n (cut_by n g t) t.one t.two ≡ left_by n g t
  unfolding cut_by
  cut_here = cell_both_here converse n g has t.one t.two (left_by n g t) f.one_in f.two_in f.apart

  pub cut_mirror : cell n (cut_by n g t) t.two t.one ≡ converse (left_by n g t)
  unfolding cut_by
  cut_mirror = cell_both_mirror converse n g has t.one t.two (left_by n g t) f.one_in f.two_in

  module _ (x y : ℕ) (hy : y < n) (p : (x ≡ t.one) × (y ≡ t.two) → ⊥) (q : (x ≡ t.two) × (y ≡ t.one) → ⊥) where
    pub cut-other : cell n (cut_by n g t) x y ≡ cell n g x y
    unfolding cut_by
    cut-other = cell_both_other converse n g has t.one t.two (left_by n g t) f.one_in f.two_in x y hy p q

pub cut-length : (n : ℕ) (g : List ℕ) (t : Statement) → length (cut_by n g t) ≡ length g
unfolding cut_by
cut-length n g t = put_both-length converse n g t.one t.two (left_by n g t)

module _ (n : ℕ) (g : List ℕ) (a : Accepted n g) (t : Statement) (f : Fits n t) where
  -- the new set, and that the grid has the place
  abbrev left : ℕ
  left = left_by n g t

  left-small : left ≤ 8191
  left-small =
      let h : left ≤ cell n g t.one t.two = and_le_l _ _ in
      omega (arith, a.small t.one t.two f.one_in f.two_in)

  pub has : n * n ≤ length g
  has = omega (arith, a.long)

  cut_small : (x y : ℕ) → x < n → y < n → cell n (cut_by n g t) x y ≤ 8191
  cut_small x y hx hy = by (side t.one t.two x y)
    where
      by : Side t.one t.two x y → cell n (cut_by n g t) x y ≤ 8191
      by (here p q) = rw (p, q, cut_here n g has t f) left-small
      by (mirror p q) = rw (p, q, cut_mirror n g has t f) (omega (arith, converse_lt left))
      by (other p q) = rw (cut-other n g has t f x y hy p q) (a.small x y hx hy)

  cut-mirrored : (x y : ℕ) → x < n → y < n → cell n (cut_by n g t) y x ≡ converse (cell n (cut_by n g t) x y)
  cut-mirrored x y hx hy = by (side t.one t.two x y)
    where
      by : Side t.one t.two x y → cell n (cut_by n g t) y x ≡ converse (cell n (cut_by n g t) x y)
      by (here p q) = rw (p, q, cut_here n g has t f, cut_mirror n g has t f)
      by (mirror p q) = rw (p, q, cut_here n g has t f, cut_mirror n g has t f) (sym (converse_twice left (omega (arith, left-small))))
      by (other p q) =
          cut-other n g has t f y x hx (λ w. q (w.1, w.0)) (λ w. p (w.1, w.0)) ∙ a.mirrored x y hx hy ∙ ap converse (sym (cut-other n g has t f x y hy p q))

  pub cut-accepted : Accepted n (cut_by n g t)
  cut-accepted =
      record {
        few = a.few;
        long = cut-length n g t ∙ a.long;
        small = cut_small;
        diagonal = λ x hx.
            cut-other n g has t f x x hx (λ w. f.apart (sym w.0 ∙ w.1)) (λ w. f.apart (sym w.1 ∙ w.0)) ∙ a.diagonal x hx;
        mirrored = cut-mirrored;
      }

cuts-accepted : (n : ℕ) (g : List ℕ) (sts : List Statement) → Accepted n g → AllFit n sts → Accepted n (cut_all n g sts)
unfolding cut_all
cuts-accepted n g [] a f = a
cuts-accepted n g (t ∷ sts) a f = cuts-accepted n (cut_by n g t) sts (cut-accepted n g a t f.0) f.1

pub grid-accepted : (n : ℕ) (sts : List Statement) → n ≤ 32 → AllFit n sts → Accepted n (grid_of n sts)
unfolding grid_of
grid-accepted n sts h f = cuts-accepted n (start_grid n) sts (start-accepted n h) f

-- ---- more statements

pub cut-more : (n : ℕ) (g : List ℕ) (new : List Statement) (t : Statement) → cut_all n g (new ++ t ∷ []) ≡ cut_by n (cut_all n g new) t
unfolding cut_all
cut-more n g [] t = refl
cut-more n g (x ∷ new) t = cut-more n (cut_by n g x) new t

pub cut-append : (n : ℕ) (g : List ℕ) (xs ys : List Statement) → cut_all n (cut_all n g xs) ys ≡ cut_all n g (xs ++ ys)
unfolding cut_all
cut-append n g [] ys = refl
cut-append n g (x ∷ xs) ys = cut-append n (cut_by n g x) xs ys

-- ---- the grid in the front of a room

take-cut : (n : ℕ) (g : List ℕ) (t : Statement) → Fits n t → take (n * n) (cut_by n g t) ≡ cut_by n (take (n * n) g) t
unfolding cut_by put_both
take-cut n g t f =
    rw (take_put n _ t.two t.one f.two_in f.one_in, take_put n g t.one t.two f.one_in f.two_in, take-cell n g t.one t.two f.one_in f.two_in)

take-cuts : (n : ℕ) (g : List ℕ) (sts : List Statement) → AllFit n sts → take (n * n) (cut_all n g sts) ≡ cut_all n (take (n * n) g) sts
unfolding cut_all
take-cuts n g [] f = refl
take-cuts n g (t ∷ sts) f = take-cuts n (cut_by n g t) sts f.1 ∙ ap (λ (x : List ℕ). cut_all n x sts) (take-cut n g t f.0)

pub grid_front : (n : ℕ) (g g' : List ℕ) (sts : List Statement) → AllFit n sts → take (n * n) g ≡ start_grid n → g' ≡ cut_all n g sts
    → take (n * n) g' ≡ grid_of n sts
unfolding grid_of
grid_front n g g' sts f p q = ap (take (n * n)) q ∙ take-cuts n g sts f ∙ ap (λ (x : List ℕ). cut_all n x sts) p
