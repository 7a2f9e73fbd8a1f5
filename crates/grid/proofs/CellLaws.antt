-- Where a cell stands, and what a put changes.
use mathlib.Core.Path.{◌≡◌, refl, ap, ap₂, sym, ◌∙◌, subst}
use mathlib.Core.List.{List, [], ◌∷◌, ◌++◌}
use Prim.Native.Nat.{ℕ, zero, suc, ◌+◌, ◌*◌, ◌/◌, ◌%◌, ◌≤◌, ◌<◌}
use native.Mathlib.Nat.{mul-le-mul, zero-lt-suc, mod-lt, div-add-mod', div-lt_iff_lt-mul}
use native.Mathlib.Numerals.{add-one}
use native.Mathlib.Decide.{dec_lt}
use native.Mathlib.Omega.{arith}
use lib.Arith.{digits_lt, digits_div, digits_mod}
use lib.ListN.{length, get_or, set, length-set, take, drop, replicate, length-append, get_or-append}
use lib.Seq.{ext_get_or, get_or_at, get_or-set_same, get_or-set_other, length-take-le, take-suc, drop-cons, append_snoc, set_at, set-get_or, take_at, take_all}
use Rattle.grid.specs.Cells.{up_to, cell, put, put_both, EmptyCell}

-- ---- a list by its entries

pub up_to-length : (k : ℕ) (f : ℕ → ℕ) → length (up_to k f) ≡ k
unfolding up_to
up_to-length zero f = refl
up_to-length (suc k) f = omega (arith, length-append (up_to k f) (f k ∷ []), up_to-length k f)

pub up_to-at : (k : ℕ) (f : ℕ → ℕ) (p : ℕ) → p < k → get_or (up_to k f) p 0 ≡ f p
unfolding up_to
up_to-at zero f p h = absurd (omega arith)
up_to-at (suc k) f p h = by (up_to-length k f) (up_to-at k f p) (dec_lt p k)
  where
    by : length (up_to k f) ≡ k → (p < k → get_or (up_to k f) p 0 ≡ f p) → Dec (p < k) → get_or (up_to k f ++ f k ∷ []) p 0 ≡ f p
    by n r (yes g) = get_or-append (up_to k f) (f k ∷ []) 0 p (omega arith) ∙ r g
    by n r (no g) =
        let e : p ≡ k = omega arith in
        rw e (get_or_at (up_to k f) (f k) [] 0 k n)

-- ---- cells

-- a cell's place is inside, and small
pub record Place (n i j : ℕ) : Type 0 where
  pub inside : i * n + j < n * n
  pub small : n * n ≤ 1024

pub place : {n i j : ℕ} → n ≤ 32 → i < n → j < n → Place n i j
place hn hi hj = record { inside = digits_lt hi hj; small = mul-le-mul hn hn }

pub put-length : (n : ℕ) (g : List ℕ) (i j a : ℕ) → length (put n g i j a) ≡ length g
unfolding put
put-length n g i j a = length-set g (i * n + j) a

pub put_both-length : (turn : ℕ → ℕ) (n : ℕ) (g : List ℕ) (i j a : ℕ) → length (put_both turn n g i j a) ≡ length g
unfolding put_both
put_both-length turn n g i j a = put-length n (put n g i j a) j i (turn a) ∙ put-length n g i j a

-- a put, and then what it is turned round in the mirrored cell
pub both_put : (turn : ℕ → ℕ) (n i j a x : ℕ) (g g₁ g₂ : List ℕ) → g₁ ≡ put n g i j a → x ≡ turn a → g₂ ≡ put n g₁ j i x → g₂ ≡ put_both turn n g i j a
unfolding put_both
both_put turn n i j a x g g₁ g₂ p q r = r ∙ ap₂ (λ (h : List ℕ) (y : ℕ). put n h j i y) p q

-- what stands there already is put: nothing changes
pub put_both-same : (turn : ℕ → ℕ) (n : ℕ) (g : List ℕ) (i j a : ℕ) → a ≡ cell n g i j → turn a ≡ cell n g j i → put_both turn n g i j a ≡ g
unfolding cell put put_both
put_both-same turn n g i j a e f =
    ap (λ (h : List ℕ). set h (j * n + i) (turn a)) (ap (set g (i * n + j)) e ∙ set-get_or g (i * n + j) 0)
    ∙ ap (set g (j * n + i)) f ∙ set-get_or g (j * n + i) 0

module _ (n : ℕ) (g : List ℕ) (fits : n * n ≤ length g) (i j a : ℕ) (hi : i < n) (hj : j < n) where
  pub cell-put-same : cell n (put n g i j a) i j ≡ a
  unfolding cell put
  cell-put-same = get_or-set_same g (i * n + j) a 0 (omega (arith, digits_lt hi hj))

  pub cell-put-other : (x y : ℕ) → y < n → ((x ≡ i) × (y ≡ j) → ⊥) → cell n (put n g i j a) x y ≡ cell n g x y
  unfolding cell put
  cell-put-other x y hy ne =
      get_or-set_other g (i * n + j) (x * n + y) a 0
      (λ e. ne (
        sym (digits_div x hy) ∙ ap (λ p. p / n) e ∙ digits_div i hj,
        sym (digits_mod x hy) ∙ ap (λ p. p % n) e ∙ digits_mod i hj,
      ))

-- a cell and its mirror, off the diagonal
module _ (turn : ℕ → ℕ) (n : ℕ) (g : List ℕ) (fits : n * n ≤ length g) (i j a : ℕ) (hi : i < n) (hj : j < n) where
  fits-put : n * n ≤ length (put n g i j a)
  fits-put = omega (arith, put-length n g i j a)

  pub cell_both_mirror : cell n (put_both turn n g i j a) j i ≡ turn a
  unfolding put_both
  cell_both_mirror = cell-put-same n (put n g i j a) fits-put j i (turn a) hj hi

  pub cell_both_here : (i ≡ j → ⊥) → cell n (put_both turn n g i j a) i j ≡ a
  unfolding put_both
  cell_both_here ne = cell-put-other n (put n g i j a) fits-put j i (turn a) hj hi i j hj (λ w. ne w.0) ∙ cell-put-same n g fits i j a hi hj

  pub cell_both_other : (x y : ℕ) → y < n → ((x ≡ i) × (y ≡ j) → ⊥) → ((x ≡ j) × (y ≡ i) → ⊥)
      → cell n (put_both turn n g i j a) x y ≡ cell n g x y
  unfolding put_both
  cell_both_other x y hy p q =
      cell-put-other n (put n g i j a) fits-put j i (turn a) hj hi x y hy q ∙ cell-put-other n g fits i j a hi hj x y hy p

-- ---- a grid that is copied

-- one more cell of s copied to the front of d
pub front_more : (d s : List ℕ) (k : ℕ) → k < length d → k < length s → set (take k s ++ drop k d) k (get_or s k 0) ≡ take (k + 1) s ++ drop (k + 1) d
front_more d s k h g =
    ap (λ (l : List ℕ). set (take k s ++ l) k (get_or s k 0)) (drop-cons d k 0 h)
    ∙ set_at (take k s) (get_or d k 0) (drop (suc k) d) (get_or s k 0) k (length-take-le k s (omega arith))
    ∙ sym (append_snoc (take k s) (get_or s k 0) (drop (suc k) d))
    ∙ rw (add-one, take-suc s k 0)

-- the front of a room that a grid was copied to is the grid
pub copied_front : (g room : List ℕ) (m : ℕ) → length g ≡ m → take m (take m g ++ drop m room) ≡ g
copied_front g room m long = take_at (take m g) (drop m room) m (length-take-le m g (omega arith)) ∙ take_all m g (omega arith)

-- ---- a cleared grid

pub zeros : (k p : ℕ) → ◌≡◌ {A = ℕ} (get_or (replicate k 0) p 0) 0
zeros zero p = refl
zeros (suc k) zero = refl
zeros (suc k) (suc p) = zeros k p

pub cell_cleared : (n k i j : ℕ) → cell n (replicate k 0) i j ≡ 0
unfolding cell
cell_cleared n k i j = zeros k (i * n + j)

-- where there is an event, a cleared grid has an empty cell
pub cleared_empty : (n : ℕ) → 0 < n → EmptyCell n (replicate (n * n) 0)
cleared_empty n h = (0, 0, h, h, cell_cleared n (n * n) 0 0)

-- ---- from a place to its cell

-- the row and the column of a place
pub record Located (n p : ℕ) : Type 0 where
  pub row : p / n < n
  pub column : p % n < n
  pub back : p / n * n + p % n ≡ p

pub located : (n p : ℕ) → p < n * n → Located n p
located n p h =
    let pos : 0 < n = pos_of n h in
    record { row = (div-lt_iff_lt-mul pos).1 h; column = mod-lt p pos; back = div-add-mod' p n }
  where
    pos_of : (n : ℕ) → p < n * n → 0 < n
    pos_of zero h = absurd (omega arith)
    pos_of (suc n) h = zero-lt-suc n

-- two grids of n events with the same cells are the same list
pub same-cells : (n : ℕ) (g h : List ℕ) → length g ≡ n * n → length h ≡ n * n → ((i j : ℕ) → i < n → j < n → cell n g i j ≡ cell n h i j) → g ≡ h
unfolding cell
same-cells n g h eg eh same = ext_get_or 0 g h (eg ∙ sym eh) (λ p lt. at p (subst (λ (l : ℕ). p < l) eg lt))
  where
    at : (p : ℕ) → p < n * n → get_or g p 0 ≡ get_or h p 0
    at p lt =
        let f : Located n p = located n p lt in
        subst (λ (x : ℕ). get_or g x 0 ≡ get_or h x 0) f.back (same (p / n) (p % n) f.row f.column)
