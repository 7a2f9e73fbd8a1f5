-- What each refusal of a grid says, and that a grid without one is accepted.
use mathlib.Core.Path.{◌≡◌, refl, sym, ap, ◌∙◌, subst}
use mathlib.Core.Bool.{Bool, true, false, not, cond}
use mathlib.Core.List.{List}
use Prim.Native.Nat.{ℕ, ◌+◌, ◌*◌, ◌/◌, ◌%◌, ◌≤◌, ◌<◌}
use native.Mathlib.Omega.{arith}
use borrow.Author.Tests.{le-ltb, eq-eqb, ltb-false, eqb-true, not-false}
use lib.Arith.{digits_lt}
use lib.Dec.{T, eqb, ltb}
use lib.ListN.{length, get_or}
use Rattle.refusal.proofs.AnsweredLaws.{first_next, first-none}
use Rattle.relation.specs.Sets.{some}
use Rattle.relation.specs.Composition.{converse}
use Rattle.relation.proofs.Tested.{some_yes, some_no}
use Rattle.grid.specs.Cells.{cell}
use Rattle.grid.proofs.CellLaws.{located}
use Rattle.grid.specs.Accepted.{Accepted, size_refusal, some_large, some_not_eq, row_unlike, some_unlike, cell_refusal, grid_refusal}

-- ---- refusals 1 and 2

-- no refusal for its size
pub record Sized (n : ℕ) (g : List ℕ) : Type 0 where
  pub few : n ≤ 32
  pub long : length g ≡ n * n

pub sized : (n : ℕ) (g : List ℕ) → size_refusal n g ≡ 0 → Sized n g
unfolding size_refusal
sized n g e = go (ltb 32 n) (eqb (length g) (n * n)) refl refl e
  where
    go : (p q : Bool) → ltb 32 n ≡ p → eqb (length g) (n * n) ≡ q → ◌≡◌ {A = ℕ} (cond p 1 (cond q 0 2)) 0 → Sized n g
    go true q a b z = absurd (omega arith)
    go false true a b z = record { few = ltb-false 32 n a; long = eqb-true (length g) (n * n) b }
    go false false a b z = absurd (omega arith)

pub size-fine : (n : ℕ) (g : List ℕ) → n ≤ 32 → length g ≡ n * n → size_refusal n g ≡ 0
unfolding size_refusal
size-fine n g h e = simp (le-ltb 32 n h, eq-eqb (length g) (n * n) e)

-- ---- refusals 3, 4 and 5

module _ (n : ℕ) (g : List ℕ) where
  pub cells-fine : some_large g ≡ false → some_not_eq n g ≡ false → some_unlike n g ≡ false → cell_refusal n g ≡ 0
  unfolding cell_refusal
  cells-fine a b d = simp (a, b, d)

  -- no refusal for its cells
  record Fine : Type 0 where
    large : some_large g ≡ false
    not_eq_lem : some_not_eq n g ≡ false
    unlike : some_unlike n g ≡ false

  fine : cell_refusal n g ≡ 0 → Fine
  unfolding cell_refusal
  fine e = go (some_large g) (some_not_eq n g) (some_unlike n g) refl refl refl e
    where
      go : (p q r : Bool) → some_large g ≡ p → some_not_eq n g ≡ q → some_unlike n g ≡ r → ◌≡◌ {A = ℕ} (cond p 3 (cond q 4 (cond r 5 0))) 0 → Fine
      go true q r a b d z = absurd (omega arith)
      go false true r a b d z = absurd (omega arith)
      go false false true a b d z = absurd (omega arith)
      go false false false a b d z = record { large = a; not_eq_lem = b; unlike = d }

-- a test that none passes is failed by each
pub none_passes : (k : ℕ) (p : ℕ → Bool) → some k p ≡ false → (i : ℕ) → i < k → p i ≡ false
none_passes k p e i h = go (p i) refl
  where
    go : (x : Bool) → p i ≡ x → p i ≡ false
    go true a = absurd (subst T (sym (some_yes k p i h a) ∙ e) tt)
    go false a = a

-- ---- accepted

pub accepted : (n : ℕ) (g : List ℕ) → size_refusal n g ≡ 0 → cell_refusal n g ≡ 0 → Accepted n g
unfolding cell
accepted n g s e =
    let size = sized n g s in
    let f = fine n g e in
    record {
      few = size.few;
      long = size.long;
      small = λ i j hi hj.
          ltb-false 8191 (cell n g i j)
          (none_passes (length g) (λ p. ltb 8191 (get_or g p 0)) f.large (i * n + j) (omega (arith, digits_lt hi hj, size.long)));
      diagonal = λ i hi.
          eqb-true (cell n g i i) 4096
          (not-false (eqb (cell n g i i) 4096) (none_passes n (λ i. not (eqb (cell n g i i) 4096)) f.not_eq_lem i hi));
      mirrored = λ i j hi hj.
          eqb-true (cell n g j i) (converse (cell n g i j))
          (not-false (eqb (cell n g j i) (converse (cell n g i j)))
          (none_passes n (λ j. not (eqb (cell n g j i) (converse (cell n g i j)))) (none_passes n (row_unlike n g) f.unlike i hi) j hj));
    }

-- an accepted grid meets no refusal
pub never-refused : (n : ℕ) (g : List ℕ) → Accepted n g → (size_refusal n g ≡ 0) × (cell_refusal n g ≡ 0)
unfolding cell
never-refused n g a = (
  size-fine n g a.few a.long,
  cells-fine n g (some_no (length g) (λ p. ltb 8191 (get_or g p 0)) large)
      (some_no n (λ i. not (eqb (cell n g i i) 4096)) (λ i h. ap not (eq-eqb (cell n g i i) 4096 (a.diagonal i h))))
      (some_no n (row_unlike n g)
      (λ i h. some_no n (λ j. not (eqb (cell n g j i) (converse (cell n g i j))))
      (λ j k. ap not (eq-eqb (cell n g j i) (converse (cell n g i j)) (a.mirrored i j h k))))),
)
  where
    at_place : (p : ℕ) → p < n * n → get_or g p 0 ≤ 8191
    at_place p h = let w = located n p h in subst (λ (q : ℕ). get_or g q 0 ≤ 8191) w.back (a.small (p / n) (p % n) w.row w.column)

    large : (p : ℕ) → p < length g → ltb 8191 (get_or g p 0) ≡ false
    large p h = le-ltb 8191 (get_or g p 0) (at_place p (omega (arith, a.long)))

-- a grid that meets no refusal is accepted
pub accepted-grid : (n : ℕ) (g : List ℕ) → grid_refusal n g ≡ 0 → Accepted n g
accepted-grid n g e = let w = first-none (size_refusal n g) (cell_refusal n g) e in accepted n g w.0 w.1

pub never-refused-grid : (n : ℕ) (g : List ℕ) → Accepted n g → grid_refusal n g ≡ 0
never-refused-grid n g a =
    let w = never-refused n g a in
    first_next (size_refusal n g) (cell_refusal n g) w.0 ∙ w.1
