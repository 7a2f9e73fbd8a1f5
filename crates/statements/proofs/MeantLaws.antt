-- A placing meets the grid of a list of statements exactly if it meets each statement.
use mathlib.Core.Path.{sym, subst}
use mathlib.Core.Logic.{◌↔◌}
use mathlib.Core.List.{List, [], ◌∷◌}
use Prim.Native.Nat.{ℕ, ◌≤◌, ◌<◌}
use native.Mathlib.Decide.{ℕ_discrete}
use lib.Dec.{T}
use Rattle.relation.specs.Meaning.{Event}
use Rattle.relation.specs.Comparing.{rel_of}
use Rattle.relation.specs.Sets.{member}
use Rattle.relation.specs.Composition.{converse}
use Rattle.relation.proofs.Tested.{and_left, and_right, and_both, all, all-at}
use Rattle.relation.proofs.Relations.{rel_of_lt, one-within, within-one, rel_of_self}
use Rattle.relation.proofs.SetLaws.{member_and}
use Rattle.relation.proofs.ExchangeLaws.{converse-means}
use Rattle.grid.specs.Cells.{cell}
use Rattle.grid.specs.Accepted.{Accepted}
use Rattle.grid.specs.Meets.{Meets}
use Rattle.statements.specs.Statements.{Statement, Fits, AllFit}
use Rattle.statements.specs.Grid.{start_grid, left_by, cut_by, cut_all, grid_of, MeetsEach}
use Rattle.statements.proofs.GridLaws.{start-same, start-other, start-accepted, Side, here, mirror, other, side, cut_here, cut_mirror, cut-other, has, cut-accepted}

turned : (a : ℕ) (X Y : Event) → T (member (rel_of X Y) a) → T (member (rel_of Y X) (converse a))
turned a X Y w = subst T (sym (converse-means a X Y)) w

module _ (n : ℕ) (P : ℕ → Event) where
  -- every cell has the relation of its two events
  abbrev Kept : List ℕ → Type 0
  Kept g = (i j : ℕ) → i < n → j < n → T (member (rel_of (P i) (P j)) (cell n g i j))

  -- ---- the start leaves every placing

  all_test : T (all 13 (λ r. member r 8191))
  unfolding member
  all_test = tt

  to_itself : (X : Event) → T (member (rel_of X X) 4096)
  unfolding member
  to_itself X = subst (λ (r : ℕ). T (member r 4096)) (sym (rel_of_self X)) tt

  start-kept : Kept (start_grid n)
  start-kept i j hi hj = elim (ℕ_discrete i j) [
    | yes e ↦ rw (start-same n i j hi hj e, e) (to_itself (P j))
    | no e ↦ rw (start-other n i j hi hj e) (all-at 13 (λ r. member r 8191) all_test (rel_of (P i) (P j)) (rel_of_lt (P i) (P j)))
  ]

  -- ---- a cut leaves exactly those that meet the statement

  module _ (g : List ℕ) (a : Accepted n g) (t : Statement) (f : Fits n t) where
    abbrev r : ℕ
    r = rel_of (P t.one) (P t.two)

    -- what a cut leaves lies in the cell and in the statement's set
    module _ (k : Kept (cut_by n g t)) where
      both : T (member r (cell n g t.one t.two)) × T (member r t.set)
      both =
          let w : T (member r (left_by n g t)) = rw (cut_here n g (has n g a t f) t f) at (k t.one t.two f.one_in f.two_in) in
          let v = subst T (member_and r (cell n g t.one t.two) t.set) w in
          (and_left (member r (cell n g t.one t.two)) (member r t.set) v, and_right (member r (cell n g t.one t.two)) (member r t.set) v)

      cut-kept : Kept g
      cut-kept i j hi hj = by (side t.one t.two i j)
        where
          by : Side t.one t.two i j → T (member (rel_of (P i) (P j)) (cell n g i j))
          by (here p q) = rw (p, q) both.0
          by (mirror p q) =
              rw (p, q, a.mirrored t.one t.two f.one_in f.two_in) (turned (cell n g t.one t.two) (P t.one) (P t.two) both.0)
          by (other p q) = rw (cut-other n g (has n g a t f) t f i j hj p q) at (k i j hi hj)

    cut_keeps : Kept g → T (member r t.set) → Kept (cut_by n g t)
    cut_keeps k w i j hi hj = by (side t.one t.two i j)
      where
        left : T (member r (left_by n g t))
        left =
            subst T (sym (member_and r (cell n g t.one t.two) t.set))
            (and_both (member r (cell n g t.one t.two)) (member r t.set) (k t.one t.two f.one_in f.two_in) w)

        by : Side t.one t.two i j → T (member (rel_of (P i) (P j)) (cell n (cut_by n g t) i j))
        by (here p q) = rw (p, q, cut_here n g (has n g a t f) t f) left
        by (mirror p q) = rw (p, q, cut_mirror n g (has n g a t f) t f) (turned (left_by n g t) (P t.one) (P t.two) left)
        by (other p q) = rw (cut-other n g (has n g a t f) t f i j hj p q) (k i j hi hj)

  -- ---- and so do all cuts

  cuts_keep : (g : List ℕ) (sts : List Statement) → Accepted n g → AllFit n sts → Kept g → MeetsEach P sts → Kept (cut_all n g sts)
  unfolding cut_all
  cuts_keep g [] a f k m = k
  cuts_keep g (t ∷ sts) a f k m =
      cuts_keep (cut_by n g t) sts (cut-accepted n g a t f.0) f.1
      (cut_keeps g a t f.0 k (one-within t.set (P t.one) (P t.two) m.0)) m.1

  cuts-kept : (g : List ℕ) (sts : List Statement) → Accepted n g → AllFit n sts → Kept (cut_all n g sts) → Kept g × MeetsEach P sts
  unfolding cut_all
  cuts-kept g [] a f k = (k, tt)
  cuts-kept g (t ∷ sts) a f k =
      let w = cuts-kept (cut_by n g t) sts (cut-accepted n g a t f.0) f.1 k in
      (cut-kept g a t f.0 w.0, (within-one t.set (P t.one) (P t.two) (both g a t f.0 w.0).1, w.1))

  pub meets-each : (sts : List Statement) → n ≤ 32 → AllFit n sts → Meets n (grid_of n sts) P ↔ MeetsEach P sts
  unfolding grid_of
  meets-each sts h f = (
    λ m. (cuts-kept (start_grid n) sts (start-accepted n h) f (λ i j hi hj. one-within (cell n (grid_of n sts) i j) (P i) (P j) (m.each i j hi hj))).1,
    λ e. record {
      each = λ i j hi hj. within-one (cell n (grid_of n sts) i j) (P i) (P j) (cuts_keep (start_grid n) sts (start-accepted n h) f start-kept e i j hi hj);
    },
  )
