-- Each statement only cuts, and the grid of a list of statements depends only on which statements there are: neither their order
-- nor how often one stands there matters. For each cell is the largest set inside what the statements say of it.
use mathlib.Core.Path.{◌≡◌, refl, sym, ◌∙◌, ap, subst}
use mathlib.Core.Logic.{⊎_elim, inl, inr}
use mathlib.Core.List.{List, [], ◌∷◌}
use Prim.Native.Nat.{ℕ, ◌*◌, ◌≤◌, ◌<◌}
use native.Mathlib.Omega.{arith}
use lib.Bits.{bit_and}
use lib.ListN.{length}
use Rattle.relation.specs.Composition.{converse}
use Rattle.relation.proofs.ExchangeLaws.{converse_and}
use Rattle.grid.specs.Cells.{cell}
use Rattle.grid.specs.Accepted.{Accepted}
use Rattle.grid.proofs.CellLaws.{same-cells}
use Rattle.theory.specs.Calculus.{Sub}
use Rattle.theory.specs.Closing.{Within}
use Rattle.theory.specs.Allen.{allen}
use Rattle.theory.proofs.AllenLaws.{lawful}
use Rattle.theory.proofs.ClosingLaws.{sub_refl, sub_trans, sub_antisym, sub_meet, sub_meet_l, sub_meet_r}
use Rattle.theory.proofs.MeetLaws.{sub_top}
use Rattle.statements.specs.Statements.{Statement, Fits, AllFit, In, AllIn}
use Rattle.statements.specs.Grid.{start_grid, cut_by, cut_all, grid_of}
use Rattle.statements.proofs.GridLaws.{start-accepted, Side, here, mirror, other, side, cut_here, cut_mirror, cut-other, cut-accepted, grid-accepted}

-- ---- what a statement says of i to j: its set from one side, the converse from the other, and any of other pairs

abbrev pub says_on : (t : Statement) (i j : ℕ) → Side t.one t.two i j → ℕ
says_on t i j (here p q) = t.set
says_on t i j (mirror p q) = converse t.set
says_on t i j (other p q) = 8191

abbrev pub says : Statement → ℕ → ℕ → ℕ
says t i j = says_on t i j (side t.one t.two i j)

-- a cell afterwards is what it was, cut by what the statement says of it
module _ (n : ℕ) (g : List ℕ) (has : n * n ≤ length g) (small : (i j : ℕ) → i < n → j < n → cell n g i j ≤ 8191)
    (mirrored : (i j : ℕ) → i < n → j < n → cell n g j i ≡ converse (cell n g i j)) (t : Statement) (f : Fits n t) where
  pub cut-cell : (i j : ℕ) → i < n → j < n → cell n (cut_by n g t) i j ≡ bit_and (cell n g i j) (says t i j)
  cut-cell i j hi hj = by (side t.one t.two i j)
    where
      by : (s : Side t.one t.two i j) → cell n (cut_by n g t) i j ≡ bit_and (cell n g i j) (says_on t i j s)
      by (here p q) =
          let e : cell n (cut_by n g t) i j ≡ bit_and (cell n g i j) t.set = rw (p, q) (cut_here n g has t f) in
          e
      by (mirror p q) =
          let e : cell n (cut_by n g t) i j ≡ bit_and (cell n g i j) (converse t.set) =
          rw (p, q)
          (cut_mirror n g has t f ∙ converse_and (cell n g t.one t.two) t.set
          ∙ ap (λ (x : ℕ). bit_and x (converse t.set)) (sym (mirrored t.one t.two f.one_in f.two_in))) in
          e
      by (other p q) = cut-other n g has t f i j hj p q ∙ sym (sub_top (cell n g i j) (small i j hi hj))

-- ---- the largest set inside what all say

module _ (n i j : ℕ) (hi : i < n) (hj : j < n) where
  cut_leaves : (g : List ℕ) (t : Statement) → Accepted n g → Fits n t → cell n (cut_by n g t) i j ≡ bit_and (cell n g i j) (says t i j)
  cut_leaves g t a f = cut-cell n g (omega (arith, a.long)) a.small a.mirrored t f i j hi hj

  -- what a list of statements leaves of a cell lies inside the cell, and inside what each of them says
  cuts-inside : (g : List ℕ) (sts : List Statement) → Accepted n g → AllFit n sts
      → Sub allen (cell n (cut_all n g sts) i j) (cell n g i j) × ((t : Statement) → In t sts → Sub allen (cell n (cut_all n g sts) i j) (says t i j))
  unfolding cut_all
  cuts-inside g [] a f = (sub_refl allen lawful (cell n g i j), λ t w. absurd w)
  cuts-inside g (t ∷ sts) a f =
      let c = cell n (cut_all n (cut_by n g t) sts) i j in
      let r = cuts-inside (cut_by n g t) sts (cut-accepted n g a t f.0) f.1 in
      let m : Sub allen c (bit_and (cell n g i j) (says t i j)) = subst (Sub allen c) (cut_leaves g t a f.0) r.0 in (
        sub_trans allen lawful c _ _ m (sub_meet_l allen lawful (cell n g i j) (says t i j)),
        λ u. ⊎_elim
            (λ q. subst (λ (v : Statement). Sub allen c (says v i j)) (sym q) (sub_trans allen lawful c _ _ m (sub_meet_r allen lawful (cell n g i j) (says t i j))))
            (r.1 u),
      )

  -- and every set that lies so lies inside what they leave
  cuts-largest : (g : List ℕ) (sts : List Statement) → Accepted n g → AllFit n sts → (d : ℕ) → Sub allen d (cell n g i j)
      → ((t : Statement) → In t sts → Sub allen d (says t i j)) → Sub allen d (cell n (cut_all n g sts) i j)
  unfolding cut_all
  cuts-largest g [] a f d p q = p
  cuts-largest g (t ∷ sts) a f d p q =
      cuts-largest (cut_by n g t) sts (cut-accepted n g a t f.0) f.1 d
      (subst (Sub allen d) (sym (cut_leaves g t a f.0)) (sub_meet allen lawful d _ _ p (q t (inl refl)))) (λ u w. q u (inr w))

-- ---- the grids of two lists

module _ (n : ℕ) (few : n ≤ 32) (sts ts : List Statement) (f : AllFit n sts) (h : AllFit n ts) where
  -- each statement only cuts: the grid of more statements lies inside that of fewer
  pub grid-inside : AllIn ts sts → Within allen n (cell n (grid_of n sts)) (cell n (grid_of n ts))
  unfolding grid_of
  grid-inside p i j hi hj =
      let a = start-accepted n few in
      let w = cuts-inside n i j hi hj (start_grid n) sts a f in
      cuts-largest n i j hi hj (start_grid n) ts a h _ w.0 (λ t u. w.1 t (p t u))

pub grid-same : (n : ℕ) → n ≤ 32 → (sts ts : List Statement) → AllFit n sts → AllFit n ts → AllIn sts ts → AllIn ts sts → grid_of n sts ≡ grid_of n ts
grid-same n few sts ts f h p q =
    same-cells n (grid_of n sts) (grid_of n ts) (grid-accepted n sts few f).long (grid-accepted n ts few h).long
    (λ i j hi hj. sub_antisym allen lawful (cell n (grid_of n sts) i j) (cell n (grid_of n ts) i j)
    (grid-inside n few sts ts f h q i j hi hj) (grid-inside n few ts sts h f p i j hi hj))
