-- What the code sees at one cell, as steps of the rule.
use mathlib.Core.Path.{◌≡◌, refl, sym, ap, ap₂, subst, ◌∙◌}
use mathlib.Core.Bool.{Bool, true, false}
use mathlib.Core.Logic.{⊎_elim}
use mathlib.Core.List.{List, [], ◌∷◌}
use Prim.Native.Nat.{ℕ, ◌+◌, ◌-◌, ◌^◌, ◌≤◌, ◌<◌}
use native.Mathlib.Decide.{ℕ_discrete}
use native.Mathlib.Nat.{eq-or-lt_of_le}
use native.Mathlib.Omega.{arith}
use borrow.Author.Tests.{ne_eqb}
use lib.Count.{count_trailing_zeros}
use lib.IntN.{ℤ}
use lib.Pow.{pow_pos}
use lib.ListN.{length}
use types.Run.{OneOf}
use denote.Enum.Declared.{tag_of}
use Rattle.relation.specs.Sets.{member}
use Rattle.relation.proofs.Tested.{T_of}
use Rattle.relation.proofs.SetLaws.{member-mark}
use Rattle.relation.proofs.LowestLaws.{Lowest, lowest_thirteen, mark_le}
use Rattle.relation.specs.Composition.{converse}
use Rattle.grid.specs.Cells.{cell, put_both}
use Rattle.theory.specs.Search.{Pair, emptied, closed, closes_to, Found, placed, none, gave_up, or_next, search_from, pairs_from}
use Rattle.theory.specs.Tried.{tried_by}
use Rattle.theory.specs.Allen.{allen}
use Rattle.theory.proofs.PlacedLaws.{mark-inside}
use Rattle.takes.specs.Steps.{ended}
use Rattle.takes.specs.declared.End.{End}
use Rattle.takes.specs.declared.End.TheVariants.{Contradiction, Closed, Paused}
use Rattle.takes.specs.contracts.End.{the_type as end-type}
use Rattle.search.specs.Rule.{there_at, try_at, search_at}
use Rattle.search.specs.Answers.{looked, said_by, room_by}
use Rattle.quick.specs.Steps.{ClosedGrid, Cuttable}
use Rattle.search.specs.Steps.{Shows, Settles, Triable, AtCell, Stands, Steps, Passes, goes_on, after}
use Rattle.search.specs.declared.Looked.{Looked}
use Rattle.search.specs.declared.Stand.{Stand}
use Rattle.search.specs.declared.Outcome.{Outcome}
use Rattle.search.specs.declared.Outcome.TheVariants.{Placed, None, GaveUp}
use Rattle.search.specs.contracts.Outcome.{the_type as outcome-type}
use Rattle.search.proofs.RuleLaws.{from, from-closed, from-emptied, from_alone, at_next, after_next}
use Rattle.search.proofs.TryRight.{searched_whole, whole_searched, try_same, try_whole}

-- ---- the cell that is read

pub there-is : (n i j r set : ℕ) (g : List ℕ) (b x : Bool) → set ≡ cell n g i j → b ≡ member r set → b ≡ x → there_at n (i, j) r g ≡ x
unfolding there_at
there-is n i j r set g b x e f h = ap (member r) (sym e) ∙ sym f ∙ h

-- ---- the first relation, and past the last cell

pub look-start : (n a i j t : ℕ) (g : List ℕ) (ps : List Pair) → pairs_from n i j ≡ (i, j) ∷ ps
    → from (there_at n) (try_at n) a (search_at n a ps) (i, j) g 0 t ≡ search_at n a (pairs_from n i j) g t
unfolding search_at search_from
look-start n a i j t g ps e = rw e

nil_of : (ps : List Pair) → length ps ≡ 0 → ps ≡ []
nil_of [] e = refl
nil_of (p ∷ ps) e = absurd (omega arith)

pub look-end : (n a t : ℕ) (g : List ℕ) (ps : List Pair) (room room' : List ℤ) (l : Looked) → length ps ≡ 0 → t ≤ a → Settles n t g room l room'
    → Shows n a (search_at n a ps g t) room l room'
unfolding search_at search_from
look-end n a t g ps room room' l e h s =
    rw (nil_of ps e) (record { answer = s.answer; room_after = s.room_after; within = omega (arith, s.tries) })

-- ---- a try

-- every answer but Closed leaves a cell empty
pub no_grid : (e : End) (g : List ℕ) → OneOf (0 ∷ 2 ∷ []) (tag_of end-type e) → tried_by (ended e g) ≡ emptied
no_grid (Contradiction t) g h = refl
no_grid (Closed t) g h = absurd (⊎_elim (λ e. omega arith) (λ e. omega arith) h)
no_grid (Paused t) g h = refl

pub a-grid : (e : End) (t : ℕ) (g : List ℕ) → e ≡ Closed t → tried_by (ended e g) ≡ closed g
a-grid e t g q = ap (λ (x : End). tried_by (ended x g)) q

-- the grid that a try leaves
pub next_searched : (n i j r v : ℕ) (g g' : List ℕ) (e : End) → Triable n i j r g → tried_by (ended e g') ≡ try_at n (i, j) r g → e ≡ Closed v → ClosedGrid n g'
next_searched n i j r v g g' e T tried ends =
    whole_searched n g'
    (try_whole n (i, j) r g (T.upper, T.inside) T.relation T.there (searched_whole n g T.grid) g' (sym tried ∙ a-grid e v g' ends))

-- the pair can be cut to that relation, and what closing leaves then is the try
pub triable_cut : (n i j r v : ℕ) (g : List ℕ) → v ≡ 2 ^ r → Triable n i j r g → Cuttable n i j v g
unfolding there_at
triable_cut n i j r v g e T =
    subst (λ (x : ℕ). Cuttable n i j x g) (sym e)
    (record {
      grid = T.grid;
      from = omega (arith, T.upper, T.inside);
      to = T.inside;
      apart = λ q. omega (arith, T.upper);
      inside = mark-inside r (cell n g i j) T.relation (T_of T.there);
      some = λ z. omega (arith, pow_pos r);
    })

pub try_made : (n i j r v : ℕ) (g : List ℕ) → v ≡ 2 ^ r → closes_to allen n (put_both converse n g i j v) ≡ try_at n (i, j) r g
unfolding try_at
try_made n i j r v g e = ap (λ (x : ℕ). closes_to allen n (put_both converse n g i j x)) e

-- ---- what the cells after this one came to

none_shown : (o : Outcome) (t : ℕ) (e : Found) → o ≡ None → looked o t ≡ said_by e → e ≡ none t
none_shown o t e q s = go e (sym (ap (λ (x : Outcome). looked x t) q) ∙ s)
  where
    go : (e : Found) → looked None t ≡ said_by e → e ≡ none t
    go (placed u h) z = let y : None ≡ Placed = ap (λ (x : Looked). x.outcome) z in absurd (cc)
    go (none u) z = ap none (sym (ap (λ (x : Looked). x.tries) z))
    go (gave_up u) z = let y : None ≡ GaveUp = ap (λ (x : Looked). x.outcome) z in absurd (cc)

kept_shown : (o : Outcome) (t : ℕ) (e : Found) (next : ℕ → Found) → OneOf (0 ∷ 2 ∷ []) (tag_of outcome-type o) → looked o t ≡ said_by e → or_next e next ≡ e
kept_shown o t (placed u h) next x s = refl
kept_shown o t (gave_up u) next x s = refl
kept_shown Placed t (none u) next x s = let y : Placed ≡ None = ap (λ (x : Looked). x.outcome) s in absurd (cc)
kept_shown None t (none u) next x s = absurd (⊎_elim (λ e. omega arith) (λ e. omega arith) x)
kept_shown GaveUp t (none u) next x s = let y : GaveUp ≡ None = ap (λ (x : Looked). x.outcome) s in absurd (cc)

-- one relation's turn, of what the callees answered
module _ (n a : ℕ) (ps : List Pair) (p : Pair) (g g' : List ℕ) (r t : ℕ) (e : End) (lt : r < 13) (there : there_at n p r g ≡ true) (fresh : t ≡ a → ⊥)
    (tried : tried_by (ended e g') ≡ try_at n p r g) where
  pub turn-emptied : OneOf (0 ∷ 2 ∷ []) (tag_of end-type e) → from (there_at n) (try_at n) a (search_at n a ps) p g r t ≡ from (there_at n) (try_at n) a (search_at n a ps) p g (r + 1) (t + 1)
  turn-emptied x = from-emptied (there_at n) (try_at n) a (search_at n a ps) p g r t lt there fresh (sym tried ∙ no_grid e g' x)

  module _ (v : ℕ) (room room' : List ℤ) (l : Looked) (is : e ≡ Closed v) (below : Shows n a (search_at n a ps g' (t + 1)) room l room') where
    turned : from (there_at n) (try_at n) a (search_at n a ps) p g r t
        ≡ or_next (search_at n a ps g' (t + 1)) (λ u. from (there_at n) (try_at n) a (search_at n a ps) p g (r + 1) u)
    turned = from-closed (there_at n) (try_at n) a (search_at n a ps) p g r t g' lt there fresh (sym tried ∙ a-grid e v g' is)

    pub turn-none : l.outcome ≡ None → (u : ℕ) → u ≡ l.tries
        → (from (there_at n) (try_at n) a (search_at n a ps) p g r t ≡ from (there_at n) (try_at n) a (search_at n a ps) p g (r + 1) u) × (room' ≡ room)
    turn-none q u w =
        let z = none_shown l.outcome l.tries (search_at n a ps g' (t + 1)) q below.answer in (
          turned ∙ ap (λ (x : Found). or_next x (λ u. from (there_at n) (try_at n) a (search_at n a ps) p g (r + 1) u)) z
              ∙ ap (λ (x : ℕ). from (there_at n) (try_at n) a (search_at n a ps) p g (r + 1) x) (sym w),
          below.room_after ∙ ap (λ (x : Found). room_by n x room) z,
        )

    pub turn-kept : OneOf (0 ∷ 2 ∷ []) (tag_of outcome-type l.outcome) → (whole : Found) (first : List ℤ)
        → from (there_at n) (try_at n) a (search_at n a ps) p g r t ≡ whole → room ≡ first → Shows n a whole first l room'
    turn-kept x whole first w k =
        let z = turned ∙ kept_shown l.outcome l.tries (search_at n a ps g' (t + 1)) (λ u. from (there_at n) (try_at n) a (search_at n a ps) p g (r + 1) u) x below.answer in
        subst (λ (y : Found). Shows n a y first l room') (sym z ∙ w) (subst (λ (y : List ℤ). Shows n a (search_at n a ps g' (t + 1)) y l room') k below)

-- ---- the answers at one cell

module _ (n a t : ℕ) (e : Found) (room room' : List ℤ) (l : Looked) (kept : room' ≡ room) (within : t ≤ a) (tries : l.tries ≡ t) where
  pub shows_gave_up : e ≡ gave_up t → l.outcome ≡ GaveUp → Shows n a e room l room'
  shows_gave_up q o =
      record { answer = ap₂ looked o tries ∙ sym (ap said_by q); room_after = kept ∙ sym (ap (λ (x : Found). room_by n x room) q); within = omega arith }

  pub shows_none : e ≡ none t → l.outcome ≡ None → Shows n a e room l room'
  shows_none q o =
      record { answer = ap₂ looked o tries ∙ sym (ap said_by q); room_after = kept ∙ sym (ap (λ (x : Found). room_by n x room) q); within = omega arith }

-- ---- from one stand to another

-- what is shown from a stand that was passed to is shown from the one before
pub shows_passed : (n a : ℕ) (g : List ℕ) (from s : Stand) (room room' : List ℤ) (l : Looked) → Passes n a g from s → Shows n a (goes_on n a g s) room l room'
    → Shows n a (goes_on n a g from) room l room'
shows_passed n a g from s room room' l p w = subst (λ (e : Found). Shows n a e room l room') p.same w

-- a further try is allowed
pub tries_left : (t a : ℕ) → t ≤ a → (t ≡ a → ⊥) → t < a
tries_left t a h fresh = ⊎_elim (λ e. absurd (fresh e)) (λ l. l) (eq-or-lt_of_le h)

-- a cell that is left is one of the upper cells
pub stands_in : (n a : ℕ) (s : Stand) → Stands n a s → 0 < s.left → (s.i < n) × (s.j < n) × (s.i ≡ s.j → ⊥)
stands_in n a s w h =
    let m = w.at.more h in
    (omega (arith, w.at.upper), m, λ e. omega (arith, w.at.upper))

-- where a try can be made
pub triable : (n a r : ℕ) (g : List ℕ) (s : Stand) → ClosedGrid n g → Stands n a s → 0 < s.left → r < 13 → there_at n (s.i, s.j) r g ≡ true → Triable n s.i s.j r g
triable n a r g s S w h lt is = record { grid = S; upper = w.at.upper; inside = w.at.more h; relation = lt; there = is }

-- and is not empty
pub cell-some : (n : ℕ) (g : List ℕ) → ClosedGrid n g → (i j : ℕ) → i < n → j < n → (set : ℕ) → set ≡ cell n g i j → 0 < set
cell-some n g S i j hi hj set is = go (ℕ_discrete set 0)
  where
    go : Dec (set ≡ 0) → 0 < set
    go (yes z) = absurd (S.full i j hi hj (sym is ∙ z))
    go (no nz) = omega arith

-- one cell further
module _ (n : ℕ) (at s : Stand) (t : ℕ) (steps : Steps n at t s) where
  pub goes_on-next : (a : ℕ) (g : List ℕ) → goes_on n a g s ≡ search_at n a (pairs_from n (after n at.i at.j).0 (after n at.i at.j).1) g t
  goes_on-next a g = rw (steps.i, steps.j, steps.tries)

  pub shows_next : (a : ℕ) (g : List ℕ) (room room' : List ℤ) (l : Looked) → Shows n a (goes_on n a g s) room l room'
      → Shows n a (search_at n a (pairs_from n (after n at.i at.j).0 (after n at.i at.j).1) g t) room l room'
  shows_next a g room room' l w = subst (λ (e : Found). Shows n a e room l room') (goes_on-next a g) w

  pub step-at : AtCell n at.i at.j at.left → at.j < n → AtCell n s.i s.j s.left
  step-at w h =
      rw (steps.i, steps.j, steps.left)
      (at_next n at.i at.j at.left (after n at.i at.j).0 (after n at.i at.j).1 w (after_next n at.i at.j w.upper h))

-- ---- cells that have one relation alone

module _ (n a : ℕ) (g : List ℕ) (S : ClosedGrid n g) (at s : Stand) (stands : Stands n a at) (more : 0 < at.left) (fresh : at.tries ≡ a → ⊥) (steps : Steps n at (at.tries + 1) s) (set : ℕ) (is : set ≡ cell n g at.i at.j) (alone : set - 2 ^ count_trailing_zeros 16 set ≡ 0) where
  abbrev r : ℕ
  r = count_trailing_zeros 16 set

  in_grid : (at.i < n) × (at.j < n) × (at.i ≡ at.j → ⊥)
  in_grid = stands_in n a at stands more

  some : 0 < set
  some = cell-some n g S at.i at.j in_grid.0 in_grid.1 set is

  lowest : Lowest 13 set r
  lowest = lowest_thirteen set some (rw is (omega (arith, S.accepted.small at.i at.j in_grid.0 in_grid.1)))

  mark : cell n g at.i at.j ≡ 2 ^ r
  mark = sym is ∙ omega (arith, alone, mark_le r set lowest.is_in)

  others : (x : ℕ) → x < 13 → (x ≡ r → ⊥) → there_at n (at.i, at.j) x g ≡ false
  unfolding there_at
  others x h ne = ap (member x) mark ∙ member-mark r x lowest.below h ∙ ne_eqb x r ne

  there : there_at n (at.i, at.j) r g ≡ true
  unfolding there_at
  there = ap (member r) (sym is) ∙ lowest.is_in

  abbrev next : List Pair
  next = pairs_from n (after n at.i at.j).0 (after n at.i at.j).1

  pub alone_goes_on : goes_on n a g s ≡ goes_on n a g at
  alone_goes_on =
      goes_on-next n at s (at.tries + 1) steps a g
      ∙ sym (from_alone (there_at n) (try_at n) a (search_at n a next) (at.i, at.j) g r at.tries lowest.below there others fresh
      (try_same n at.i at.j r g S in_grid.0 in_grid.1 mark))
      ∙ look-start n a at.i at.j at.tries g next (after_next n at.i at.j stands.at.upper in_grid.1).pairs

  pub alone_stands : Stands n a s
  alone_stands =
      record {
        at = step-at n at s (at.tries + 1) steps stands.at in_grid.1;
        within = omega (arith, steps.tries, tries_left at.tries a stands.within fresh);
      }
