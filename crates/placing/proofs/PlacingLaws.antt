-- A list, or any numbers for the ends, that passes the two tests of the checker gives a placing that meets the grid, and one that fails gives none.
use mathlib.Core.Path.{◌≡◌, refl, sym, ap, ap₂, ◌∙◌, subst}
use mathlib.Core.Bool.{Bool, true, false, not}
use mathlib.Core.List.{List}
use Prim.Native.Nat.{ℕ, ◌+◌, ◌*◌, ◌<◌}
use native.Mathlib.Omega.{arith}
use borrow.Author.Tests.{not-false}
use lib.Dec.{T}
use lib.IntN.{ℤ, pos}
use lib.Signed.{lt_z}
use Rattle.relation.specs.Comparing.{rel_of}
use Rattle.relation.specs.Meaning.{Event}
use Rattle.relation.specs.Sets.{member}
use Rattle.relation.proofs.Tested.{T_of, of_T, some_no}
use Rattle.relation.proofs.Relations.{rel_of_lt, exactly_one, holds_found}
use Rattle.grid.specs.Cells.{cell}
use Rattle.grid.proofs.AcceptedLaws.{none_passes}
use Rattle.grid.specs.Meets.{Meets}
use Rattle.placing.specs.Placing.{at, Places, MeetsAt}
use Rattle.placing.specs.Checking.{late, some_late}
use Rattle.placing.specs.Settling.{relation_at, missed, row_missed, some_missed}
use Rattle.placing.proofs.CountLaws.{some_same}

-- v gives the ends of a placing
pub record Gives (n : ℕ) (v : ℕ → ℤ) (P : ℕ → Event) : Type 0 where
  pub starts : (i : ℕ) → i < n → (P i).start ≡ v (2 * i)
  pub ends : (i : ℕ) → i < n → (P i).end ≡ v (2 * i + 1)

pub gives_list : (n : ℕ) (xs : List ℤ) (P : ℕ → Event) → Places n xs P → Gives n (at xs) P
gives_list n xs P w = record { starts = w.starts; ends = w.ends }

list_gives : (n : ℕ) (xs : List ℤ) (P : ℕ → Event) → Gives n (at xs) P → Places n xs P
list_gives n xs P w = record { starts = w.starts; ends = w.ends }

-- ---- the event with two given ends; any event where the start is not before the end

event_by : (a b : ℤ) (x : Bool) → lt_z a b ≡ x → Event
event_by a b true e = record { start = a; end = b; lasts = record { lt = T_of e } }
event_by a b false e = record { start = pos 0; end = pos 1; lasts = record { lt = tt } }

event_of : ℤ → ℤ → Event
event_of a b = event_by a b (lt_z a b) refl

event_start : (a b : ℤ) → lt_z a b ≡ true → (event_of a b).start ≡ a
unfolding event_of event_by
event_start a b h = go (lt_z a b) refl h
  where
    go : (x : Bool) (e : lt_z a b ≡ x) → x ≡ true → (event_by a b x e).start ≡ a
    go true e k = refl
    go false e k = absurd (subst T (sym k) tt)

event_end : (a b : ℤ) → lt_z a b ≡ true → (event_of a b).end ≡ b
unfolding event_of event_by
event_end a b h = go (lt_z a b) refl h
  where
    go : (x : Bool) (e : lt_z a b ≡ x) → x ≡ true → (event_by a b x e).end ≡ b
    go true e k = refl
    go false e k = absurd (subst T (sym k) tt)

-- ---- the two tests

module _ (n : ℕ) (v : ℕ → ℤ) where
  -- the relation found is the one that holds
  relation_at-is : (P : ℕ → Event) → Gives n v P → (i j : ℕ) → i < n → j < n → relation_at v i j ≡ rel_of (P i) (P j)
  unfolding rel_of
  relation_at-is P w i j hi hj = cc (w.starts i hi, w.ends i hi, w.starts j hj, w.ends j hj)

  -- no start is late: a placing
  placing-from : ℕ → Event
  placing-from i = event_of (v (2 * i)) (v (2 * i + 1))

  gives_from : some_late n v ≡ false → Gives n v placing-from
  unfolding placing-from
  gives_from e = record {
    starts = λ i h. event_start (v (2 * i)) (v (2 * i + 1)) (on_time i h);
    ends = λ i h. event_end (v (2 * i)) (v (2 * i + 1)) (on_time i h);
  }
    where
      on_time : (i : ℕ) → i < n → lt_z (v (2 * i)) (v (2 * i + 1)) ≡ true
      on_time i h = not-false (lt_z (v (2 * i)) (v (2 * i + 1))) (none_passes n (late v) e i h)

  -- a placing has no late start
  pub never-late : (P : ℕ → Event) → Gives n v P → some_late n v ≡ false
  never-late P w =
      some_no n (late v)
      (λ i h. ap not (of_T (lt_z (v (2 * i)) (v (2 * i + 1))) (subst T (lasts i h) (P i).lasts.lt)))
    where
      lasts : (i : ℕ) → i < n → lt_z (P i).start (P i).end ≡ lt_z (v (2 * i)) (v (2 * i + 1))
      lasts i h = cc (w.starts i h, w.ends i h)

module _ (n : ℕ) (g : List ℕ) (v : ℕ → ℤ) (P : ℕ → Event) (w : Gives n v P) where
  -- no cell is missed: the placing meets every cell
  meets-all : some_missed n g v ≡ false → Meets n g P
  meets-all e =
      record {
        each = λ i j hi hj. (
          rel_of (P i) (P j),
          rel_of_lt (P i) (P j),
          T_of (ap (λ (r : ℕ). member r (cell n g i j)) (sym (relation_at-is n v P w i j hi hj)) ∙ met i j hi hj),
          holds_found (P i) (P j),
        );
      }
    where
      met : (i j : ℕ) → i < n → j < n → member (relation_at v i j) (cell n g i j) ≡ true
      met i j hi hj =
          not-false (member (relation_at v i j) (cell n g i j))
          (none_passes n (missed n g v i) (none_passes n (row_missed n g v) e i hi) j hj)

  -- a placing that meets every cell misses none
  pub never-missed : Meets n g P → some_missed n g v ≡ false
  never-missed m =
      some_no n (row_missed n g v)
      (λ i hi. some_no n (missed n g v i)
      (λ j hj. let r = m.each i j hi hj in
      ap not (ap (λ (r : ℕ). member r (cell n g i j)) (relation_at-is n v P w i j hi hj ∙ (exactly_one r.0 (P i) (P j)).0 r.3) ∙ of_T (member r.0 (cell n g i j)) r.2)))

-- ---- numbers that compare alike

-- v and w compare alike at the ends of n events
abbrev pub Alike : ℕ → (ℕ → ℤ) → (ℕ → ℤ) → Type 0
Alike n v w = (p q : ℕ) → p < 2 * n → q < 2 * n → lt_z (v p) (v q) ≡ lt_z (w p) (w q)

pub alike_equal : (n : ℕ) (v w : ℕ → ℤ) → ((p : ℕ) → p < 2 * n → v p ≡ w p) → Alike n v w
alike_equal n v w e p q hp hq = ap₂ (λ (x y : ℤ). lt_z x y) (e p hp) (e q hq)

module _ (n : ℕ) (v w : ℕ → ℤ) (alike : Alike n v w) where
  pub late_alike : some_late n v ≡ some_late n w
  late_alike =
      some_same n (late v) (late w)
      (λ i h. ap not (alike (2 * i) (2 * i + 1) (omega arith) (omega arith)))

  relation_at_alike : (i j : ℕ) → i < n → j < n → relation_at v i j ≡ relation_at w i j
  relation_at_alike i j hi hj =
      let a : 2 * i < 2 * n = omega arith in
      let b : 2 * i + 1 < 2 * n = omega arith in
      let c : 2 * j < 2 * n = omega arith in
      let d : 2 * j + 1 < 2 * n = omega arith in
      cc (
        alike (2 * i + 1) (2 * j) b c,
        alike (2 * j) (2 * i + 1) c b,
        alike (2 * j + 1) (2 * i) d a,
        alike (2 * i) (2 * j + 1) a d,
        alike (2 * i) (2 * j) a c,
        alike (2 * j) (2 * i) c a,
        alike (2 * i + 1) (2 * j + 1) b d,
        alike (2 * j + 1) (2 * i + 1) d b,
      )

  pub missed_alike : (g : List ℕ) → some_missed n g v ≡ some_missed n g w
  missed_alike g =
      some_same n (row_missed n g v) (row_missed n g w)
      (λ i hi. some_same n (missed n g v i) (missed n g w i)
      (λ j hj. ap (λ (r : ℕ). not (member r (cell n g i j))) (relation_at_alike i j hi hj)))

-- ---- of a list

pub list_meets : (n : ℕ) (g : List ℕ) (xs : List ℤ) → some_late n (at xs) ≡ false → some_missed n g (at xs) ≡ false → MeetsAt n g xs
list_meets n g xs l e =
    let w = gives_from n (at xs) l in
    record {
      placing = placing-from n (at xs);
      places = list_gives n xs (placing-from n (at xs)) w;
      meets = meets-all n g (at xs) (placing-from n (at xs)) w e;
    }

pub list_misses : (n : ℕ) (g : List ℕ) (xs : List ℤ) → some_missed n g (at xs) ≡ true → MeetsAt n g xs → ⊥
list_misses n g xs e m =
    subst T (sym e ∙ never-missed n g (at xs) m.placing (gives_list n xs m.placing m.places) m.meets) tt
