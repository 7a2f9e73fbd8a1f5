-- The meaning of "placed" determines the room: two lists of numbers that are the first placing of one grid are equal.
use mathlib.Core.Path.{◌≡◌, refl, sym, ap, ◌∙◌, subst}
use mathlib.Core.List.{List}
use Prim.Native.Nat.{ℕ, ◌+◌, ◌*◌, ◌/◌, ◌%◌, ◌^◌, ◌<◌}
use native.Mathlib.Decide.{dec_lt}
use native.Mathlib.Omega.{arith}
use lib.Arith.{digits_lt, digits_div, digits_mod}
use lib.Dec.{T}
use lib.IntN.{ℤ}
use Rattle.relation.specs.Comparing.{rel_of}
use Rattle.relation.specs.Meaning.{Event, exchanged}
use Rattle.relation.specs.Sets.{member}
use Rattle.relation.specs.Composition.{converse}
use Rattle.relation.proofs.Rank.{In as Among, here, there}
use Rattle.relation.proofs.Relations.{rel_of_lt, rel_of_self, holds_found}
use Rattle.relation.proofs.ExchangeLaws.{rel_of-back, converse-mark}
use Rattle.grid.specs.Cells.{up_to, cell}
use Rattle.grid.proofs.CellLaws.{up_to-at}
use Rattle.theory.specs.Search.{Pair, pairs_from, All}
use Rattle.theory.proofs.FirstLaws.{no_later_both}
use Rattle.theory.proofs.PlacedLaws.{member_self, uses_meets}
use Rattle.placing.specs.Placing.{MeetsAt}
use Rattle.placing.proofs.SettleLaws.{Decided, gapless_unique}
use Rattle.search.specs.Answers.{FirstPlacing}
use Rattle.search.proofs.SearchRight.{pairs_have}

-- what holds of all pairs holds of one among them
all_among : (P : Pair → Type 0) {q : Pair} {ps : List Pair} → Among q ps → All P ps → P q
all_among P here w = w.0
all_among P (there a) w = all_among P a w.1

-- ---- the grid of a placing's scenario

module _ (n : ℕ) (P : ℕ → Event) where
  scenario_grid : List ℕ
  scenario_grid = up_to (n * n) (λ p. 2 ^ rel_of (P (p / n)) (P (p % n)))

  grid-at : (i j : ℕ) → i < n → j < n → cell n scenario_grid i j ≡ 2 ^ rel_of (P i) (P j)
  unfolding scenario_grid cell
  grid-at i j hi hj = up_to-at (n * n) (λ p. 2 ^ rel_of (P (p / n)) (P (p % n))) (i * n + j) (digits_lt hi hj) ∙ rw (digits_div i hj, digits_mod i hj)

  is_decided : Decided n scenario_grid
  is_decided =
      record {
        single = λ i j hi hj. (rel_of (P i) (P j), rel_of_lt (P i) (P j), grid-at i j hi hj);
        diagonal = λ i hi. grid-at i i hi hi ∙ ap (λ (r : ℕ). 2 ^ r) (rel_of_self (P i));
        mirrored = λ i j hi hj.
            grid-at j i hj hi ∙ ap (λ (r : ℕ). 2 ^ r) (rel_of-back (P i) (P j)) ∙ sym (converse-mark (rel_of (P i) (P j)) (rel_of_lt (P i) (P j)))
            ∙ sym (ap converse (grid-at i j hi hj));
      }

  -- a placing with the same relations meets it
  alike_meets : (xs : List ℤ) (g : List ℕ) (M : MeetsAt n g xs) → ((i j : ℕ) → i < n → j < n → rel_of (M.placing i) (M.placing j) ≡ rel_of (P i) (P j)) → MeetsAt n scenario_grid xs
  alike_meets xs g M same =
      record {
        placing = M.placing;
        places = M.places;
        meets =
            uses_meets n scenario_grid M.placing
            (λ i j hi hj.
            subst (λ (a : ℕ). T (member (rel_of (M.placing i) (M.placing j)) a)) (sym (grid-at i j hi hj ∙ ap (λ (r : ℕ). 2 ^ r) (sym (same i j hi hj))))
            (member_self (rel_of (M.placing i) (M.placing j)) (rel_of_lt (M.placing i) (M.placing j))));
      }

-- ---- the same relations above the diagonal are the same everywhere

module _ (n : ℕ) (P Q : ℕ → Event) (above : (i j : ℕ) → i < j → j < n → rel_of (P i) (P j) ≡ rel_of (Q i) (Q j)) where
  same-relations : (i j : ℕ) → i < n → j < n → rel_of (P i) (P j) ≡ rel_of (Q i) (Q j)
  same-relations i j hi hj = go (dec_lt i j) (dec_lt j i)
    where
      go : Dec (i < j) → Dec (j < i) → rel_of (P i) (P j) ≡ rel_of (Q i) (Q j)
      go (yes l) d = above i j l hj
      go (no l) (yes m) = rel_of-back (P j) (P i) ∙ ap exchanged (above j i m hi) ∙ sym (rel_of-back (Q j) (Q i))
      go (no l) (no m) = let e : j ≡ i = omega arith in rw e (rel_of_self (P i) ∙ sym (rel_of_self (Q i)))

pub first_unique : (n : ℕ) (g : List ℕ) (xs ys : List ℤ) → FirstPlacing n g xs → FirstPlacing n g ys → xs ≡ ys
first_unique n g xs ys F G =
    let P = F.meets.placing in
    let Q = G.meets.placing in
    let σ : Pair → ℕ = λ p. rel_of (P p.0) (P p.1) in
    let τ : Pair → ℕ = λ p. rel_of (Q p.0) (Q p.1) in
    let same =
    no_later_both (pairs_from n 0 1) σ τ
    (F.first P Q σ τ F.meets.places (λ p. holds_found (P p.0) (P p.1)) G.meets.meets (λ p. holds_found (Q p.0) (Q p.1)))
    (G.first Q P τ σ G.meets.places (λ p. holds_found (Q p.0) (Q p.1)) F.meets.meets (λ p. holds_found (P p.0) (P p.1))) in
    gapless_unique n (scenario_grid n P) (is_decided n P) xs ys F.long G.long F.no_gaps G.no_gaps
    (alike_meets n P xs g F.meets (λ i j hi hj. refl))
    (alike_meets n P ys g G.meets (same-relations n Q P (λ i j l h. sym (all_among (λ (p : Pair). σ p ≡ τ p) (pairs_have n i j l h) same))))
