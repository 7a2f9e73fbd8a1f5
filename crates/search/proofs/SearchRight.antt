-- What the answers of the search mean for the given grid.
use mathlib.Core.Path.{◌≡◌, refl, sym, subst, ◌∙◌}
use mathlib.Core.Bool.{Bool, true, false}
use mathlib.Core.Logic.{inl}
use mathlib.Core.List.{List, [], ◌∷◌, ◌++◌}
use Prim.Native.Nat.{ℕ, zero, suc, ◌+◌, ◌-◌, ◌*◌, ◌≤◌, ◌<◌}
use native.Mathlib.Decide.{ℕ_discrete}
use native.Mathlib.Omega.{arith}
use lib.Dec.{T}
use lib.IntN.{ℤ}
use Rattle.relation.specs.Comparing.{rel_of}
use Rattle.relation.specs.Meaning.{Event}
use Rattle.relation.specs.Sets.{member}
use Rattle.relation.proofs.Rank.{In as Among, here, there}
use Rattle.relation.proofs.Relations.{exactly_one}
use Rattle.refusal.specs.Answered.{answers, said_of}
use Rattle.grid.specs.Cells.{cell, some_empty}
use Rattle.grid.specs.Accepted.{Accepted}
use Rattle.grid.specs.Meets.{Meets}
use Rattle.theory.specs.Allen.{allen}
use Rattle.theory.specs.Closing.{Closing}
use Rattle.theory.specs.Line.{all_pairs}
use Rattle.theory.specs.Quick as quick
use Rattle.theory.specs.Search.{Pair, Tried, emptied, closed, closes_to, Found, placed, none, gave_up, row, rows, pairs_from, search_from, All}
use Rattle.theory.specs.Tried.{enough, tried_by}
use Rattle.theory.proofs.AllenLaws.{lawful, of_sets, eq_lawful}
use Rattle.theory.proofs.LargestLaws.{closes_emptied}
use Rattle.theory.proofs.FirstLaws.{no_later_alike}
use Rattle.theory.proofs.GivenLaws.{fine, fair, hole}
use Rattle.theory.proofs.FairLaws.{good_fair}
use Rattle.theory.proofs.QuickRight.{start, empty_right, quick_right}
use Rattle.theory.proofs.SettledLaws.{Right, LeavesGood, run_good}
use Rattle.theory.proofs.TakeLaws.{LeavesLong, run_long}
use Rattle.theory.proofs.PlacedLaws.{Uses, meets_uses, uses_meets, uses_more, closing_uses, closes_some}
use Rattle.theory.proofs.SearchLaws as search
use Rattle.placing.specs.Placing.{Places}
use Rattle.placing.specs.Settling.{settles, placing_of}
use Rattle.placing.proofs.SettleLaws.{settled-meets, placing-length, placing_gapless}
use Rattle.search.specs.Rule.{there_at, try_at, search_at, search_of, from_closed}
use Rattle.search.specs.Answers.{said_by, room_by, ScenarioOf, FirstPlacing, Meant}
use Rattle.search.specs.declared.Looked.{Looked}
use Rattle.refusal.specs.declared.Refusal.{Refusal}
use Rattle.std.proofs.Common.{Result, Ok, Err}
use Rattle.quick.proofs.PairLaws.{closes_by_takes}
use Rattle.search.proofs.TryRight.{Upper, Whole, Ready, searchable}

-- ---- the cells in order are all cells above the diagonal

among_left : {q : Pair} {ps : List Pair} (qs : List Pair) → Among q ps → Among q (ps ++ qs)
among_left qs here = here
among_left qs (there w) = there (among_left qs w)

among_right : {q : Pair} (ps : List Pair) {qs : List Pair} → Among q qs → Among q (ps ++ qs)
among_right [] w = w
among_right (p ∷ ps) w = there (among_right ps w)

row_has : (i j k c : ℕ) → j ≤ c → c < j + k → Among (i, c) (row i j k)
unfolding row
row_has i j zero c lo hi = absurd (omega arith)
row_has i j (suc k) c lo hi = go (ℕ_discrete c j) (row_has i (j + 1) k c)
  where
    go : Dec (c ≡ j) → (j + 1 ≤ c → c < j + 1 + k → Among (i, c) (row i (j + 1) k)) → Among (i, c) ((i, j) ∷ row i (j + 1) k)
    go (yes e) f = subst (λ (x : ℕ). Among (i, c) ((i, x) ∷ row i (j + 1) k)) e here
    go (no ne) f = there (f (omega arith) (omega arith))

rows-has : (i k a c : ℕ) → i ≤ a → a < c → c ≤ i + k → Among (a, c) (rows i k)
unfolding rows
rows-has i zero a c lo l hi = absurd (omega arith)
rows-has i (suc k) a c lo l hi = go (ℕ_discrete a i) (rows-has (i + 1) k a c)
  where
    go : Dec (a ≡ i) → (i + 1 ≤ a → a < c → c ≤ i + 1 + k → Among (a, c) (rows (i + 1) k)) → Among (a, c) (row i (i + 1) (suc k) ++ rows (i + 1) k)
    go (yes e) f =
        among_left (rows (i + 1) k) (subst (λ (x : ℕ). Among (x, c) (row i (i + 1) (suc k))) (sym e) (row_has i (i + 1) (suc k) c (omega arith) (omega arith)))
    go (no ne) f = among_right (row i (i + 1) (suc k)) (f (omega arith) l (omega arith))

pub pairs_have : (n a c : ℕ) → a < c → c < n → Among (a, c) (pairs_from n 0 1)
unfolding pairs_from
pairs_have n a c l h = go (ℕ_discrete a 0)
  where
    go : Dec (a ≡ 0) → Among (a, c) (row 0 1 (n - 1) ++ rows 1 (n - 2))
    go (yes e) =
        among_left (rows 1 (n - 2)) (subst (λ (x : ℕ). Among (x, c) (row 0 1 (n - 1))) (sym e) (row_has 0 1 (n - 1) c (omega arith) (omega arith)))
    go (no ne) = among_right (row 0 1 (n - 1)) (rows-has 1 (n - 2) a c (omega arith) l (omega arith))

all_append : (P : Pair → Type 0) (ps qs : List Pair) → All P ps → All P qs → All P (ps ++ qs)
all_append P [] qs x y = y
all_append P (p ∷ ps) qs x y = (x.0, all_append P ps qs x.1 y)

row-upper : (n i j k : ℕ) → i < j → j + k ≤ n → All (Upper n) (row i j k)
unfolding row
row-upper n i j zero h l = tt
row-upper n i j (suc k) h l = ((h, omega arith), row-upper n i (j + 1) k (omega arith) (omega arith))

rows-upper : (n i k : ℕ) → i + k < n → All (Upper n) (rows i k)
unfolding rows
rows-upper n i zero h = tt
rows-upper n i (suc k) h =
    all_append (Upper n) (row i (i + 1) (suc k)) (rows (i + 1) k) (row-upper n i (i + 1) (suc k) (omega arith) (omega arith)) (rows-upper n (i + 1) k (omega arith))

pairs-upper : (n : ℕ) → All (Upper n) (pairs_from n 0 1)
unfolding pairs_from row rows
pairs-upper zero = tt
pairs-upper (suc zero) = tt
pairs-upper (suc (suc n)) =
    let e : suc (suc n) - 2 ≡ n = omega arith in
    let f : suc (suc n) - 1 ≡ suc n = omega arith in
    rw (e, f)
    (all_append (Upper (suc (suc n))) (row 0 1 (suc n)) (rows 1 n) (row-upper (suc (suc n)) 0 1 (suc n) (omega arith) (omega arith))
    (rows-upper (suc (suc n)) 1 n (omega arith)))

-- ---- placings and their order

-- a placing with the same starts and ends
rel_of_alike : (X Y U W : Event) → X.start ≡ U.start → X.end ≡ U.end → Y.start ≡ W.start → Y.end ≡ W.end → rel_of X Y ≡ rel_of U W
unfolding rel_of
rel_of_alike X Y U W a b c d = cc

record Alike (n : ℕ) (P Q : ℕ → Event) : Type 0 where
  starts : (i : ℕ) → i < n → (P i).start ≡ (Q i).start
  ends : (i : ℕ) → i < n → (P i).end ≡ (Q i).end

same_numbers : (n : ℕ) (xs : List ℤ) (P Q : ℕ → Event) → Places n xs P → Places n xs Q → Alike n P Q
same_numbers n xs P Q p q = record { starts = λ i h. p.starts i h ∙ sym (q.starts i h); ends = λ i h. p.ends i h ∙ sym (q.ends i h) }

uses_alike : (n : ℕ) (g : List ℕ) (P Q : ℕ → Event) → Alike n P Q → Uses n P (cell n g) → Uses n Q (cell n g)
uses_alike n g P Q s u i j hi hj =
    subst (λ (r : ℕ). T (member r (cell n g i j))) (rel_of_alike (P i) (P j) (Q i) (Q j) (s.starts i hi) (s.ends i hi) (s.starts j hj) (s.ends j hj)) (u i j hi hj)

-- the one scenario of a placing
abbrev scenario : (ℕ → Event) → Pair → ℕ
scenario P p = rel_of (P p.0) (P p.1)

pub scenario_is : (P : ℕ → Event) (σ : Pair → ℕ) → ScenarioOf P σ → (p : Pair) → scenario P p ≡ σ p
scenario_is P σ s p = (exactly_one (σ p) (P p.0) (P p.1)).0 (s p)

-- the search from the closed grid, as the rule of the theory
at-is : (n a : ℕ) (h : List ℕ) {o : Found} → search_at n a (pairs_from n 0 1) h 0 ≡ o → search_from (there_at n) (try_at n) (settles n) a (pairs_from n 0 1) h 0 ≡ o
unfolding search_at
at-is n a h q = q

-- ---- the first closing

module _ (n : ℕ) (g : List ℕ) (a : Accepted n g) where
  small : (i j : ℕ) → i < n → j < n → cell n g i j < 8192
  small i j hi hj = omega (arith, a.small i j hi hj)

  -- a cell that is empty at the start: nothing is left
  pub first-emptied : some_empty g ≡ true → closes_to allen n g ≡ emptied
  first-emptied e =
      let h = hole n g a e in
      closes_emptied allen lawful of_sets n g small (omega (arith, h.2)) (empty_right allen lawful n g (fine n g a) h.0 h.1 h.2 h.3 h.4)

  -- otherwise the takes from all pairs close it
  record First (h : List ℕ) : Type 0 where
    closing : Closing allen n (cell n g) (cell n h)
    ready : Ready n (pairs_from n 0 1) h

  first : (h : List ℕ) → closes_to allen n g ≡ closed h → First h
  first h z = go (some_empty g) refl
    where
      left : (e : some_empty g ≡ false) (r : quick.Ended) → quick.run allen n enough 0 g (all_pairs n) ≡ r → tried_by r ≡ closed h → First h
      left e (quick.contradiction t) q w = absurd (let y : ◌≡◌ {A = ℕ} 0 1 = cc in omega arith)
      left e (quick.closed t k) q w =
          let F = fair n g a e in
          let s = start allen lawful n g F in
          let same : k ≡ h = cc in
          let c : Closing allen n (cell n g) (cell n k) = subst (Right allen n g) q (quick_right allen lawful n g F eq_lawful enough) in
          subst First same
          (record {
            closing = c;
            ready =
                record {
                  whole =
                      record {
                        fair = good_fair allen lawful n g k a.few (subst (LeavesGood allen n g) q (run_good allen lawful n a.few g enough 0 g (all_pairs n) s));
                        closed = c.closed;
                        long = subst (LeavesLong (n * n)) q (run_long allen lawful n a.few g (n * n) enough 0 g (all_pairs n) s a.long);
                      };
                  decided = λ p o. inl (pairs_have n p.0 p.1 o.0 o.1);
                };
          })
      left e (quick.paused t k) q w = absurd (let y : ◌≡◌ {A = ℕ} 0 1 = cc in omega arith)

      go : (b : Bool) → some_empty g ≡ b → First h
      go true e = absurd (let z = sym (first-emptied e) ∙ z in let y : ◌≡◌ {A = ℕ} 0 1 = cc in omega arith)
      go false e = left e (quick.run allen n enough 0 g (all_pairs n)) refl (sym (closes_by_takes n g (fair n g a e) a.long) ∙ z)

  pub first-whole : (h : List ℕ) → closes_to allen n g ≡ closed h → Whole n h
  first-whole h z = (first h z).ready.whole

  module _ (allowance : ℕ) where
    -- ---- none

    none-means : (t : ℕ) → search_of n allowance g ≡ none t → (P : ℕ → Event) → Meets n g P → ⊥
    unfolding search_of
    none-means t q P m = go (closes_to allen n g) refl q
      where
        go : (o : Tried) → closes_to allen n g ≡ o → from_closed n allowance o ≡ none t → ⊥
        go emptied k z = closes_some n P g small (meets_uses n g P m) k
        go (closed h) k z =
            let f = first h k in
            search.none_right (there_at n) (try_at n) (settles n) allowance (ℕ → Event) (λ P p. rel_of (P p.0) (P p.1)) (λ P g. Uses n P (cell n g))
            (Upper n) (Ready n) (searchable n) (pairs_from n 0 1) h 0 t (pairs-upper n) f.ready (at-is n allowance h z) P
            (closing_uses n P (cell n g) (cell n h) f.closing (meets_uses n g P m))

    -- ---- placed

    placed-means : (t : ℕ) (k : List ℕ) → search_of n allowance g ≡ placed t k → FirstPlacing n g (placing_of n k)
    unfolding search_of
    placed-means t k q = go (closes_to allen n g) refl q
      where
        go : (o : Tried) → closes_to allen n g ≡ o → from_closed n allowance o ≡ placed t k → FirstPlacing n g (placing_of n k)
        go emptied e z = absurd (let y : ◌≡◌ {A = ℕ} 0 1 = cc in omega arith)
        go (closed h) e z =
            let f = first h e in
            let r =
            search.placed-right (there_at n) (try_at n) (settles n) allowance (ℕ → Event) (λ P p. rel_of (P p.0) (P p.1))
            (λ P g. Uses n P (cell n g)) (Upper n) (Ready n) (searchable n) (pairs_from n 0 1) h k 0 t (pairs-upper n) f.ready (at-is n allowance h z) in
            let m = settled-meets n k r.fitting in
            record {
              long = placing-length n k;
              meets =
                  record {
                    placing = m.placing;
                    places = m.places;
                    meets =
                        uses_meets n g m.placing
                        (uses_more n m.placing (cell n h) (cell n g) f.closing.inside
                        (r.inside m.placing (meets_uses n k m.placing m.meets)));
                  };
              no_gaps = placing_gapless n k;
              first = λ P Q σ τ l s M w.
                  no_later_alike (pairs_from n 0 1) (scenario_is P σ s) (scenario_is Q τ w)
                  (r.first P Q (uses_alike n k m.placing P (same_numbers n (placing_of n k) m.placing P m.places l) (meets_uses n k m.placing m.meets))
                  (closing_uses n Q (cell n g) (cell n h) f.closing (meets_uses n g Q M)));
            }

    -- ---- gave up

    gave_up-means : (t : ℕ) → search_of n allowance g ≡ gave_up t → t ≡ allowance
    unfolding search_of
    gave_up-means t q = go (closes_to allen n g) q
      where
        go : (o : Tried) → from_closed n allowance o ≡ gave_up t → t ≡ allowance
        go emptied z = absurd (let y : ◌≡◌ {A = ℕ} 0 1 = cc in omega arith)
        go (closed h) z = search.gave_up-right (there_at n) (try_at n) (settles n) allowance (pairs_from n 0 1) h 0 t (at-is n allowance h z)

    -- ---- every answer

    outcome-means : (e : Found) → search_of n allowance g ≡ e → (room xs : List ℤ) → xs ≡ room_by n e room → Meant n allowance g xs (Ok (said_by e))
    outcome-means (placed t k) q room xs x = subst (FirstPlacing n g) (sym x) (placed-means t k q)
    outcome-means (none t) q room xs x = none-means t q
    outcome-means (gave_up t) q room xs x = gave_up-means t q

    pub means : (e : Found) → search_of n allowance g ≡ e → (ans : Result Looked Refusal) (room xs : List ℤ) → said_of ans ≡ answers (said_by e) → xs ≡ room_by n e room → Meant n allowance g xs ans
    means e q (Ok l) room xs s x =
        let same : said_by e ≡ l = cc in
        subst (λ (y : Looked). Meant n allowance g xs (Ok y)) same (outcome-means e q room xs x)
    means e q (Err r) room xs s x = tt
