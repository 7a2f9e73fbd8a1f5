-- From the code's answer to the step that it shows.
use mathlib.Core.Path.{◌≡◌, refl, ◌∙◌, sym, ap, subst}
use mathlib.Core.Bool.{true, false}
use mathlib.Core.List.{List, ◌∷◌}
use Prim.Native.Nat.{ℕ, ◌+◌, ◌*◌, ◌/◌, ◌%◌, ◌≤◌, ◌<◌}
use Rattle.std.specs.Prelude.{bit_and}
use native.Mathlib.Omega.{arith}
use Rattle.std.specs.Prelude.{Option, None, Some, Result, Ok, Err, is_err, IfOk}
use native.Mathlib.Decide.{ℕ_discrete}
use borrow.Author.Tests.{eq-eqb, ne_eqb}
use Rattle.relation.specs.Composition.{converse, compose}
use Rattle.grid.specs.Cells.{cell, put_both}
use Rattle.theory.specs.Fair.{Fair}
use Rattle.theory.specs.Allen.{allen}
use Rattle.theory.specs.Line.{joins, pair_of}
use Rattle.theory.specs.Quick.{Out, dead, going, cut_to, shrunk, cut, turns, paused}
use Rattle.theory.specs.Cuts.{from_of, to_of, cut_at}
use Rattle.theory.proofs.QuickLaws.{shrunk-dead, shrunk_written}
use Rattle.theory.proofs.StepLaws.{turn-still, left-all, left-still, rest, rest-paused}
use Rattle.theory.proofs.CutsLaws.{first-from, first_via, first_to, second_from, second_via, second-to, cut_skip_i, cut_made, cut-at-still, cuts-going, turned_cut, turned_still, turned_less}
use Rattle.theory.proofs.AllenLaws.{lawful, left_is, past_first, past_second}
use Rattle.theory.proofs.FairLaws.{fair_good}
use Rattle.theory.proofs.KeepLaws.{Good}
use Rattle.takes.specs.Steps.{stepped, Sees, Quiet, Changes, Passes, Finds}
use Rattle.grid.specs.declared.Emptied.{Emptied}
use Rattle.takes.specs.declared.Found.{Found}
use Rattle.takes.specs.declared.Take.{Take}

-- the two cuts at k, from the two cells in its row and their compositions
module _ (n : ℕ) (g : List ℕ) (F : Fair allen n g) (t : Take) (S : Sees n g t) (k : ℕ) (hk : k < n) (ki kj x : ℕ) (ei : ki ≡ cell n g k t.i) (ej : kj ≡ cell n g k t.j) where
  abbrev i : ℕ
  i = t.i

  abbrev j : ℕ
  j = t.j

  same_place : k * 2 / 2 ≡ k
  same_place = omega arith

  abbrev G : Good allen n g g
  G = fair_good allen lawful n g F

  module _ (by : x ≡ compose kj t.back.set) where
    left_first : bit_and ki x ≡ cut_to allen (cell n g) k j i
    left_first = left_is n k j i g ki kj t.back.set x ei ej S.back by

    pub first_quiet : bit_and ki x ≡ ki → Quiet n i j g (k * 2)
    first_quiet e q = go (ℕ_discrete k i)
      where
        go : Dec (k ≡ i) → cut_at allen n i j (k * 2) g q ≡ going g q
        go (yes u) = cut_skip_i allen n i j (k * 2) g q (same_place ∙ u)
        go (no u) =
            cut-at-still allen n i j (k * 2) g q
            (rw (first-from i j k, first_via i j k, first_to i j k) (turned_still allen lawful n i j k S.from S.to hk g g G u (sym left_first ∙ e ∙ ei)))

    pub first-changes : (bit_and ki x ≡ ki → ⊥) → (s : ℕ) → s ≡ converse (bit_and ki x) → Changes n i j g (k * 2) s
    first-changes ne s r =
        let turned = λ (u : k * 2 / 2 ≡ i → ⊥). r ∙ ap converse left_first ∙ turned_cut allen lawful n i j k S.from S.to hk g g G (λ z. u (same_place ∙ z)) in
        record {
          left = λ u. rw (first-from i j k, first_via i j k, first_to i j k) (turned u);
          less = λ u. rw (first-from i j k, first_to i j k) (λ z. turned_less allen lawful n i j k S.from S.to hk g g G (λ m. u (same_place ∙ m)) (λ m. ne (left_first ∙ m ∙ sym ei)) (sym (turned u) ∙ z));
        }

  module _ (by : x ≡ compose ki t.there.set) where
    left_second : bit_and kj x ≡ cut_to allen (cell n g) k i j
    left_second = left_is n k i j g kj ki t.there.set x ej ei S.there by

    pub second_quiet : bit_and kj x ≡ kj → Quiet n i j g (k * 2 + 1)
    second_quiet e q =
        cut-at-still allen n i j (k * 2 + 1) g q (rw (second_from i j k, second_via i j k, second-to i j k) (sym left_second ∙ e ∙ ej))

    pub second-changes : (bit_and kj x ≡ kj → ⊥) → Changes n i j g (k * 2 + 1) (bit_and kj x)
    second-changes ne =
        record {
          left = λ u. rw (second_from i j k, second_via i j k, second-to i j k) left_second;
          less = λ u. rw (second_from i j k, second-to i j k) (λ e. ne (e ∙ sym ej));
        }

-- the cuts that change nothing, at first none and then one more
module _ (n i j : ℕ) (g : List ℕ) (c : ℕ) where
  pub passes_none : c ≤ n * 2 → Passes n i j g c c
  passes_none h = record { from = omega arith; within = h; same = λ q. refl }

  pub passes-more : (r : ℕ) → r < n * 2 → Passes n i j g c r → Quiet n i j g r → Passes n i j g c (r + 1)
  passes-more r h p s = record { from = omega (arith, p.from); within = omega arith; same = λ q. p.same q ∙ cuts-going allen n i j r g q h g q (s q) }

-- a pair of which nothing is said: its take changes nothing
module _ (n i j : ℕ) (g : List ℕ) (F : Fair allen n g) (hi : i < n) (hj : j < n) (all : cell n g i j ≡ 8191) where
  pub all_quiet : (q : List ℕ) → turns allen n i j n 0 g q ≡ going g q
  all_quiet q =
      sym (left-all allen n i j g q)
      ∙ left-still allen n i j g q
      (λ k hk. turn-still allen n i j k g q (past_first n g F i j k hi hj hk all) (past_second n g F k i j hk hi hj all)) n 0 (omega arith)

-- from c on, which is the second cut at c / 2 where c is odd
module _ (n i j : ℕ) (g : List ℕ) (c : ℕ) (r : Option Found) (f : Finds n i j g ((c / 2 + c % 2) * 2) r) where
  pub even_finds : (c % 2 ≡ 1 → ⊥) → Finds n i j g c r
  even_finds h = let e : (c / 2 + c % 2) * 2 ≡ c = omega (arith, h) in subst (λ (d : ℕ). Finds n i j g d r) e f

  pub odd_finds : c % 2 ≡ 1 → c < n * 2 → Quiet n i j g (c / 2 * 2 + 1) → Finds n i j g c r
  odd_finds h l s =
      let e : (c / 2 + c % 2) * 2 ≡ c + 1 = omega arith in
      let b : c / 2 * 2 + 1 ≡ c = omega arith in
      go r (subst (λ (d : ℕ). Finds n i j g d r) e f) (passes-more n i j g c c l (passes_none n i j g c (omega arith)) (subst (Quiet n i j g) b s))
    where
      on : (k : ℕ) → Passes n i j g c (c + 1) → Passes n i j g (c + 1) k → Passes n i j g c k
      on k one p = record { from = omega (arith, p.from); within = p.within; same = λ q. one.same q ∙ p.same q }

      go : (o : Option Found) → Finds n i j g (c + 1) o → Passes n i j g c (c + 1) → Finds n i j g c o
      go None p one = on (n * 2) one p
      go (Some w) p one = record { passes = on w.at one p.passes; before = p.before; changes = p.changes }

-- cut c, made: its two events, and what it comes to
module _ (n i j c : ℕ) (ni : c / 2 ≡ i → ⊥) (nj : c / 2 ≡ j → ⊥) where
  pub cut-events : i < n → j < n → c < n * 2 → (from_of i c < n) × (to_of j c < n) × (from_of i c ≡ to_of j c → ⊥)
  cut-events hi hj hc = go (ℕ_discrete (c % 2) 0)
    where
      go : Dec (c % 2 ≡ 0) → (from_of i c < n) × (to_of j c < n) × (from_of i c ≡ to_of j c → ⊥)
      go (yes e) = rw (eq-eqb (c % 2) 0 e) (hi, omega arith, λ x. ni (sym x))
      go (no e) = rw (ne_eqb (c % 2) 0 e) (omega arith, hj, nj)

  module _ (g q : List ℕ) (set : ℕ) (k : Changes n i j g c set) where
    cut-to-set : cut_at allen n i j c g q ≡ shrunk allen n (from_of i c) (to_of j c) (cell n g (from_of i c) (to_of j c)) set g q
    unfolding cut
    cut-to-set = cut_made allen n i j c g q ni nj ∙ ap (λ (v : ℕ). shrunk allen n (from_of i c) (to_of j c) (cell n g (from_of i c) (to_of j c)) v g q) (sym (k.left ni))

    pub made_dead : set ≡ 0 → cut_at allen n i j c g q ≡ dead
    made_dead z = cut-to-set ∙ shrunk-dead allen n (from_of i c) (to_of j c) _ set g q (k.less ni) z

    pub made_written : (set ≡ 0 → ⊥) → cut_at allen n i j c g q ≡ going (put_both converse n g (from_of i c) (to_of j c) set) (joins (pair_of (from_of i c) (to_of j c)) q)
    made_written nz = cut-to-set ∙ shrunk_written allen n (from_of i c) (to_of j c) _ set g q (k.less ni) nz

-- what a step showed that found an empty cell, and one that did not
module _ (r : Result (Unit {0}) Emptied) where
  pub is-dead : (o : Out) (g q : List ℕ) → stepped r g q ≡ o → is_err r ≡ true → o ≡ dead
  is-dead o g q s e = go r s e
    where
      go : (x : Result (Unit {0}) Emptied) → stepped x g q ≡ o → is_err x ≡ true → o ≡ dead
      go (Ok u) s e = cc
      go (Err u) s e = sym s

  pub is-going : (o : Out) (g q : List ℕ) → stepped r g q ≡ o → is_err r ≡ false → o ≡ going g q
  is-going o g q s e = go r s e
    where
      go : (x : Result (Unit {0}) Emptied) → stepped x g q ≡ o → is_err x ≡ false → o ≡ going g q
      go (Ok u) s e = sym s
      go (Err u) s e = cc

  pub going-has : (P : Type 0) → IfOk r (λ _. P) → is_err r ≡ false → P
  going-has P h e = go r h e
    where
      go : (x : Result (Unit {0}) Emptied) → IfOk x (λ _. P) → is_err x ≡ false → P
      go (Ok u) h e = h
      go (Err u) h e = cc

-- a run at its limit
pub stopped : (n limit t : ℕ) (g list q : List ℕ) (p : ℕ) → list ≡ p ∷ q → t ≡ limit → rest allen n limit t g list ≡ paused t g
stopped n limit t g list q p e f = rw (e, f) (rest-paused allen n limit g p q)
