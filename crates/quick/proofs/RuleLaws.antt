-- The rule of quick closing on an accepted grid: what it leaves is the largest closed grid inside, and its takes are bounded.
use mathlib.Core.Path.{◌≡◌, refl, sym, ap, ◌∙◌, subst}
use mathlib.Core.Bool.{Bool, true, false}
use mathlib.Core.List.{List}
use Prim.Native.Nat.{ℕ, zero, suc, zero-le, ◌+◌, ◌*◌, ◌≤◌, ◌<◌}
use native.Mathlib.Decide.{ℕ_discrete}
use native.Mathlib.Nat.{le-mul_of_pos_right, zero-lt-suc}
use native.Mathlib.Omega.{arith}
use lib.Count.{ones}
use lib.ListN.{length, replicate, length-replicate}
use Rattle.grid.specs.Cells.{cell, some_empty}
use Rattle.grid.specs.Accepted.{Accepted}
use Rattle.grid.proofs.CellLaws.{cell_cleared, cleared_empty}
use Rattle.theory.specs.Allen.{allen}
use Rattle.theory.specs.Line.{all_pairs}
use Rattle.theory.specs.Quick.{Ended, contradiction, closed, paused, run}
use Rattle.theory.proofs.ClosingLaws.{closing_same}
use Rattle.theory.proofs.KeepLaws.{Good}
use Rattle.theory.proofs.QuickLaws.{takes_of, run_none, run-within}
use Rattle.theory.proofs.StartLaws.{pairs-none}
use Rattle.theory.proofs.SettledLaws.{Right, LeavesGood, run_good}
use Rattle.theory.proofs.TakeLaws.{Bounded, LeavesLong, run_long}
use Rattle.theory.proofs.GivenLaws.{fine, fair, hole}
use Rattle.theory.proofs.QuickRight.{start, empty_right, quick_right, takes_most, takes_bound, takes_most_is, takes_always}
use Rattle.theory.proofs.AllenLaws.{lawful, eq_lawful, sized}
use Rattle.quick.specs.Answers.{quick_rule, cells_by, ClosedInside, EmptyInside}

-- n is at most its square
square_most : (n : ℕ) → n ≤ n * n
square_most zero = zero-le
square_most (suc n) = le-mul_of_pos_right (suc n) (zero-lt-suc n)

-- takes that are few: never more than 13 n (n - 1) / 2, nor than the limit, nor than 6,448
pub record TakesFew (n limit t : ℕ) : Type 0 where
  pub most : 2 * t + 13 * n ≤ 13 * (n * n)
  pub within : t ≤ limit
  pub always : t ≤ 6448

module _ (n limit : ℕ) (g : List ℕ) where
  pub rule_empty : some_empty g ≡ true → quick_rule n limit g ≡ contradiction 0
  unfolding quick_rule
  rule_empty e = rw e

  pub rule_run : some_empty g ≡ false → quick_rule n limit g ≡ run allen n limit 0 g (all_pairs n)
  unfolding quick_rule
  rule_run e = rw e

  -- never more takes than the limit
  pub rule_within : takes_of (quick_rule n limit g) ≤ limit
  rule_within = go (some_empty g) refl
    where
      go : (b : Bool) → some_empty g ≡ b → takes_of (quick_rule n limit g) ≤ limit
      go true e = rw (rule_empty e) zero-le
      go false e = rw (rule_run e) (omega (arith, run-within allen n limit 0 g (all_pairs n)))

module _ (n : ℕ) (g : List ℕ) (a : Accepted n g) where
  module _ (limit : ℕ) where
    -- closed: the largest closed grid inside; contradiction: that grid is empty throughout
    pub rule_right : Right allen n g (quick_rule n limit g)
    rule_right = go (some_empty g) refl
      where
        go : (b : Bool) → some_empty g ≡ b → Right allen n g (quick_rule n limit g)
        go true e =
            let h = hole n g a e in
            subst (Right allen n g) (sym (rule_empty n limit g e))
            (empty_right allen lawful n g (fine n g a) h.0 h.1 h.2 h.3 h.4)
        go false e =
            subst (Right allen n g) (sym (rule_run n limit g e)) (quick_right allen lawful n g (fair n g a e) eq_lawful limit)

    -- what a run leaves has no empty cell, and is what cuts can reach
    pub rule_good : (t : ℕ) (h : List ℕ) → quick_rule n limit g ≡ closed t h → Good allen n g h
    rule_good t h q = go (some_empty g) refl
      where
        go : (b : Bool) → some_empty g ≡ b → Good allen n g h
        go true e = absurd (let z = sym (rule_empty n limit g e) ∙ q in let y : ◌≡◌ {A = ℕ} 0 1 = cc in omega arith)
        go false e =
            subst (LeavesGood allen n g) (sym (rule_run n limit g e) ∙ q)
            (run_good allen lawful n a.few g limit 0 g (all_pairs n) (start allen lawful n g (fair n g a e)))

    -- there is an event where the closing is empty
    pub rule_event : (t : ℕ) → quick_rule n limit g ≡ contradiction t → 0 < n
    rule_event t q = go (some_empty g) refl
      where
        by : run allen n limit 0 g (all_pairs n) ≡ contradiction t → Dec (n ≡ 0) → 0 < n
        by z (no ne) = omega arith
        by z (yes e) =
            let w = sym (ap (run allen n limit 0 g) (pairs-none n e) ∙ run_none allen n limit 0 g) ∙ z in
            absurd (let y : ◌≡◌ {A = ℕ} 0 1 = cc in omega arith)

        go : (b : Bool) → some_empty g ≡ b → 0 < n
        go true e = let h = hole n g a e in omega (arith, h.2)
        go false e = by (sym (rule_run n limit g e) ∙ q) (ℕ_discrete n 0)

    -- what the two ends mean for the given grid
    pub rule_closed : (t : ℕ) (h : List ℕ) → quick_rule n limit g ≡ closed t h → ClosedInside n g h
    rule_closed t h q =
        record { largest = subst (Right allen n g) q rule_right; full = λ w. (rule_good t h q).full w.0 w.1 w.2 w.3 w.4 }

    pub rule_contradiction : (t : ℕ) → quick_rule n limit g ≡ contradiction t → EmptyInside n g (replicate (n * n) 0)
    rule_contradiction t q =
        record {
          largest =
              closing_same allen lawful n (cell n g) (λ i j. 0) (cell n (replicate (n * n) 0)) (λ i j hi hj. sym (cell_cleared n (n * n) i j))
              (subst (Right allen n g) q rule_right);
          empty = cleared_empty n (rule_event t q);
          zeros = refl;
        }

    -- the takes are at most 13 n (n - 1) / 2, and the run pauses only below that many
    pub rule_bound : (b : ℕ) × (2 * b + 13 * n ≤ 13 * (n * n)) × (b ≤ 6448) × Bounded limit b (quick_rule n limit g)
    rule_bound = go (some_empty g) refl
      where
        go : (x : Bool) → some_empty g ≡ x → (b : ℕ) × (2 * b + 13 * n ≤ 13 * (n * n)) × (b ≤ 6448) × Bounded limit b (quick_rule n limit g)
        go true e = (
          0,
          omega (arith, square_most n),
          omega arith,
          subst (Bounded limit 0) (sym (rule_empty n limit g e)) (omega arith),
        )
        go false e =
            let F = fair n g a e in (
              takes_most allen lawful n g F ones sized,
              takes_most_is allen lawful n g F ones sized,
              takes_always allen lawful n g F ones sized,
              subst (Bounded limit (takes_most allen lawful n g F ones sized)) (sym (rule_run n limit g e))
                  (takes_bound allen lawful n g F ones sized limit),
            )

    pub rule_few : TakesFew n limit (takes_of (quick_rule n limit g))
    rule_few =
        let b = rule_bound in
        let w : takes_of (quick_rule n limit g) ≤ b.0 = below b.0 (quick_rule n limit g) b.3 in
        record { most = omega (arith, b.1); within = rule_within n limit g; always = omega (arith, b.2) }
      where
        below : (b : ℕ) (e : Ended) → Bounded limit b e → takes_of e ≤ b
        below b (contradiction t) w = w
        below b (closed t h) w = w
        below b (paused t h) w = omega (arith, w.0, w.1)

    pub rule_paused : (t : ℕ) (h : List ℕ) → quick_rule n limit g ≡ paused t h → (t ≡ limit) × (limit < 6448)
    rule_paused t h q =
        let b = rule_bound in
        let w : Bounded limit b.0 (paused t h) = subst (Bounded limit b.0) q b.3 in
        (w.0, omega (arith, b.2, w.1))

    -- the cells are as many as before
    pub rule_long : length (cells_by n (quick_rule n limit g)) ≡ n * n
    rule_long = go (some_empty g) refl
      where
        ends : (e : Ended) → LeavesLong (length g) e → length (cells_by n e) ≡ n * n
        ends (contradiction t) w = length-replicate {A = ℕ} (n * n) 0
        ends (closed t h) w = w ∙ a.long
        ends (paused t h) w = w ∙ a.long

        go : (b : Bool) → some_empty g ≡ b → length (cells_by n (quick_rule n limit g)) ≡ n * n
        go true e = subst (λ (x : Ended). length (cells_by n x) ≡ n * n) (sym (rule_empty n limit g e)) (length-replicate {A = ℕ} (n * n) 0)
        go false e =
            subst (λ (x : Ended). length (cells_by n x) ≡ n * n) (sym (rule_run n limit g e))
            (ends (run allen n limit 0 g (all_pairs n))
            (run_long allen lawful n a.few g (length g) limit 0 g (all_pairs n) (start allen lawful n g (fair n g a e)) refl))
