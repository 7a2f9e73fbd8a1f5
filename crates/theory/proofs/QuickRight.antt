-- What quick closing comes to on an accepted grid, whatever the limit.
use mathlib.Core.Path.{◌≡◌}
use mathlib.Core.List.{List}
use Prim.Native.Nat.{ℕ, ◌+◌, ◌*◌, ◌≤◌, ◌<◌}
use native.Mathlib.Omega.{arith}
use native.Mathlib.Nat.{mul-le-mul_right}
use Rattle.grid.specs.Cells.{cell}
use Rattle.theory.specs.Calculus.{Calculus}
use Rattle.theory.specs.Closing.{Closing}
use Rattle.theory.specs.Fair.{Fine, Fair}
use Rattle.theory.specs.Line.{all_pairs}
use Rattle.theory.specs.Quick.{run}
use Rattle.theory.proofs.ClosingLaws.{reached_start, reached_empty}
use Rattle.theory.proofs.FairLaws.{fair_good}
use Rattle.theory.proofs.Lawful.{Lawful, EqLawful}
use Rattle.theory.proofs.SettledLaws.{Resting, Right, run_ok}
use Rattle.theory.proofs.StartLaws.{settled-start, pairs-all}
use Rattle.theory.proofs.TakeLaws.{Sized, Bounded, run_bound, store, store_most}

module _ (A : Calculus) (L : Lawful A) (n : ℕ) (g : List ℕ) where
  pub empty_right : Fine A n g → (i j : ℕ) → i < n → j < n → cell n g i j ≡ 0 → Closing A n (cell n g) (λ a b. 0)
  empty_right F i j hi hj e = reached_empty A L n (cell n g) (cell n g) (reached_start A L n (cell n g) F.mirrored) i j hi hj e

  module _ (F : Fair A n g) where
    pub start : Resting A n g g (all_pairs n)
    start = record { good = fair_good A L n g F; pairs = pairs-all n F.fine.few; settled = settled-start A n F.fine.few g }

    -- closed: the largest closed grid inside; contradiction: that grid is empty throughout
    pub quick_right : EqLawful A → (limit : ℕ) → Right A n g (run A n limit 0 g (all_pairs n))
    quick_right E limit = run_ok A L E n F.fine.few g limit 0 g (all_pairs n) start

    -- never more than 13 n (n - 1) / 2 takes, and paused only below that many
    module _ (size : ℕ → ℕ) (S : Sized A size) where
      pub takes_most : ℕ
      takes_most = store size n g (all_pairs n)

      pub takes_bound : (limit : ℕ) → Bounded limit takes_most (run A n limit 0 g (all_pairs n))
      unfolding takes_most
      takes_bound limit =
          let e : 0 + limit ≡ limit = omega arith in
          rw e at (run_bound A L size S n F.fine.few g limit 0 g (all_pairs n) start (store size n g (all_pairs n)) (omega arith))

      pub takes_most_is : 2 * takes_most + 13 * n ≤ 13 * (n * n)
      unfolding takes_most
      takes_most_is = store_most A L size S n F.fine.few g g (fair_good A L n g F)

      pub takes_always : takes_most ≤ 6448
      takes_always = omega (arith, takes_most_is, mul-le-mul_right n F.fine.few, F.fine.few)
