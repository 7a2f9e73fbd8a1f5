-- A run of takes that does not pause says what closing leaves: from all pairs, and from the one pair that was cut.
use mathlib.Core.Path.{◌≡◌, refl, sym, ◌∙◌, ap, subst}
use mathlib.Core.List.{List, [], ◌∷◌}
use Prim.Native.Nat.{ℕ, ◌*◌, ◌<◌}
use native.Mathlib.Decide.{ℕ_discrete}
use native.Mathlib.Omega.{arith}
use lib.ListN.{length}
use Rattle.grid.specs.Cells.{cell, put_both}
use Rattle.grid.proofs.CellLaws.{put_both-length}
use Rattle.theory.specs.Calculus.{Calculus, Sub}
use Rattle.theory.specs.Closing.{Closed}
use Rattle.theory.specs.Fair.{Fair}
use Rattle.theory.specs.Line.{pair_of, all_pairs}
use Rattle.theory.specs.Quick.{Ended, contradiction, closed, paused, run}
use Rattle.theory.specs.Search.{closes_to}
use Rattle.theory.specs.Tried.{enough, tried_by}
use Rattle.theory.proofs.Lawful.{Lawful, OfSets, EqLawful}
use Rattle.theory.proofs.LargestLaws.{closes_closed, closes_emptied, closes_same}
use Rattle.theory.proofs.SettledLaws.{Resting, Right, LeavesGood, run_ok, run_good}
use Rattle.theory.proofs.TakeLaws.{Sized, Bounded, LeavesLong, run_long}
use Rattle.theory.proofs.QuickLaws.{run_none}
use Rattle.theory.proofs.StartLaws.{pairs-none}
use Rattle.theory.proofs.QuickRight.{start, takes_bound, takes_always}
use Rattle.theory.proofs.TryLaws.{cut-topped, resting, try_ends}

module _ (A : Calculus) (L : Lawful A) (E : EqLawful A) (S : OfSets A) (n : ℕ) where
  module _ (g : List ℕ) (small : (i j : ℕ) → i < n → j < n → cell n g i j < 8192) (some_event : 0 < n) where
    closes_ended : (e : Ended) → Right A n g e → LeavesGood A n g e → LeavesLong (n * n) e → ((t : ℕ) (h : List ℕ) → e ≡ paused t h → ⊥) → closes_to A n g ≡ tried_by e
    closes_ended (contradiction t) right good long ends = closes_emptied A L S n g small some_event right
    closes_ended (closed t h) right good long ends = closes_closed A L S n g small h long good.full right
    closes_ended (paused t h) right good long ends = absurd (ends t h refl)

    -- a run that starts at rest
    closes_run : (q : List ℕ) → length g ≡ n * n → n < 33 → Resting A n g g q → ((t : ℕ) (h : List ℕ) → run A n enough 0 g q ≡ paused t h → ⊥)
        → closes_to A n g ≡ tried_by (run A n enough 0 g q)
    closes_run q long few rest ends =
        closes_ended (run A n enough 0 g q) (run_ok A L E n (omega arith) g enough 0 g q rest) (run_good A L n (omega arith) g enough 0 g q rest)
        (run_long A L n (omega arith) g (n * n) enough 0 g q rest long) ends

  module _ (size : ℕ → ℕ) (Z : Sized A size) (top_small : (i j a : ℕ) → Sub A a (A.top i j) → a < 8192) where
    fair_small : (g : List ℕ) → Fair A n g → (i j : ℕ) → i < n → j < n → cell n g i j < 8192
    fair_small g F i j hi hj = top_small i j (cell n g i j) (F.fine.topped i j hi hj)

    -- ---- from all pairs

    module _ (g : List ℕ) (F : Fair A n g) (long : length g ≡ n * n) where
      never-paused : (t : ℕ) (h : List ℕ) → run A n enough 0 g (all_pairs n) ≡ paused t h → ⊥
      never-paused t h q =
          let w : Bounded enough _ (paused t h) = subst (Bounded enough _) q (takes_bound A L n g F size Z enough) in
          omega (arith, w.1, takes_always A L n g F size Z)

      pub closes_all : closes_to A n g ≡ tried_by (run A n enough 0 g (all_pairs n))
      closes_all = go (ℕ_discrete n 0)
        where
          go : Dec (n ≡ 0) → closes_to A n g ≡ tried_by (run A n enough 0 g (all_pairs n))
          go (no ne) = closes_run g (fair_small g F) (omega arith) (all_pairs n) long (omega (arith, F.fine.few)) (start A L n g F) never-paused
          go (yes e) =
              closes_same A L S n g (fair_small g F) long F.full (λ i j k hi hj hk. absurd (omega arith))
              ∙ sym (ap tried_by (ap (run A n enough 0 g) (pairs-none n e) ∙ run_none A n enough 0 g))

    -- ---- from the one pair that was cut in a closed grid

    module _ (h : List ℕ) (F : Fair A n h) (long : length h ≡ n * n) (cl : Closed A n (cell n h)) (x y : ℕ) (hx : x < n) (hy : y < n) (ne : x ≡ y → ⊥)
        (v : ℕ) (inside : Sub A v (cell n h x y)) (back : A.conv (A.conv v) ≡ v) (some : v ≡ 0 → ⊥) where
      abbrev g : List ℕ
      g = put_both A.conv n h x y v

      pub closes_one : closes_to A n g ≡ tried_by (run A n enough 0 g (pair_of x y ∷ []))
      closes_one =
          closes_run g (λ i j hi hj. top_small i j (cell n g i j) (cut-topped A L n h F x y hx hy ne v inside back i j hi hj)) (omega arith) (pair_of x y ∷ [])
          (put_both-length A.conv n h x y v ∙ long) (omega (arith, F.fine.few)) (resting A L n h F x y hx hy ne v inside back some cl)
          (try_ends A L n h F x y hx hy ne v inside back some cl size Z)
