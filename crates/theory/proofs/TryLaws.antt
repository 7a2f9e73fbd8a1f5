-- Closing again from the one pair that was cut: a closed grid in which a pair was cut, with that pair waiting alone, is settled.
use mathlib.Core.Path.{◌≡◌, subst}
use mathlib.Core.Logic.{inl, inr}
use mathlib.Core.List.{List, [], ◌∷◌}
use Prim.Native.Nat.{ℕ, suc, ◌≤◌, ◌<◌}
use native.Mathlib.Decide.{ℕ_discrete}
use native.Mathlib.Nat.{mul-le-mul_right}
use native.Mathlib.Omega.{arith}
use lib.ListN.{length}
use Rattle.grid.specs.Cells.{cell, put_both}
use Rattle.theory.specs.Calculus.{Calculus, Sub}
use Rattle.theory.specs.Closing.{Closed, Within}
use Rattle.theory.specs.Fair.{Fair}
use Rattle.theory.specs.Line.{IsPair, Pairs, pair_of, occurs, all_pairs}
use Rattle.theory.specs.Quick.{paused, run}
use Rattle.theory.proofs.Lawful.{Lawful, EqLawful}
use Rattle.theory.proofs.ClosingLaws.{IsPut, put-within, sub_trans}
use Rattle.theory.proofs.KeepLaws.{put_both_lem}
use Rattle.theory.proofs.FairLaws.{fair_good, put_fair}
use Rattle.theory.proofs.LineLaws.{occurs-cons-same, occurs-cons-other, occurs_nil, pair_same, pair_swap, pair_ok}
use Rattle.theory.proofs.SettledLaws.{Settled, Served, Resting, Right, run_ok}
use Rattle.theory.proofs.StartLaws.{waits_all}
use Rattle.theory.proofs.TakeLaws.{Sized, Bounded, store_most, run_bound}

occurs_most : (p : ℕ) (q : List ℕ) → occurs p q ≤ length q
unfolding occurs
occurs_most p [] = omega arith
occurs_most p (x ∷ q) = go (ℕ_discrete p x) (occurs_most p q)
  where
    go : Dec (p ≡ x) → occurs p q ≤ length q → occurs p (x ∷ q) ≤ suc (length q)
    go (yes e) h = rw (← e) (omega (arith, occurs-cons-same p q))
    go (no ne) h = omega (arith, occurs-cons-other p x q ne)

module _ (A : Calculus) (L : Lawful A) (n : ℕ) (h : List ℕ) (F : Fair A n h) (x y : ℕ) (hx : x < n) (hy : y < n) (ne : x ≡ y → ⊥) (v : ℕ)
    (inside : Sub A v (cell n h x y)) (back : A.conv (A.conv v) ≡ v) where
  -- the cell and its mirror cut to v
  abbrev g : List ℕ
  g = put_both A.conv n h x y v

  is-put : IsPut A n (cell n h) (cell n g) x y v
  is-put = put_both_lem A n h F.fine.fits x y v hx hy ne

  pub cut_inside : Within A n (cell n g) (cell n h)
  cut_inside = put-within A L n (cell n h) (cell n g) x y v is-put F.fine.mirrored hx hy inside

  pub cut-topped : (i j : ℕ) → i < n → j < n → Sub A (cell n g i j) (A.top i j)
  cut-topped i j hi hj = sub_trans A L (cell n g i j) (cell n h i j) (A.top i j) (cut_inside i j hi hj) (F.fine.topped i j hi hj)

  module _ (nz : v ≡ 0 → ⊥) where
    cut_fair : Fair A n g
    cut_fair =
        put_fair A L n h F x y hx hy ne v (subst (λ (c : ℕ). Sub A c (A.top x y)) is-put.here (cut-topped x y hx hy))
        (subst (λ (c : ℕ). Sub A c (A.top y x)) is-put.mirror (cut-topped y x hy hx)) back nz

    module _ (cl : Closed A n (cell n h)) where
      settled : Settled A n g (pair_of x y ∷ [])
      settled a b c t = go (ℕ_discrete (pair_of a c) (pair_of x y)) (ℕ_discrete (pair_of c b) (pair_of x y))
        where
          waits : (p : ℕ) → p ≡ pair_of x y → 0 < occurs p (pair_of x y ∷ [])
          waits p e = rw e (omega (arith, occurs-cons-same (pair_of x y) []))

          kept : (i j : ℕ) → i < n → j < n → (pair_of i j ≡ pair_of x y → ⊥) → cell n g i j ≡ cell n h i j
          kept i j hi hj np = is-put.rest i j hi hj (λ w. np (pair_same w.0 w.1)) (λ w. np (pair_swap w.0 w.1))

          go : Dec (pair_of a c ≡ pair_of x y) → Dec (pair_of c b ≡ pair_of x y) → Served A n g (pair_of x y ∷ []) a b c
          go (yes e) f = inr (inl (waits (pair_of a c) e))
          go (no e) (yes f) = inr (inr (waits (pair_of c b) f))
          go (no e) (no f) =
              inl
              (rw (kept a c t.ha t.hc e, kept c b t.hc t.hb f)
              (sub_trans A L (cell n g a b) (cell n h a b) (A.comp a c b (cell n h a c) (cell n h c b)) (cut_inside a b t.ha t.hb)
              (cl a b c t.ha t.hb t.hc)))

      pairs : Pairs n (pair_of x y ∷ [])
      pairs p w = go (ℕ_discrete p (pair_of x y))
        where
          go : Dec (p ≡ pair_of x y) → IsPair n p
          go (yes e) = rw e (pair_ok n x y F.fine.few hx hy ne)
          go (no np) = absurd (omega (arith, w, occurs-cons-other p (pair_of x y) [] np, occurs_nil p))

      pub resting : Resting A n g g (pair_of x y ∷ [])
      resting =
          record {
            good = fair_good A L n g cut_fair;
            pairs = pairs;
            settled = settled;
          }

      -- the run from the pair alone gives the largest closed grid inside the cut one
      pub try_right : EqLawful A → (limit : ℕ) → Right A n g (run A n limit 0 g (pair_of x y ∷ []))
      try_right E limit = run_ok A L E n F.fine.few g limit 0 g (pair_of x y ∷ []) resting

      -- and 6,448 takes always suffice
      pub try_ends : (size : ℕ → ℕ) → Sized A size → (t : ℕ) (k : List ℕ) → run A n 6448 0 g (pair_of x y ∷ []) ≡ paused t k → ⊥
      try_ends size S t k e =
          let w = waits_all n x y F.fine.few hx hy ne in
          let m = store_most A L size S n F.fine.few g g resting.good in
          let l = occurs_most (pair_of x y) (all_pairs n) in
          let b : Bounded 6448 6448 (run A n 6448 0 g (pair_of x y ∷ [])) =
          run_bound A L size S n F.fine.few g 6448 0 g (pair_of x y ∷ []) resting 6448 (omega (arith, mul-le-mul_right n F.fine.few, F.fine.few)) in
          let q : Bounded 6448 6448 (paused t k) = subst (Bounded 6448 6448) e b in
          omega (arith, q.1)
