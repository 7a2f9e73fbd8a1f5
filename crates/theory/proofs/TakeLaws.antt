-- The takes are never more than 13 n (n - 1) / 2: each take uses one waiting pair, and a pair that joins has lost a relation.
use mathlib.Core.Path.{◌≡◌, ap, sym, ◌∙◌}
use mathlib.Core.List.{List, [], ◌∷◌}
use Prim.Native.Nat.{ℕ, zero, suc, ◌+◌, ◌-◌, ◌*◌, ◌/◌, ◌%◌, ◌≤◌, ◌<◌}
use native.Mathlib.Omega.{arith}
use native.Mathlib.Nat.{le_refl}
use native.Mathlib.Decide.{ℕ_discrete, dec_lt}
use lib.ListN.{length}
use Rattle.grid.specs.Cells.{cell, put_both}
use Rattle.grid.proofs.CellLaws.{put_both-length}
use Rattle.theory.specs.Calculus.{Calculus, Sub}
use Rattle.theory.specs.Line.{IsPair, Pairs, joins, pair_of, occurs, all_pairs}
use Rattle.theory.specs.Quick.{cut_to, Out, dead, going, and_then, cut, turn, turns, take, run, go_on, Ended, contradiction, closed, paused}
use Rattle.theory.specs.Sweeps.{Distinct, sum}
use Rattle.theory.proofs.ClosingLaws.{IsCut, cut-within}
use Rattle.theory.proofs.KeepLaws.{Good, Came, same, emptied, shrank, came, is_cut, good_shrank}
use Rattle.theory.proofs.Lawful.{Lawful}
use Rattle.theory.proofs.LineLaws.{occurs-cons-same, occurs-cons-other, occurs_nil, pair_same, pair_swap, length-joins, pair_number, pair-low}
use Rattle.theory.proofs.QuickLaws.{turn_skip_i, turn_skip_j, turn_is}
use Rattle.theory.proofs.SettledLaws.{pairs-rest, Resting, Taken, take_ok, After, cut_ok}
use Rattle.theory.proofs.StartLaws.{length-all, pairs-all, waits_all}

-- how many members a set has
pub record Sized (A : Calculus) (size : ℕ → ℕ) : Type 0 where
  pub less : (a b : ℕ) → Sub A a b → (a ≡ b → ⊥) → size a < size b
  pub most : (i j a : ℕ) → Sub A a (A.top i j) → size a ≤ 13

pub sum_falls : (n : ℕ) (f f' : ℕ → ℕ) (x : ℕ) → ((p : ℕ) → IsPair n p → (p ≡ x → ⊥) → f' p ≤ f p) → f' x + 1 ≤ f x → (ps : List ℕ) → Pairs n ps → sum f' ps + occurs x ps ≤ sum f ps
unfolding sum
sum_falls n f f' x le lt [] P = omega (arith, occurs_nil x)
sum_falls n f f' x le lt (p ∷ ps) P = go (ℕ_discrete x p) (sum_falls n f f' x le lt ps (pairs-rest n p ps P))
  where
    go : Dec (x ≡ p) → sum f' ps + occurs x ps ≤ sum f ps → f' p + sum f' ps + occurs x (p ∷ ps) ≤ f p + sum f ps
    go (yes e) r = rw (← e) (omega (arith, occurs-cons-same x ps))
    go (no ne) r = omega (arith, occurs-cons-other x p ps ne, le p (P p (omega (arith, occurs-cons-same p ps))) (λ e. ne (sym e)))

sum_most : (n k : ℕ) (f : ℕ → ℕ) → ((p : ℕ) → IsPair n p → f p ≤ k) → (ps : List ℕ) → Pairs n ps → sum f ps ≤ k * length ps
unfolding sum
sum_most n k f le [] P = omega arith
sum_most n k f le (p ∷ ps) P = omega (arith, le p (P p (omega (arith, occurs-cons-same p ps))), sum_most n k f le ps (pairs-rest n p ps P))

-- the members that the cells of the pairs can still lose
abbrev pub spare : (ℕ → ℕ) → ℕ → List ℕ → ℕ → ℕ
spare size n g p = size (cell n g (p / 32) (p % 32)) - 1

-- takes that may still come
abbrev pub store : (ℕ → ℕ) → ℕ → List ℕ → List ℕ → ℕ
store size n g q = length q + sum (spare size n g) (all_pairs n)

module _ (A : Calculus) (L : Lawful A) (size : ℕ → ℕ) (S : Sized A size) (n : ℕ) (few : n ≤ 32) (g₀ : List ℕ) where
  size_pos : (a : ℕ) → (a ≡ 0 → ⊥) → 0 < size a
  size_pos a nz = omega (arith, S.less 0 a (L.meet_comm 0 a ∙ L.meet_zero a) (λ e. nz (sym e)))

  module _ (g q : List ℕ) (G : Good A n g₀ g) (x m y : ℕ) (d : Distinct n x y m) where
    abbrev v : ℕ
    v = cut_to A (cell n g) x m y

    abbrev g' : List ℕ
    g' = put_both A.conv n g x y v

    module _ (ne : v ≡ cell n g x y → ⊥) (nz : v ≡ 0 → ⊥) where
      cutted : IsCut A n (cell n g) (cell n g') x m y
      cutted = is_cut A L n g₀ g G x m y d.ha d.hc d.hb d.ab

      G' : Good A n g₀ g'
      G' = good_shrank A L n g₀ g G x m y d.ha d.hc d.hb d.ab nz

      falls_there : size (cell n g' x y) - 1 + 1 ≤ size (cell n g x y) - 1
      falls_there =
          omega (
            arith,
            S.less (cell n g' x y) (cell n g x y) (cut-within A L n (cell n g) (cell n g') x m y d.ha d.hc d.hb G.reached.mirrored cutted x y d.ha d.hb)
                (λ e. ne (sym cutted.here ∙ e)),
            size_pos (cell n g' x y) (G'.full x y d.ha d.hb),
          )

      falls_back : size (cell n g' y x) - 1 + 1 ≤ size (cell n g y x) - 1
      falls_back =
          omega (
            arith,
            S.less (cell n g' y x) (cell n g y x) (cut-within A L n (cell n g) (cell n g') x m y d.ha d.hc d.hb G.reached.mirrored cutted y x d.hb d.ha)
                (λ e. ne (sym cutted.here ∙ G'.reached.mirrored y x d.hb d.ha ∙ ap A.conv e ∙ sym (G.reached.mirrored y x d.hb d.ha))),
            size_pos (cell n g' y x) (G'.full y x d.hb d.ha),
          )

      here : spare size n g' (pair_of x y) + 1 ≤ spare size n g (pair_of x y)
      here = go (dec_lt x y)
        where
          bx : x < 32
          bx = omega (arith, d.ha, few)

          by : y < 32
          by = omega (arith, d.hb, few)

          go : Dec (x < y) → spare size n g' (pair_of x y) + 1 ≤ spare size n g (pair_of x y)
          go (yes h) =
              let e₁ : pair_of x y / 32 ≡ x = omega arith in
              let e₂ : pair_of x y % 32 ≡ y = omega arith in
              rw (e₁, e₂) falls_there
          go (no h) =
              let h' : x ≡ y → ⊥ = d.ab in
              let e₁ : pair_of x y / 32 ≡ y = omega arith in
              let e₂ : pair_of x y % 32 ≡ x = omega arith in
              rw (e₁, e₂) falls_back

      elsewhere : (p : ℕ) → IsPair n p → (p ≡ pair_of x y → ⊥) → spare size n g' p ≤ spare size n g p
      elsewhere p ok np =
          let number : pair_of (p / 32) (p % 32) ≡ p = pair_number n p ok in
          let e : cell n g' (p / 32) (p % 32) ≡ cell n g (p / 32) (p % 32) =
          cutted.rest (p / 32) (p % 32) (pair-low n p ok) ok.1 (λ w. np (sym number ∙ pair_same w.0 w.1)) (λ w. np (sym number ∙ pair_swap w.0 w.1)) in
          rw e (le_refl _)

      store_falls : store size n g' (joins (pair_of x y) q) ≤ store size n g q
      store_falls =
          omega (
            arith,
            sum_falls n (spare size n g) (spare size n g') (pair_of x y) elsewhere here (all_pairs n) (pairs-all n few),
            waits_all n x y few d.ha d.hb d.ab,
            length-joins (pair_of x y) q,
          )

-- what every cut keeps, a take keeps
abbrev pub Kept : (List ℕ → List ℕ → Type 0) → Out → Type 0
Kept I dead = Unit {0}
Kept I (going g q) = I g q

module _ (A : Calculus) (n : ℕ) (I : List ℕ → List ℕ → Type 0) (each : (x m y : ℕ) → Distinct n x y m → (g q : List ℕ) → I g q → Kept I (cut A n x m y g q)) where
  kept_then : (o : Out) (f : List ℕ → List ℕ → Out) → Kept I o → ((g q : List ℕ) → I g q → Kept I (f g q)) → Kept I (and_then o f)
  kept_then dead f k r = tt
  kept_then (going g q) f k r = r g q k

  module _ (i j : ℕ) (hi : i < n) (hj : j < n) (ij : i ≡ j → ⊥) where
    turn-keeps : (k : ℕ) → k < n → (g q : List ℕ) → I g q → Kept I (turn A n i j k g q)
    turn-keeps k hk g q w = go (ℕ_discrete k i) (ℕ_discrete k j)
      where
        go : Dec (k ≡ i) → Dec (k ≡ j) → Kept I (turn A n i j k g q)
        go (yes p) e = rw (turn_skip_i A n i j k g q p) w
        go (no p) (yes e) = rw (turn_skip_j A n i j k g q p e) w
        go (no p) (no e) =
            rw (turn_is A n i j k g q p e)
            (kept_then (cut A n i j k g q) (cut A n k i j) (each i j k (record { ha = hi; hb = hk; hc = hj; ab = λ z. p (sym z); bc = e; ac = ij }) g q w)
            (each k i j (record { ha = hk; hb = hj; hc = hi; ab = e; bc = λ z. ij (sym z); ac = p })))

    turns_keep : (f k : ℕ) → k + f ≡ n → (g q : List ℕ) → I g q → Kept I (turns A n i j f k g q)
    unfolding turns
    turns_keep zero k e g q w = w
    turns_keep (suc f) k e g q w = kept_then (turn A n i j k g q) (turns A n i j f (suc k)) (turn-keeps k (omega arith) g q w) (turns_keep f (suc k) (omega arith))

  take-keeps : (p : ℕ) → IsPair n p → (g q : List ℕ) → I g q → Kept I (take A n p g q)
  unfolding take
  take-keeps p ok g q w = turns_keep (p / 32) (p % 32) (pair-low n p ok) ok.1 (λ e. omega (arith, ok)) n 0 (omega arith) g q w

-- how a run with t takes made of limit ends, where the store allows takes up to b
abbrev pub Bounded : ℕ → ℕ → Ended → Type 0
Bounded limit b (contradiction t) = t ≤ b
Bounded limit b (closed t g) = t ≤ b
Bounded limit b (paused t g) = (t ≡ limit) × (limit < b)

module _ (A : Calculus) (L : Lawful A) (size : ℕ → ℕ) (S : Sized A size) (n : ℕ) (few : n ≤ 32) (g₀ : List ℕ) where
  Spent : ℕ → List ℕ → List ℕ → Type 0
  Spent b g q = Good A n g₀ g × Pairs n q × (store size n g q ≤ b)

  cut_spends : (b : ℕ) (x m y : ℕ) → Distinct n x y m → (g q : List ℕ) → Spent b g q → Kept (Spent b) (cut A n x m y g q)
  unfolding Spent
  cut_spends b x m y d g q w = go (came A n x m y g q) (cut_ok A L n few g₀ g q w.0 w.1 x m y d)
    where
      go : {o : Out} → Came A n x m y g q o → After A n g₀ g q x m y o → Kept (Spent b) o
      go (same e) s = w
      go (emptied z) s = tt
      go (shrank ne nz) s = (s.good, s.pairs, omega (arith, store_falls A L size S n few g₀ g q w.0 x m y d ne nz, w.2))

  pub run_bound : (f t : ℕ) (g q : List ℕ) → Resting A n g₀ g q → (b : ℕ) → t + store size n g q ≤ b → Bounded (t + f) b (run A n f t g q)
  unfolding run Spent
  run_bound zero t g [] R b h = omega arith
  run_bound zero t g (p ∷ q) R b h = (omega arith, omega arith)
  run_bound (suc f) t g [] R b h = omega arith
  run_bound (suc f) t g (p ∷ q) R b h =
      let ok : IsPair n p = R.pairs p (omega (arith, occurs-cons-same p q)) in
      let e : t + suc f ≡ suc t + f = omega arith in
      rw e
      (go (take A n p g q) (take_ok A L n few g₀ g p q R)
      (take-keeps A n (Spent (store size n g q)) (cut_spends (store size n g q)) p ok g q (R.good, pairs-rest n p q R.pairs, omega arith))
      (λ g' q' R'. run_bound f (suc t) g' q' R' b))
    where
      go : (o : Out) → Taken A n g₀ o → Kept (Spent (store size n g q)) o
          → ((g' q' : List ℕ) → Resting A n g₀ g' q' → suc t + store size n g' q' ≤ b → Bounded (suc t + f) b (run A n f (suc t) g' q'))
          → Bounded (suc t + f) b (go_on o (contradiction (suc t)) (run A n f (suc t)))
      go dead z k r = omega arith
      go (going g' q') R' k r = r g' q' R' (omega (arith, k.2))

  spare_most : (g : List ℕ) → Good A n g₀ g → (p : ℕ) → IsPair n p → spare size n g p ≤ 12
  spare_most g G p ok = omega (arith, S.most (p / 32) (p % 32) (cell n g (p / 32) (p % 32)) (G.topped (p / 32) (p % 32) (pair-low n p ok) ok.1))

  pub store_most : (g : List ℕ) → Good A n g₀ g → 2 * store size n g (all_pairs n) + 13 * n ≤ 13 * (n * n)
  store_most g G = omega (arith, sum_most n 12 (spare size n g) (spare_most g G) (all_pairs n) (pairs-all n few), length-all n)

-- ---- a run keeps the length of the grid

abbrev pub LeavesLong : ℕ → Ended → Type 0
LeavesLong l (contradiction t) = Unit {0}
LeavesLong l (closed t g) = length g ≡ l
LeavesLong l (paused t g) = length g ≡ l

module _ (A : Calculus) (L : Lawful A) (n : ℕ) (few : n ≤ 32) (g₀ : List ℕ) (l : ℕ) where
  abbrev Long : List ℕ → List ℕ → Type 0
  Long g q = length g ≡ l

  cut-long : (x m y : ℕ) → Distinct n x y m → (g q : List ℕ) → Long g q → Kept Long (cut A n x m y g q)
  cut-long x m y d g q e = go (came A n x m y g q)
    where
      go : {o : Out} → Came A n x m y g q o → Kept Long o
      go (same z) = e
      go (emptied z) = tt
      go (shrank ne nz) = put_both-length A.conv n g x y (cut_to A (cell n g) x m y) ∙ e

  pub run_long : (f t : ℕ) (g q : List ℕ) → Resting A n g₀ g q → length g ≡ l → LeavesLong l (run A n f t g q)
  unfolding run
  run_long zero t g [] R e = e
  run_long zero t g (p ∷ q) R e = e
  run_long (suc f) t g [] R e = e
  run_long (suc f) t g (p ∷ q) R e =
      let ok : IsPair n p = R.pairs p (omega (arith, occurs-cons-same p q)) in
      go (take A n p g q) (take_ok A L n few g₀ g p q R) (take-keeps A n Long cut-long p ok g q e) (run_long f (suc t))
    where
      go : (o : Out) → Taken A n g₀ o → Kept Long o → ((g q : List ℕ) → Resting A n g₀ g q → length g ≡ l → LeavesLong l (run A n f (suc t) g q))
          → LeavesLong l (go_on o (contradiction (suc t)) (run A n f (suc t)))
      go dead z k r = tt
      go (going g' q') R' k r = r g' q' R' k
