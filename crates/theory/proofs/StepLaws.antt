-- What is left of a take and of a run: done from here, it is the whole.
use mathlib.Core.Path.{◌≡◌, refl, ap, ◌∙◌}
use mathlib.Core.List.{List, [], ◌∷◌}
use Prim.Native.Nat.{ℕ, zero, suc, ◌+◌, ◌-◌, ◌/◌, ◌%◌, ◌≤◌, ◌<◌}
use native.Mathlib.Omega.{arith}
use native.Mathlib.Decide.{ℕ_discrete}
use Rattle.grid.specs.Cells.{cell}
use Rattle.theory.specs.Calculus.{Calculus}
use Rattle.theory.specs.Quick.{cut_to, Out, dead, going, and_then, cut, cut_back, turn, turns, take, Ended, contradiction, closed, paused, go_on, run}
use Rattle.theory.proofs.QuickLaws.{cut-still, turn_is, turn_skip_i, turn_skip_j}

module _ (A : Calculus) (n i j k : ℕ) (g q : List ℕ) where
  turn-going : (k ≡ i → ⊥) → (k ≡ j → ⊥) → (g' q' : List ℕ) → cut A n i j k g q ≡ going g' q' → turn A n i j k g q ≡ cut_back A n i j k g' q'
  turn-going ni nj g' q' e = turn_is A n i j k g q ni nj ∙ ap (λ (o : Out). and_then o (cut_back A n i j k)) e

  -- where both cuts leave their cells as they are, the turn changes nothing
  pub turn-still : cut_to A (cell n g) i j k ≡ cell n g i k → cut_to A (cell n g) k i j ≡ cell n g k j → turn A n i j k g q ≡ going g q
  turn-still e f = go (ℕ_discrete k i) (ℕ_discrete k j)
    where
      go : Dec (k ≡ i) → Dec (k ≡ j) → turn A n i j k g q ≡ going g q
      go (yes u) v = turn_skip_i A n i j k g q u
      go (no u) (yes v) = turn_skip_j A n i j k g q u v
      go (no u) (no v) = turn-going u v g q (cut-still A n i j k g q e) ∙ cut-still A n k i j g q f

-- the turns left, with k of n made
unfoldable pub left : Calculus → ℕ → ℕ → ℕ → ℕ → List ℕ → List ℕ → Out
left A n i j k g q = turns A n i j (n - k) k g q

pub left-all : (A : Calculus) (n i j : ℕ) (g q : List ℕ) → left A n i j 0 g q ≡ turns A n i j n 0 g q
unfolding left
left-all A n i j g q = ap (λ (f : ℕ). turns A n i j f 0 g q) (omega arith)

left-none : (A : Calculus) (n i j k : ℕ) (g q : List ℕ) → n ≤ k → left A n i j k g q ≡ going g q
unfolding left turns
left-none A n i j k g q h = let e : n - k ≡ 0 = omega arith in rw e

left_step : (A : Calculus) (n i j k : ℕ) (g q : List ℕ) → k < n → left A n i j k g q ≡ and_then (turn A n i j k g q) (left A n i j (k + 1))
unfolding left turns
left_step A n i j k g q h =
    let e : n - k ≡ suc (n - (k + 1)) = omega arith in
    let s : k + 1 ≡ suc k = omega arith in
    rw (e, s)

left-going : (A : Calculus) (n i j k : ℕ) (g q g' q' : List ℕ) → k < n → turn A n i j k g q ≡ going g' q' → left A n i j k g q ≡ left A n i j (k + 1) g' q'
left-going A n i j k g q g' q' h e = left_step A n i j k g q h ∙ ap (λ (o : Out). and_then o (left A n i j (k + 1))) e

-- where no turn changes anything, the take changes nothing
pub left-still : (A : Calculus) (n i j : ℕ) (g q : List ℕ) → ((k : ℕ) → k < n → turn A n i j k g q ≡ going g q) → (f k : ℕ) → f + k ≡ n
    → left A n i j k g q ≡ going g q
left-still A n i j g q s zero k e = left-none A n i j k g q (omega arith)
left-still A n i j g q s (suc f) k e =
    left-going A n i j k g q g q (omega arith) (s k (omega arith)) ∙ left-still A n i j g q s f (k + 1) (omega arith)

-- the run with t takes made of limit
unfoldable pub rest : Calculus → ℕ → ℕ → ℕ → List ℕ → List ℕ → Ended
rest A n limit t g q = run A n (limit - t) t g q

pub rest_all : (A : Calculus) (n limit : ℕ) (g q : List ℕ) → rest A n limit 0 g q ≡ run A n limit 0 g q
unfolding rest
rest_all A n limit g q = ap (λ (f : ℕ). run A n f 0 g q) (omega arith)

pub rest-closed : (A : Calculus) (n limit t : ℕ) (g : List ℕ) → rest A n limit t g [] ≡ closed t g
unfolding rest run
rest-closed A n limit t g = go (limit - t)
  where
    go : (f : ℕ) → run A n f t g [] ≡ closed t g
    go zero = refl
    go (suc f) = refl

pub rest-paused : (A : Calculus) (n limit : ℕ) (g : List ℕ) (p : ℕ) (q : List ℕ) → rest A n limit limit g (p ∷ q) ≡ paused limit g
unfolding rest run
rest-paused A n limit g p q = let e : limit - limit ≡ 0 = omega arith in rw e

rest-step : (A : Calculus) (n limit t : ℕ) (g : List ℕ) (p : ℕ) (q : List ℕ) → t < limit
    → rest A n limit t g (p ∷ q) ≡ go_on (turns A n (p / 32) (p % 32) n 0 g q) (contradiction (t + 1)) (rest A n limit (t + 1))
unfolding rest run take
rest-step A n limit t g p q h =
    let e : limit - t ≡ suc (limit - (t + 1)) = omega arith in
    let s : t + 1 ≡ suc t = omega arith in
    rw (e, s)

module _ (A : Calculus) (n limit t : ℕ) (g : List ℕ) (p : ℕ) (q : List ℕ) (h : t < limit) where
  pub rest-dead : turns A n (p / 32) (p % 32) n 0 g q ≡ dead → rest A n limit t g (p ∷ q) ≡ contradiction (t + 1)
  rest-dead e = rest-step A n limit t g p q h ∙ ap (λ (o : Out). go_on o (contradiction (t + 1)) (rest A n limit (t + 1))) e

  pub rest-going : (g' q' : List ℕ) → turns A n (p / 32) (p % 32) n 0 g q ≡ going g' q' → rest A n limit t g (p ∷ q) ≡ rest A n limit (t + 1) g' q'
  rest-going g' q' e = rest-step A n limit t g p q h ∙ ap (λ (o : Out). go_on o (contradiction (t + 1)) (rest A n limit (t + 1))) e
