-- The refusals of the checker, and that its statement determines its answer.
use mathlib.Core.Path.{◌≡◌, refl, sym, ap, ◌∙◌}
use mathlib.Core.Bool.{Bool, true, false, cond}
use mathlib.Core.List.{List}
use Prim.Native.Nat.{ℕ, ◌*◌, ◌≤◌, ◌<◌}
use native.Mathlib.Omega.{arith}
use borrow.Author.Tests.{eq-eqb, eqb-true}
use lib.Dec.{eqb}
use lib.ListN.{length}
use lib.IntN.{ℤ}
use Rattle.refusal.proofs.NumberLaws.{number_pos, number_unique}
use Rattle.grid.specs.Accepted.{size_refusal, cell_refusal}
use Rattle.grid.proofs.AcceptedLaws.{sized}
use Rattle.refusal.proofs.AnsweredLaws.{first_here, first_next, first-none}
use Rattle.placing.specs.Placing.{at}
use Rattle.placing.specs.Checking.{length_refusal, some_late, rest_refusal, check_refusal, CheckSays}
use Rattle.refusal.specs.declared.Refusal.{Refusal}
use Rattle.std.proofs.Common.{Result, Ok, Err}

-- ---- refusals 1, 2 and 6

module _ (n : ℕ) (g : List ℕ) (m : ℕ) where
  pub length-right : size_refusal n g ≡ 0 → m ≡ 2 * n → length_refusal n g m ≡ 0
  unfolding length_refusal
  length-right s e = first_next (size_refusal n g) (cond (eqb m (2 * n)) 0 6) s ∙ ap (λ (x : Bool). cond {A = ℕ} x 0 6) (eq-eqb m (2 * n) e)

  -- no refusal for the lengths
  pub record Lengths : Type 0 where
    pub few : n ≤ 32
    pub long : length g ≡ n * n
    pub numbers : m ≡ 2 * n

  pub lengths : length_refusal n g m ≡ 0 → Lengths
  unfolding length_refusal
  lengths e =
      let both = first-none (size_refusal n g) (cond (eqb m (2 * n)) 0 6) e in
      let s = sized n g both.0 in
      record { few = s.few; long = s.long; numbers = go (eqb m (2 * n)) refl both.1 }
    where
      go : (x : Bool) → eqb m (2 * n) ≡ x → ◌≡◌ {A = ℕ} (cond x 0 6) 0 → m ≡ 2 * n
      go true f z = eqb-true m (2 * n) f
      go false f z = absurd (omega arith)

-- ---- refusals 3, 4, 5 and 7

module _ (n : ℕ) (g : List ℕ) (xs : List ℤ) where
  -- a faulty cell comes before a late start
  pub rest-cell : (k : ℕ) → cell_refusal n g ≡ k → 0 < k → rest_refusal n g xs ≡ k
  unfolding rest_refusal
  rest-cell k e h = first_here (cell_refusal n g) (cond (some_late n (at xs)) 7 0) (omega arith) ∙ e

  rest_on_time : rest_refusal n g xs ≡ 0 → some_late n (at xs) ≡ false
  unfolding rest_refusal
  rest_on_time e = go (some_late n (at xs)) (first-none (cell_refusal n g) (cond (some_late n (at xs)) 7 0) e).1
    where
      go : (x : Bool) → ◌≡◌ {A = ℕ} (cond x 7 0) 0 → x ≡ false
      go true z = absurd (omega arith)
      go false z = refl

-- ---- all of them

module _ (n : ℕ) (g : List ℕ) (xs : List ℤ) where
  -- what the lengths refuse comes before the rest
  pub check_length : (k : ℕ) → length_refusal n g (length xs) ≡ k → 0 < k → check_refusal n g xs ≡ k
  unfolding check_refusal
  check_length k e h = first_here (length_refusal n g (length xs)) (rest_refusal n g xs) (omega arith) ∙ e

  -- none: the lengths are right, and no start is late
  pub check_lengths : check_refusal n g xs ≡ 0 → Lengths n g (length xs)
  unfolding check_refusal
  check_lengths e = lengths n g (length xs) (first-none (length_refusal n g (length xs)) (rest_refusal n g xs) e).0

  pub check_on_time : check_refusal n g xs ≡ 0 → some_late n (at xs) ≡ false
  unfolding check_refusal
  check_on_time e = rest_on_time n g xs (first-none (length_refusal n g (length xs)) (rest_refusal n g xs) e).1

  -- any two answers that the statement allows are equal
  pub check_unique : (a b : Result Bool Refusal) → CheckSays n g xs a → CheckSays n g xs b → a ≡ b
  check_unique (Ok true) (Ok true) h k = refl
  check_unique (Ok true) (Ok false) h k = absurd (k.1 h.1)
  check_unique (Ok true) (Err r) h k = absurd (omega (arith, number_pos r, sym h.0 ∙ k))
  check_unique (Ok false) (Ok true) h k = absurd (h.1 k.1)
  check_unique (Ok false) (Ok false) h k = refl
  check_unique (Ok false) (Err r) h k = absurd (omega (arith, number_pos r, sym h.0 ∙ k))
  check_unique (Err r) (Ok true) h k = absurd (omega (arith, number_pos r, sym k.0 ∙ h))
  check_unique (Err r) (Ok false) h k = absurd (omega (arith, number_pos r, sym k.0 ∙ h))
  check_unique (Err r) (Err s) h k = ap Err (number_unique r s (sym h ∙ k))
