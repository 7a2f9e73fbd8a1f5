-- A test that goes over a range, as `any` of an iterator does, is `some`.
use mathlib.Core.Path.{◌≡◌, refl, sym, ap, ap₂, ◌∙◌}
use mathlib.Core.Bool.{Bool, true, false, ◌||◌, ◌&&◌}
use Prim.Native.Nat.{ℕ, zero, suc, ◌+◌, ◌-◌, ◌<◌}
use native.Mathlib.Omega.{arith}
use borrow.Author.Tests.{lt-ltb, le-ltb}
use lib.Dec.{ltb}
use Rattle.std.specs.List.{list_any, range_with_len}
use Rattle.relation.specs.Sets.{some}
use Rattle.relation.proofs.Tested.{some_next, some_no}

turned : (x y z : Bool) → ((x || y) || z) ≡ (y || (z || x))
turned true true z = refl
turned true false true = refl
turned true false false = refl
turned false true z = refl
turned false false true = refl
turned false false false = refl

-- what is found from a on, or below it
any_or_below : (p : ℕ → Bool) (a m b : ℕ) → a + m ≡ b → (list_any p (range_with_len a m) || some a p) ≡ some b p
any_or_below p a zero b e = let q : a ≡ b = omega arith in ap (λ (k : ℕ). some k p) q
any_or_below p a (suc m) b e =
    turned (p a) (list_any p (range_with_len (a + 1) m)) (some a p) ∙ ap (λ (x : Bool). list_any p (range_with_len (a + 1) m) || x) (some_next a p)
    ∙ any_or_below p (a + 1) m b (omega arith)

or_false : (x : Bool) → (x || false) ≡ x
or_false true = refl
or_false false = refl

pub any_below : (n : ℕ) (p : ℕ → Bool) → list_any p (range_with_len 0 n) ≡ some n p
unfolding some
any_below n p = sym (or_false (list_any p (range_with_len 0 n))) ∙ any_or_below p 0 n n (omega arith)

-- the numbers above i
and_above : (p : ℕ → Bool) (i a m : ℕ) → i < a → list_any (λ j. ltb i j && p j) (range_with_len a m) ≡ list_any p (range_with_len a m)
and_above p i a zero h = refl
and_above p i a (suc m) h = ap₂ (λ (x y : Bool). (x && p a) || y) (lt-ltb i a h) (and_above p i (a + 1) m (omega arith))

pub any_above : (n i : ℕ) (p : ℕ → Bool) → i < n → list_any p (range_with_len (i + 1) (n - (i + 1))) ≡ some n (λ j. ltb i j && p j)
any_above n i p h =
    let below : some (i + 1) (λ j. ltb i j && p j) ≡ false =
    some_no (i + 1) (λ j. ltb i j && p j) (λ j l. ap (λ (x : Bool). x && p j) (le-ltb i j (omega arith))) in
    sym (and_above p i (i + 1) (n - (i + 1)) (omega arith))
    ∙ sym (or_false (list_any (λ j. ltb i j && p j) (range_with_len (i + 1) (n - (i + 1)))))
    ∙ ap (λ (x : Bool). list_any (λ j. ltb i j && p j) (range_with_len (i + 1) (n - (i + 1))) || x) (sym below)
    ∙ any_or_below (λ j. ltb i j && p j) (i + 1) (n - (i + 1)) n (omega arith)
