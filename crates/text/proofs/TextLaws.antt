-- Laws of tests over a text, of decimal numbers, and of names.
use Prim.Native.Nat.{ℕ, ◌+◌, ◌*◌, ◌-◌, ◌≤◌, ◌<◌, min}
use mathlib.Core.Path.{◌≡◌, refl}
use mathlib.Core.Bool.{Bool, true, false, cond, not, ◌&&◌}
use mathlib.Core.List.{List, [], ◌∷◌, ◌++◌}
use native.Mathlib.Omega.{arith}
use native.Mathlib.Numerals.{add-one}
use native.Mathlib.Decide.{dec_le}
use lib.Dec.{ltb, leb}
use lib.ListN.{length, drop, get_or}
use lib.Seq.{drop-cons}
use borrow.Author.Tests.{leb-true, leb-false}
use Rattle.text.specs.Text.{bytes, all, digit, value_from, value, leading_zero, is_number}
use Rattle.text.specs.Names.{longest_name, name_byte, is_name}
use Rattle.text.specs.Steps.{number_up_to}
use Rattle.std.specs.Prelude.{Ok, Err}
use Rattle.text.specs.declared.NoNumber.TheVariants.{Above, Not}

pub and_false : (t : Bool) → (t && false) ≡ false
and_false true = refl
and_false false = refl

-- ---- decimal numbers

pub value-step : (v : ℕ) (s : List ℕ) (i : ℕ) → i < length s → value_from v (drop i s) ≡ value_from (v * 10 + (get_or s i 0 - 48)) (drop (i + 1) s)
value-step v s i h = rw (drop-cons s i 0, add-one)

-- digits only make a number larger
pub value_grows : (v : ℕ) (xs : List ℕ) → v ≤ value_from v xs
value_grows v [] = omega arith
value_grows v (x ∷ xs) = omega (arith, value_grows (v * 10 + (x - 48)) xs)

-- a number that is past the cap stays past it
value_cap : (most v : ℕ) (xs : List ℕ) → min most (value_from v xs) ≡ min most (value_from (min v most) xs)
value_cap most v xs = elim (dec_le v most) [
  | yes h ↦ let e : min v most ≡ v = omega arith in rw e
  | no h ↦ let e : min v most ≡ most = omega arith in rw e (omega (arith, value_grows v xs, value_grows most xs))
]

-- the number so far, v, with one more digit, at most the cap
pub value-next : (most v : ℕ) (s : List ℕ) (i : ℕ) → i < length s
    → min most (value_from v (drop i s)) ≡ min most (value_from (min (v * 10 + (get_or s i 0 - 48)) most) (drop (i + 1) s))
value-next most v s i h = rw (value-step v s i h, ← value_cap most (v * 10 + (get_or s i 0 - 48)) (drop (i + 1) s))

pub both : (t u : Bool) → (t && u) ≡ true → (t ≡ true) × (u ≡ true)
both true u e = (refl, e)
both false u e = let z : ◌≡◌ {A = ℕ} 0 1 = cc in absurd (omega arith)

pub number_digits : (xs : List ℕ) → is_number xs ≡ true → all digit xs ≡ true
unfolding is_number
number_digits xs e = (both (ltb 0 (length xs) && not (leading_zero xs)) (all digit xs) e).1

-- a digit written after a number makes ten times the number and the digit: what decimal means
pub value-digit : (v : ℕ) (xs : List ℕ) (d : ℕ) → value_from v (xs ++ (48 + d) ∷ []) ≡ value_from v xs * 10 + d
value-digit v [] d = omega arith
value-digit v (x ∷ xs) d = value-digit (v * 10 + (x - 48)) xs d

-- ---- names

pub name-length : (xs : List ℕ) → is_name xs ≡ true → length xs ≤ longest_name
unfolding is_name
name-length xs e =
    let some = ltb 0 (length xs) in
    let few = leb (length xs) longest_name in
    leb-true (length xs) longest_name (both some few (both (some && few) (all name_byte xs) e).0).1

-- ---- worked numbers

number_1907 : (is_number (bytes "1907") ≡ true) × (value (bytes "1907") ≡ 1907)
unfolding is_number
number_1907 = (refl, refl)

no_number_01 : is_number (bytes "01") ≡ false
unfolding is_number
no_number_01 = refl

-- ---- what an answer of number_up_to says

module _ (most : ℕ) (s : List ℕ) where
  pub is_number_lem : (v : ℕ) → number_up_to most s ≡ Ok v → (is_number s ≡ true) × (value s ≤ most) × (value s ≡ v)
  is_number_lem v e = by (is_number s) (leb (value s) most) refl e
    where
      by : (t u : Bool) → leb (value s) most ≡ u → cond t (cond u (Ok (value s)) (Err Above)) (Err Not) ≡ Ok v → (t ≡ true) × (value s ≤ most) × (value s ≡ v)
      by true true h e = (refl, leb-true (value s) most h, (cc))
      by true false h e = let z : ◌≡◌ {A = ℕ} 0 1 = cc in absurd (omega arith)
      by false u h e = let z : ◌≡◌ {A = ℕ} 0 1 = cc in absurd (omega arith)

  pub above_number : number_up_to most s ≡ Err Above → (is_number s ≡ true) × (most < value s)
  above_number e = by (is_number s) (leb (value s) most) refl e
    where
      by : (t u : Bool) → leb (value s) most ≡ u → cond t (cond u (Ok (value s)) (Err Above)) (Err Not) ≡ Err Above → (t ≡ true) × (most < value s)
      by true true h e = let z : ◌≡◌ {A = ℕ} 0 1 = cc in absurd (omega arith)
      by true false h e = (refl, leb-false (value s) most h)
      by false u h e = let z : ◌≡◌ {A = ℕ} 0 1 = cc in absurd (omega arith)

  pub no_number : number_up_to most s ≡ Err Not → is_number s ≡ false
  no_number e = by (is_number s) (leb (value s) most) e
    where
      by : (t u : Bool) → cond t (cond u (Ok (value s)) (Err Above)) (Err Not) ≡ Err Not → t ≡ false
      by true true e = let z : ◌≡◌ {A = ℕ} 0 1 = cc in absurd (omega arith)
      by true false e = let z : ◌≡◌ {A = ℕ} 0 1 = cc in absurd (omega arith)
      by false u e = refl
