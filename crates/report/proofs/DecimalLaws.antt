-- A number in decimal reads as the number, and has no leading zero.
use mathlib.Core.Path.{◌≡◌, refl, sym, ◌∙◌, ap}
use mathlib.Core.Bool.{true, false}
use mathlib.Core.List.{List, [], ◌∷◌, ◌++◌}
use Prim.Native.Nat.{ℕ, zero, suc, ◌+◌, ◌/◌, ◌%◌, ◌^◌, ◌≤◌, ◌<◌}
use native.Mathlib.Omega.{arith}
use native.Mathlib.Decide.{dec_lt}
use native.Mathlib.Nat.{pow-suc}
use lib.Dec.{ltb, eqb, lit≤}
use lib.ListN.{length, get_or, length-append, get_or-append}
use borrow.Author.Tests.{lt-ltb, le-ltb, le-leb, ne_eqb}
use Rattle.text.specs.Text.{digit, all, value, is_number}
use Rattle.text.proofs.TextLaws.{value-digit, both, and_false}
use Rattle.report.specs.Text.{digits, decimal}
use Rattle.report.specs.Steps.{most_digits}

digits-one : (m k : ℕ) → k < 10 → digits (suc m) k ≡ (48 + k) ∷ []
unfolding digits
digits-one m k h = rw (lt-ltb k 10 h, digits)

digits_more : (m k : ℕ) → 10 ≤ k → digits (suc m) k ≡ digits m (k / 10) ++ (48 + k % 10) ∷ []
unfolding digits
digits_more m k h = rw (le-ltb k 10 h, digits)

-- more digits than there are change nothing
digits_same : (m n k : ℕ) → k < m → k < n → digits m k ≡ digits n k
digits_same zero n k h g = absurd (omega arith)
digits_same (suc m) zero k h g = absurd (omega arith)
digits_same (suc m) (suc n) k h g = elim (dec_lt k 10) [
  | yes b ↦ digits-one m k b ∙ sym (digits-one n k b)
  | no b ↦
      let l : k / 10 < k = omega arith in
      digits_more m k (omega arith) ∙ ap (λ (l : List ℕ). l ++ (48 + k % 10) ∷ []) (digits_same m n (k / 10) (omega arith) (omega arith))
      ∙ sym (digits_more n k (omega arith))
]

pub decimal-one : (k : ℕ) → k < 10 → decimal k ≡ (48 + k) ∷ []
unfolding decimal
decimal-one k h = digits-one k k h

pub decimal-more : (k : ℕ) → 10 ≤ k → decimal k ≡ decimal (k / 10) ++ (48 + k % 10) ∷ []
unfolding decimal
decimal-more k h =
    let l : k / 10 < k = omega arith in
    digits_more k k h ∙ ap (λ (l : List ℕ). l ++ (48 + k % 10) ∷ []) (digits_same k (suc (k / 10)) (k / 10) l (omega arith))

-- by the number without its last digit
module _ (P : ℕ → Type 0) (one : (k : ℕ) → k < 10 → P k) (more : (k : ℕ) → 10 ≤ k → P (k / 10) → P k) where
  up_to : (m k : ℕ) → k < m → P k
  up_to zero k h = absurd (omega arith)
  up_to (suc m) k h = elim (dec_lt k 10) [
    | yes b ↦ one k b
    | no b ↦ more k (omega arith) (up_to m (k / 10) (omega arith))
  ]

  by_digits : (k : ℕ) → P k
  by_digits k = up_to (suc k) k (omega arith)

-- ---- it reads as the number

pub decimal-value : (k : ℕ) → value (decimal k) ≡ k
decimal-value =
    by_digits (λ (k : ℕ). value (decimal k) ≡ k) (λ k h. ap value (decimal-one k h) ∙ omega arith)
    (λ k h e. ap value (decimal-more k h) ∙ value-digit 0 (decimal (k / 10)) (k % 10) ∙ omega (arith, e))

-- ---- it has no leading zero

decimal-some : (k : ℕ) → 0 < length (decimal k)
decimal-some =
    by_digits (λ (k : ℕ). 0 < length (decimal k)) (λ k h. omega (arith, ap length (decimal-one k h)))
    (λ k h e. omega (arith, ap length (decimal-more k h), length-append (decimal (k / 10)) ((48 + k % 10) ∷ [])))

decimal_head : (k : ℕ) → 0 < k → 48 < get_or (decimal k) 0 0
decimal_head =
    by_digits (λ (k : ℕ). 0 < k → 48 < get_or (decimal k) 0 0) (λ k h z. rw (decimal-one k h) (omega arith))
    (λ k h e z. rw (decimal-more k h, get_or-append (decimal (k / 10)) ((48 + k % 10) ∷ []) 0 0 (decimal-some (k / 10))) (e (omega arith)))

digit-is : (d : ℕ) → d < 10 → digit (48 + d) ≡ true
digit-is d h = rw (le-leb 48 (48 + d) (omega arith), le-leb (48 + d) 57 (omega arith))

all_append : (xs ys : List ℕ) → all digit xs ≡ true → all digit ys ≡ true → all digit (xs ++ ys) ≡ true
all_append [] ys p q = q
all_append (x ∷ xs) ys p q = let w = both (digit x) (all digit xs) p in rw w.0 (all_append xs ys w.1 q)

decimal-digits : (k : ℕ) → all digit (decimal k) ≡ true
decimal-digits =
    by_digits (λ (k : ℕ). all digit (decimal k) ≡ true) (λ k h. rw (decimal-one k h, digit-is k h))
    (λ k h e. rw (decimal-more k h) (all_append (decimal (k / 10)) ((48 + k % 10) ∷ []) e (rw (digit-is (k % 10) (omega arith)))))

pub decimal_number : (k : ℕ) → is_number (decimal k) ≡ true
unfolding is_number
decimal_number k = elim (dec_lt 0 k) [
  | yes z ↦
      let h = decimal_head k z in
      let no_zero : eqb (get_or (decimal k) 0 0) 48 ≡ false = ne_eqb (get_or (decimal k) 0 0) 48 (λ e. omega arith) in
      rw (lt-ltb 0 (length (decimal k)) (decimal-some k), no_zero, and_false (ltb 1 (length (decimal k))), decimal-digits k)
  | no z ↦ let e : k ≡ 0 = omega arith in rw (e, decimal-one 0 (omega arith))
]

-- ---- at most so many digits

pub decimal-length : (m k : ℕ) → k < 10 ^ suc m → length (decimal k) ≤ suc m
decimal-length zero k h =
    let e : 10 ^ 1 ≡ 10 = refl in
    omega (arith, ap length (decimal-one k (omega arith)))
decimal-length (suc m) k h = elim (dec_lt k 10) [
  | yes b ↦ omega (arith, ap length (decimal-one k b))
  | no b ↦
      let e = pow-suc 10 (suc m) in
      let i = decimal-length m (k / 10) (omega arith) in
      omega (arith, ap length (decimal-more k (omega arith)), length-append (decimal (k / 10)) ((48 + k % 10) ∷ []))
]

-- a number of 64 bits
pub decimal_most : (k : ℕ) → k < 2 ^ 64 → length (decimal k) ≤ most_digits
decimal_most k h = decimal-length 19 k (omega (arith, lit≤ {m = 2 ^ 64} {n = 10 ^ 20} tt))
