-- Laws of sets of relations.
use mathlib.Core.Path.{◌≡◌, refl, sym, ap, ◌∙◌, subst}
use mathlib.Core.Bool.{Bool, true, false, ◌&&◌, ◌||◌}
use Prim.Native.Nat.{ℕ, zero, suc, ◌+◌, ◌-◌, ◌*◌, ◌/◌, ◌%◌, ◌^◌, ◌<◌, min, max}
use native.Mathlib.Nat.{add_comm, zero-div, pow-suc, not-suc-le-zero, le_of_suc-le-suc, zero-lt-suc}
use native.Mathlib.Numerals.{one-add}
use native.Mathlib.Omega.{arith}
use lib.Dec.{T, eqb, lit<}
use lib.Bits.{bit_and, bit_or, or_shr, and_shr, or_step, and_step, and_le_l}
use lib.Pow.{shr-shr, pow-lt, field, mod-mod-pow}
use Rattle.relation.specs.Sets.{member, one_if, set_below, set_of, Inside}
use Rattle.relation.proofs.Tested.{and_left, and_right, and_both, or_cases, or_left, or_right, all, all-at, both_ways, same_test, same_test_eq}

-- ---- the members of a union and of a cut

or_bit : (x y : ℕ) → bit_or x y % 2 ≡ max (x % 2) (y % 2)
or_bit x y = omega (arith, or_step x y)

pub and_bit : (x y : ℕ) → bit_and x y % 2 ≡ min (x % 2) (y % 2)
and_bit x y = omega (arith, and_step x y)

or_test : (u v : ℕ) → u < 2 → v < 2 → eqb (max u v) 1 ≡ (eqb u 1 || eqb v 1)
or_test zero zero h k = refl
or_test zero (suc zero) h k = refl
or_test zero (suc (suc v)) h k = absurd (not-suc-le-zero (le_of_suc-le-suc (le_of_suc-le-suc k)))
or_test (suc zero) zero h k = refl
or_test (suc zero) (suc zero) h k = refl
or_test (suc zero) (suc (suc v)) h k = absurd (not-suc-le-zero (le_of_suc-le-suc (le_of_suc-le-suc k)))
or_test (suc (suc u)) v h k = absurd (not-suc-le-zero (le_of_suc-le-suc (le_of_suc-le-suc h)))

and_test : (u v : ℕ) → u < 2 → v < 2 → eqb (min u v) 1 ≡ (eqb u 1 && eqb v 1)
and_test zero zero h k = refl
and_test zero (suc zero) h k = refl
and_test zero (suc (suc v)) h k = absurd (not-suc-le-zero (le_of_suc-le-suc (le_of_suc-le-suc k)))
and_test (suc zero) zero h k = refl
and_test (suc zero) (suc zero) h k = refl
and_test (suc zero) (suc (suc v)) h k = absurd (not-suc-le-zero (le_of_suc-le-suc (le_of_suc-le-suc k)))
and_test (suc (suc u)) v h k = absurd (not-suc-le-zero (le_of_suc-le-suc (le_of_suc-le-suc h)))

bit_lt : (x : ℕ) → x % 2 < 2
bit_lt x = omega arith

pub member_or : (t a b : ℕ) → member t (bit_or a b) ≡ (member t a || member t b)
unfolding member
member_or t a b =
    ap (λ (x : ℕ). eqb (x % 2) 1) (or_shr a b t) ∙ ap (λ (x : ℕ). eqb x 1) (or_bit (a / 2 ^ t) (b / 2 ^ t))
    ∙ or_test (a / 2 ^ t % 2) (b / 2 ^ t % 2) (bit_lt (a / 2 ^ t)) (bit_lt (b / 2 ^ t))

pub member_and : (t a b : ℕ) → member t (bit_and a b) ≡ (member t a && member t b)
unfolding member
member_and t a b =
    ap (λ (x : ℕ). eqb (x % 2) 1) (and_shr a b t) ∙ ap (λ (x : ℕ). eqb x 1) (and_bit (a / 2 ^ t) (b / 2 ^ t))
    ∙ and_test (a / 2 ^ t % 2) (b / 2 ^ t % 2) (bit_lt (a / 2 ^ t)) (bit_lt (b / 2 ^ t))

-- ---- the lowest mark, and the others

pub member-low : (a : ℕ) → member 0 a ≡ eqb (a % 2) 1
unfolding member
member-low a =
    let e : a / 1 ≡ a = omega arith in
    ap (λ (x : ℕ). eqb (x % 2) 1) e

pub member-high : (t a : ℕ) → member (suc t) a ≡ member t (a / 2)
unfolding member
member-high t a = ap (λ (x : ℕ). eqb (x % 2) 1) (ap (λ (n : ℕ). a / 2 ^ n) (sym (one-add t)) ∙ sym (shr-shr a 1 t))

-- ---- two sets with the same members are equal

same_bit : (u v : ℕ) → u < 2 → v < 2 → eqb u 1 ≡ eqb v 1 → u ≡ v
same_bit zero zero h k e = refl
same_bit zero (suc zero) h k e = absurd (subst T (sym e) tt)
same_bit zero (suc (suc v)) h k e = absurd (not-suc-le-zero (le_of_suc-le-suc (le_of_suc-le-suc k)))
same_bit (suc zero) zero h k e = absurd (subst T e tt)
same_bit (suc zero) (suc zero) h k e = refl
same_bit (suc zero) (suc (suc v)) h k e = absurd (not-suc-le-zero (le_of_suc-le-suc (le_of_suc-le-suc k)))
same_bit (suc (suc u)) v h k e = absurd (not-suc-le-zero (le_of_suc-le-suc (le_of_suc-le-suc h)))

pub same_below : (k a b : ℕ) → a < 2 ^ k → b < 2 ^ k → ((t : ℕ) → t < k → member t a ≡ member t b) → a ≡ b
same_below zero a b ha hb e = omega arith
same_below (suc k) a b ha hb e =
    let p = pow-suc 2 k in
    let low : a % 2 ≡ b % 2 =
    same_bit (a % 2) (b % 2) (bit_lt a) (bit_lt b) (sym (member-low a) ∙ e 0 (zero-lt-suc k) ∙ member-low b) in
    let high : a / 2 ≡ b / 2 =
    same_below k (a / 2) (b / 2) (omega arith) (omega arith)
    (λ t h. sym (member-high t a) ∙ e (suc t) (Prim.Native.Nat.suc-le-suc h) ∙ member-high t b) in
    omega arith

pub same : (a b : ℕ) → a < 8192 → b < 8192 → ((t : ℕ) → t < 13 → member t a ≡ member t b) → a ≡ b
same a b ha hb e = same_below 13 a b ha hb e

-- ---- no member, one member, and marks above the thirteen

pub member-none : (t : ℕ) → member t 0 ≡ false
unfolding member
member-none t = ap (λ (x : ℕ). eqb (x % 2) 1) (zero-div (2 ^ t))

mark_test : T (all 13 (λ v. all 13 (λ u. same_test (member u (2 ^ v)) (eqb u v))))
unfolding member same_test
mark_test = tt

-- the set of v alone
pub member-mark : (v u : ℕ) → v < 13 → u < 13 → member u (2 ^ v) ≡ eqb u v
member-mark v u h k =
    same_test_eq (member u (2 ^ v)) (eqb u v)
    (all-at 13 (λ u. same_test (member u (2 ^ v)) (eqb u v))
    (all-at 13 (λ v. all 13 (λ u. same_test (member u (2 ^ v)) (eqb u v))) mark_test v h) u k)

pub mark_lt : (t : ℕ) → t < 13 → 2 ^ t < 8192
mark_lt t h = pow-lt h

pub member-low_marks : (t a : ℕ) → t < 13 → member t (a % 8192) ≡ member t a
unfolding member
member-low_marks t a h =
    let j = 12 - t in
    let e : (1 + j) + t ≡ 13 = omega arith in
    ap (λ (x : ℕ). eqb (x % 2) 1) (ap (λ (k : ℕ). a % 2 ^ k / 2 ^ t) (sym e) ∙ field a (1 + j) t)
    ∙ ap (λ (x : ℕ). eqb x 1) (ap (λ (k : ℕ). a / 2 ^ t % 2 ^ k % 2) (add_comm 1 j) ∙ mod-mod-pow (a / 2 ^ t) j 1)

-- ---- the set of those that pass a test

digit_lt : (x : Bool) → one_if x < 2
digit_lt true = lit< tt
digit_lt false = lit< tt

digit_test : (x : Bool) → eqb (one_if x) 1 ≡ x
digit_test true = refl
digit_test false = refl

pub set_below_lt : (k : ℕ) (p : ℕ → Bool) → set_below k p < 2 ^ k
unfolding set_below
set_below_lt zero p = lit< tt
set_below_lt (suc k) p = omega (arith, set_below_lt k (λ t. p (suc t)), pow-suc 2 k, digit_lt (p 0))

pub member-set_below : (k : ℕ) (p : ℕ → Bool) (t : ℕ) → t < k → member t (set_below k p) ≡ p t
unfolding set_below
member-set_below zero p t h = absurd (not-suc-le-zero h)
member-set_below (suc k) p zero h =
    let d = digit_lt (p 0) in
    let e : (one_if (p 0) + 2 * set_below k (λ t. p (suc t))) % 2 ≡ one_if (p 0) = omega arith in
    member-low (one_if (p 0) + 2 * set_below k (λ t. p (suc t))) ∙ ap (λ (x : ℕ). eqb x 1) e ∙ digit_test (p 0)
member-set_below (suc k) p (suc t) h =
    let d = digit_lt (p 0) in
    let e : (one_if (p 0) + 2 * set_below k (λ t. p (suc t))) / 2 ≡ set_below k (λ t. p (suc t)) = omega arith in
    member-high t (one_if (p 0) + 2 * set_below k (λ t. p (suc t))) ∙ ap (λ (x : ℕ). member t x) e
    ∙ member-set_below k (λ t. p (suc t)) t (le_of_suc-le-suc h)

pub set_of_lt : (p : ℕ → Bool) → set_of p < 8192
unfolding set_of
set_of_lt p = set_below_lt 13 p

pub member-set_of : (p : ℕ → Bool) (t : ℕ) → t < 13 → member t (set_of p) ≡ p t
unfolding set_of
member-set_of p t h = member-set_below 13 p t h

-- two sets that lie inside one another are equal
pub same-inside : (a b : ℕ) → a < 8192 → b < 8192 → Inside a b → Inside b a → a ≡ b
same-inside a b h k i j =
    same a b h k (λ t l. both_ways (member t a) (member t b) (i.each t l) (j.each t l))

-- ---- inside a union

pub inside_or_left : (a b : ℕ) → Inside a (bit_or a b)
inside_or_left a b = record { each = λ t h w. subst T (sym (member_or t a b)) (or_left (member t a) (member t b) w) }

pub inside_or_right : (a b : ℕ) → Inside b (bit_or a b)
inside_or_right a b = record { each = λ t h w. subst T (sym (member_or t a b)) (or_right (member t a) (member t b) w) }

pub or_inside : (a b c : ℕ) → Inside a c → Inside b c → Inside (bit_or a b) c
or_inside a b c i j =
    record { each = λ t h w. or_cases (member t a) (member t b) (subst T (member_or t a b) w) (T (member t c)) (i.each t h) (j.each t h) }

-- ---- inside, as a cut that changes nothing

pub and_inside : (a b : ℕ) → bit_and a b ≡ a → Inside a b
and_inside a b e =
    record { each = λ t h w. and_right (member t a) (member t b) (subst T (sym (ap (member t) e) ∙ member_and t a b) w) }

pub inside_and : (a b : ℕ) → a < 8192 → Inside a b → bit_and a b ≡ a
inside_and a b h i =
    let l : bit_and a b < 8192 = omega (arith, and_le_l a b) in
    same (bit_and a b) a l h
    (λ t k. member_and t a b
    ∙ both_ways (member t a && member t b) (member t a) (and_left (member t a) (member t b))
    (λ w. and_both (member t a) (member t b) w (i.each t k w)))
