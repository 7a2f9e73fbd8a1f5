-- The lowest member of a set, and the set without it.
use mathlib.Core.Path.{◌≡◌, refl, sym, ap, ◌∙◌}
use mathlib.Core.Bool.{true, false}
use Prim.Native.Nat.{ℕ, zero, suc, ◌+◌, ◌-◌, ◌*◌, ◌/◌, ◌%◌, ◌^◌, ◌<◌, ◌≤◌, min, suc-le-suc}
use native.Mathlib.Nat.{pow-suc, not-suc-le-zero, zero-lt-suc, le_of_suc-le-suc, lt_of_not-le}
use native.Mathlib.Omega.{arith}
use lib.Dec.{T, eqb}
use lib.Pow.{pow_mono}
use lib.Bits.{bit_and, and_self, and_step}
use lib.Count.{count_trailing_zeros, under}
use borrow.Author.Tests.{eqb-true}
use Rattle.relation.specs.Sets.{member}
use Rattle.relation.proofs.Tested.{T_of}
use Rattle.relation.proofs.SetLaws.{member-low, member-high}

-- t is the lowest member of a, of those below k
pub record Lowest (k a t : ℕ) : Type 0 where
  pub below : t < k
  pub is_in : member t a ≡ true
  pub first : (u : ℕ) → u < t → member u a ≡ false

pub lowest : (k n : ℕ) → zero < n → n < 2 ^ k → Lowest k n (count_trailing_zeros k n)
unfolding count_trailing_zeros
lowest zero n h l = absurd (not-suc-le-zero (le_of_suc_le_suc_lt h l))
  where
    le_of_suc_le_suc_lt : zero < n → n < 1 → zero < zero
    le_of_suc_le_suc_lt p q = omega arith
lowest (suc k) n h l = go (n % 2) refl (λ p. lowest k (n / 2) p (let e = pow-suc 2 k in omega arith))
  where
    under_first : {t : ℕ} → member zero n ≡ false → ((u : ℕ) → u < t → member (suc u) n ≡ false)
        → (u : ℕ) → u < suc t → member u n ≡ false
    under_first z f zero h = z
    under_first z f (suc u) h = f u (le_of_suc-le-suc h)

    go : (d : ℕ) → n % 2 ≡ d → (zero < n / 2 → Lowest k (n / 2) (count_trailing_zeros k (n / 2)))
        → Lowest (suc k) n (under d (count_trailing_zeros k (n / 2)))
    go zero e f =
        let r = f (omega arith) in
        record {
          below = suc-le-suc r.below;
          is_in = member-high (count_trailing_zeros k (n / 2)) n ∙ r.is_in;
          first = under_first (member-low n ∙ ap (λ (x : ℕ). eqb x 1) e) (λ u h. member-high u n ∙ r.first u h);
        }
    go (suc d) e f =
        let one : n % 2 ≡ 1 = omega arith in
        record { below = zero-lt-suc k; is_in = member-low n ∙ ap (λ (x : ℕ). eqb x 1) one; first = λ u h. absurd (not-suc-le-zero h) }

-- a member's mark is no more than the set
pub mark_le : (t n : ℕ) → member t n ≡ true → 2 ^ t ≤ n
mark_le zero n e =
    let o : n % 2 ≡ 1 = eqb-true (n % 2) 1 (sym (member-low n) ∙ e) in
    omega arith
mark_le (suc t) n e =
    let p = pow-suc 2 t in
    let r = mark_le t (n / 2) (sym (member-high t n) ∙ e) in
    omega arith

-- without the lowest member: n cut with the number before it
pub cut_lowest : (k n : ℕ) → zero < n → n < 2 ^ k → bit_and n (n - 1) ≡ n - 2 ^ count_trailing_zeros k n
unfolding count_trailing_zeros
cut_lowest zero n h l = omega arith
cut_lowest (suc k) n h l = go (n % 2) refl (λ p. cut_lowest k (n / 2) p (let e = pow-suc 2 k in omega arith))
  where
    go : (d : ℕ) → n % 2 ≡ d → (zero < n / 2 → bit_and (n / 2) (n / 2 - 1) ≡ n / 2 - 2 ^ count_trailing_zeros k (n / 2))
        → bit_and n (n - 1) ≡ n - 2 ^ under d (count_trailing_zeros k (n / 2))
    go zero e f =
        let half : (n - 1) / 2 ≡ n / 2 - 1 = omega arith in
        let step : bit_and n (n - 1) ≡ bit_and (n / 2) (n / 2 - 1) * 2 + min (n % 2) ((n - 1) % 2) =
        and_step n (n - 1) ∙ ap (λ (x : ℕ). bit_and (n / 2) x * 2 + min (n % 2) ((n - 1) % 2)) half in
        let rest = f (omega arith) in
        let p = pow-suc 2 (count_trailing_zeros k (n / 2)) in
        omega arith
    go (suc d) e f =
        let half : (n - 1) / 2 ≡ n / 2 = omega arith in
        let step : bit_and n (n - 1) ≡ n / 2 * 2 + min (n % 2) ((n - 1) % 2) =
        and_step n (n - 1) ∙ ap (λ (x : ℕ). x * 2 + min (n % 2) ((n - 1) % 2)) (ap (bit_and (n / 2)) half ∙ and_self (n / 2)) in
        omega arith

-- of the thirteen
pub lowest_thirteen : (n : ℕ) → zero < n → n < 8192 → Lowest 13 n (count_trailing_zeros 16 n)
lowest_thirteen n h l =
    let r = lowest 16 n h (omega arith) in
    record { below = small (count_trailing_zeros 16 n) (mark_le (count_trailing_zeros 16 n) n r.is_in); is_in = r.is_in; first = r.first }
  where
    small : (t : ℕ) → 2 ^ t ≤ n → t < 13
    small t g = lt_of_not-le (λ (m : 13 ≤ t). let p = pow_mono m in absurd (omega arith))

-- a set that is not empty has a member
pub some-member : (a : ℕ) → 0 < a → a < 8192 → (r : ℕ) × (r < 13) × T (member r a)
some-member a h l = let w = lowest_thirteen a h l in (count_trailing_zeros 16 a, w.below, T_of w.is_in)
