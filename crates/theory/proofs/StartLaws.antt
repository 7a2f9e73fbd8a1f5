-- The list that quick closing starts with holds every pair, once.
use mathlib.Core.Path.{◌≡◌, refl}
use mathlib.Core.Logic.{◌⊎◌, inl, inr, ⊎_elim}
use mathlib.Core.List.{List, [], ◌∷◌, ◌++◌, append-nil, append_assoc}
use borrow.Author.Tests.{eq-eqb}
use Prim.Native.Nat.{ℕ, zero, suc, ◌+◌, ◌-◌, ◌*◌, ◌/◌, ◌%◌, ◌≤◌, ◌<◌}
use native.Mathlib.Omega.{arith}
use native.Mathlib.Decide.{ℕ_discrete, dec_lt}
use lib.ListN.{length, length-append}
use Rattle.theory.specs.Calculus.{Calculus}
use Rattle.theory.specs.Line.{IsPair, Pairs, pair_of, joins, occurs, row_to, rows_to, all_pairs}
use Rattle.theory.proofs.LineLaws.{occurs-append, occurs-cons-same, occurs-cons-other, occurs_nil, pair_ok}
use Rattle.theory.proofs.SettledLaws.{Settled, Waits}

snoc_cases : (x y : ℕ) (q : List ℕ) → 0 < occurs x (q ++ (y ∷ [])) → (0 < occurs x q) ⊎ (x ≡ y)
snoc_cases x y q h = go (ℕ_discrete x y)
  where
    go : Dec (x ≡ y) → (0 < occurs x q) ⊎ (x ≡ y)
    go (yes e) = inr e
    go (no ne) = inl (omega (arith, h, occurs-append x q (y ∷ []), occurs-cons-other x y [] ne, occurs_nil x))

row_in : (i c x : ℕ) → 0 < occurs x (row_to i c) → (i * 32 + i < x) × (x ≤ i * 32 + i + c)
unfolding row_to
row_in i zero x h = absurd (omega (arith, h, occurs_nil x))
row_in i (suc c) x h =
    ⊎_elim (λ w. let r : (i * 32 + i < x) × (x ≤ i * 32 + i + c) = row_in i c x w in (omega arith, omega arith)) (λ e. (omega arith, omega arith))
    (snoc_cases x (i * 32 + (i + 1 + c)) (row_to i c) h)

row_has : (i c x : ℕ) → i * 32 + i < x → x ≤ i * 32 + i + c → 0 < occurs x (row_to i c)
unfolding row_to
row_has i zero x lo hi = absurd (omega arith)
row_has i (suc c) x lo hi = go (row_has i c x lo) (ℕ_discrete x (i * 32 + (i + 1 + c)))
  where
    go : (x ≤ i * 32 + i + c → 0 < occurs x (row_to i c)) → Dec (x ≡ i * 32 + (i + 1 + c)) → 0 < occurs x (row_to i c ++ ((i * 32 + (i + 1 + c)) ∷ []))
    go r (yes e) = rw e (omega (arith, occurs-append (i * 32 + (i + 1 + c)) (row_to i c) ((i * 32 + (i + 1 + c)) ∷ []), occurs-cons-same (i * 32 + (i + 1 + c)) []))
    go r (no ne) = omega (arith, occurs-append x (row_to i c) ((i * 32 + (i + 1 + c)) ∷ []), r (omega arith))

append_cases : (x : ℕ) (q r : List ℕ) → 0 < occurs x (q ++ r) → (0 < occurs x q) ⊎ (0 < occurs x r)
append_cases x q r h = go (dec_lt 0 (occurs x q))
  where
    go : Dec (0 < occurs x q) → (0 < occurs x q) ⊎ (0 < occurs x r)
    go (yes e) = inl e
    go (no ne) = inr (omega (arith, h, occurs-append x q r))

rows_in : (n i x : ℕ) → n ≤ 32 → i ≤ n → 0 < occurs x (rows_to n i) → (x / 32 < i) × (x / 32 < x % 32) × (x % 32 < n)
unfolding rows_to
rows_in n zero x few h w = absurd (omega (arith, w, occurs_nil x))
rows_in n (suc i) x few h w =
    ⊎_elim
    (λ v. let r : (x / 32 < i) × (x / 32 < x % 32) × (x % 32 < n) = rows_in n i x few (omega arith) v in (omega arith, r.1, r.2))
    (λ v. let r : (i * 32 + i < x) × (x ≤ i * 32 + i + (n - suc i)) = row_in i (n - suc i) x v in
    let u : x ≤ i * 32 + (n - 1) = omega arith in (omega arith, omega arith, omega arith))
    (append_cases x (rows_to n i) (row_to i (n - suc i)) w)

rows-has : (n i x : ℕ) → i ≤ n → n ≤ 32 → x / 32 < i → x / 32 < x % 32 → x % 32 < n → 0 < occurs x (rows_to n i)
unfolding rows_to
rows-has n zero x h few a b c = absurd (omega arith)
rows-has n (suc i) x h few a b c = go (λ e. rows-has n i x (omega arith) few e b c) (dec_lt (x / 32) i)
  where
    go : (x / 32 < i → 0 < occurs x (rows_to n i)) → Dec (x / 32 < i) → 0 < occurs x (rows_to n i ++ row_to i (n - suc i))
    go r (yes e) = omega (arith, occurs-append x (rows_to n i) (row_to i (n - suc i)), r e)
    go r (no ne) =
        let e : x / 32 ≡ i = omega arith in
        let z : n ≡ i + 1 + (n - suc i) = omega arith in
        omega (arith, occurs-append x (rows_to n i) (row_to i (n - suc i)), row_has i (n - suc i) x (omega arith) (omega arith))

pub pairs-all : (n : ℕ) → n ≤ 32 → Pairs n (all_pairs n)
unfolding all_pairs
pairs-all n few p h = let r = rows_in n n p few (omega arith) h in (r.1, r.2)

-- no events, no pairs
pub pairs-none : (n : ℕ) → n ≡ 0 → all_pairs n ≡ []
unfolding all_pairs rows_to
pairs-none n e = rw e

pub waits_all : (n a b : ℕ) → n ≤ 32 → a < n → b < n → (a ≡ b → ⊥) → Waits (all_pairs n) a b
unfolding all_pairs
waits_all n a b few ha hb ne =
    let ok : IsPair n (pair_of a b) = pair_ok n a b few ha hb ne in
    rows-has n n (pair_of a b) (omega arith) few (omega (arith, ok)) ok.0 ok.1

pub settled-start : (A : Calculus) (n : ℕ) → n ≤ 32 → (g : List ℕ) → Settled A n g (all_pairs n)
settled-start A n few g a b c t = inr (inl (waits_all n a c few t.ha t.hc t.ac))

length-row : (i c : ℕ) → length (row_to i c) ≡ c
unfolding row_to
length-row i zero = refl
length-row i (suc c) = omega (arith, length-append (row_to i c) ((i * 32 + (i + 1 + c)) ∷ []), length-row i c)

length-rows : (n i : ℕ) → i ≤ n → 2 * length (rows_to n i) + i * i + i ≡ 2 * (n * i)
unfolding rows_to
length-rows n zero h = omega arith
length-rows n (suc i) h =
    let z : n ≡ i + 1 + (n - suc i) = omega arith in
    omega (arith, length-append (rows_to n i) (row_to i (n - suc i)), length-row i (n - suc i), length-rows n i (omega arith))

pub length-all : (n : ℕ) → 2 * length (all_pairs n) + n ≡ n * n
unfolding all_pairs
length-all n = omega (arith, length-rows n n (omega arith))

-- the rows before row i, and of row i what lies before (i, j)
unfoldable pub rows_and : ℕ → ℕ → ℕ → List ℕ
rows_and n i j = rows_to n i ++ row_to i (j - (i + 1))

pub rows_begin : (n i : ℕ) → rows_and n i (i + 1) ≡ rows_to n i
unfolding rows_and row_to
rows_begin n i = let e : i + 1 - (i + 1) ≡ 0 = omega arith in rw e (append-nil (rows_to n i))

pub rows_end : (n i : ℕ) → rows_and n i n ≡ rows_to n (i + 1)
unfolding rows_and rows_to
rows_end n i = let e : i + 1 ≡ suc i = omega arith in rw e refl

pub rows_join : (n i j : ℕ) → n ≤ 32 → i < j → j < n → joins (i * 32 + j) (rows_and n i j) ≡ rows_and n i (j + 1)
unfolding rows_and row_to joins
rows_join n i j few hi hj =
    let p = i * 32 + j in
    let q = rows_to n i ++ row_to i (j - (i + 1)) in
    let e : j + 1 - (i + 1) ≡ suc (j - (i + 1)) = omega arith in
    let f : i * 32 + (i + 1 + (j - (i + 1))) ≡ p = omega arith in
    rw (eq-eqb (occurs p q) 0 (fresh p q (λ w. ⊎_elim (λ a. omega (arith, rows_in n i p few (omega arith) a)) (λ b. omega (arith, row_in i (j - (i + 1)) p b)) (append_cases p (rows_to n i) (row_to i (j - (i + 1))) w))), e, f)
    (append_assoc (rows_to n i) (row_to i (j - (i + 1))) (p ∷ []))
  where
    fresh : (p : ℕ) (q : List ℕ) → (0 < occurs p q → ⊥) → occurs p q ≡ 0
    fresh p q h = omega arith

pub rows_none : (n : ℕ) → rows_to n 0 ≡ []
unfolding rows_to
rows_none n = refl

pub rows_all : (n : ℕ) → rows_to n n ≡ all_pairs n
unfolding all_pairs
rows_all n = refl
